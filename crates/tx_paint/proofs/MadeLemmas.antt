-- What is made of a row is a drawing.
use Rattle.std.proofs.Common.{◌≡◌, ℕ, ◌+◌, ◌≤◌, zero, suc, Bool, true, false, List, [], ◌∷◌, ◌++◌, length, Option, Some, None, IfSome, is_some, option_map, if◌then◌else◌, refl, sym, ap, ap₂, subst, ◌∙◌, arith}
use Rattle.std.proofs.lemmas.List.Elements.{All-nil}
use Rattle.std.specs.Borrow.{Bor}
use Rattle.std.specs.List.{All}
use Rattle.tx_geom.specs.Along.{less}
use Rattle.tx_geom.specs.declared.choices.AlignX.{AlignX}
use Rattle.tx_geom.specs.declared.choices.AlignY.{AlignY}
use Rattle.tx_geom.specs.declared.choices.Edge.{Edge}
use Rattle.tx_geom.specs.declared.choices.Edge.TheVariants.{Top, Right, Bottom, Left}
use Rattle.tx_geom.specs.declared.colours.Rgb.{Rgb}
use Rattle.tx_geom.specs.declared.places.Size.{Size}
use Rattle.tx_geom.specs.declared.places.Spacing.{Spacing}
use Rattle.tx_cell.specs.Cell.{CellValue}
use Rattle.tx_cell.specs.Pen.{HasByteChannels}
use Rattle.tx_cell.specs.Strip.{IsWellFormed}
use Rattle.tx_cell.specs.declared.pen.Pen.{Pen}
use Rattle.tx_tree.specs.Kind.{holds_children}
use Rattle.tx_tree.specs.declared.kind.Kind.{Kind}
use Rattle.tx_tree.specs.declared.kind.Kind.TheVariants.{Screen, Container, Vertical, Horizontal, Grid, VerticalScroll, Static, Label, Button, Checkbox, Input, OptionList, ProgressBar, Header, Footer, Handed}
use Rattle.tx_tree.specs.declared.kind.Private.{Private}
use Rattle.tx_value.specs.StyleReads as style
use Rattle.tx_value.specs.declared.reads.values.Border.{Border}
use Rattle.tx_value.specs.declared.value.Value.{Value}
use Rattle.tx_widgets.specs.Drawing.{drawn_row, drawn_rows, lines_row, row_by}
use Rattle.tx_widgets.specs.Form.{state_of}
use Rattle.tx_widgets.specs.declared.drawing.face.Face.{Face}
use Rattle.tx_paint.specs.Drawing.{DrawingValue, IsDrawing, IsLine, IsSet, content_size, drawing_of, face_of, lines_of, viewport_of}
use Rattle.tx_paint.specs.Edges.{HasByteInk, HasByteInks, edges_of, stroke_of}
use Rattle.tx_paint.specs.Pens.{pen_over}
use Rattle.tx_paint.specs.declared.edges.Edges.{Edges}
use Rattle.tx_paint.specs.declared.edges.Stroke.{Stroke}
use Rattle.tx_paint.specs.declared.placement.Placement.{Placement}

set-by : (border : Option Border) (stroke : Border → Stroke) (room : ℕ) → (if is_some border then 1 else 0) ≤ room → HasByteInk (option_map stroke border)
    → IfSome (option_map stroke border) (IsSet room)
set-by None stroke room some channels = tt
set-by (Some border) stroke room some channels = record { some = some; channels = channels }

-- before the content lies at least the edge itself, where it is set
set-edge : (dark : Bool) (values : List Value) (pen : Pen) (edge : Edge) (room : ℕ) → style.border_cells edge values ≤ room
    → HasByteInk (stroke_of dark values pen edge) → IfSome (stroke_of dark values pen edge) (IsSet room)
set-edge dark values pen edge room some channels = set-by (style.border edge values) _ room some channels

lines-are : (d : DrawingValue) (holds : Bool) (rows : List (List CellValue)) (viewport : Size) → d.lines ≡ (if holds then [] else rows)
    → d.viewport ≡ (if holds then viewport else content_size d) → All (λ line. length line ≡ (content_size d).width) d.lines → All IsWellFormed d.lines
    → All (IsLine d) d.lines
lines-are d true rows viewport lines_are viewport_is width formed = subst (All (IsLine d)) (sym lines_are) (All-nil (IsLine d))
lines-are d false rows viewport lines_are viewport_is width formed =
    λ k none below. record { width = width k none below; viewport = viewport_is; formed = formed k none below }

pub drawing-is : (d : DrawingValue) (dark : Bool) (values : List Value) (holds : Bool) (rows : List (List CellValue)) (viewport : Size)
    → d.gutter ≡ style.gutter values → HasByteChannels d.pen → d.edges ≡ edges_of dark values d.pen → HasByteInks d.edges
    → d.lines ≡ (if holds then [] else rows) → d.viewport ≡ (if holds then viewport else content_size d)
    → All (λ line. length line ≡ (content_size d).width) d.lines → All IsWellFormed d.lines
    → IsDrawing d
drawing-is d dark values holds rows viewport gutter_is channels edges_are inks lines_are viewport_is width formed =
    let P : Edges → Type 0 = HasByteInks in
    let set = subst P edges_are inks in
    record {
      pen = channels;
      top = subst (λ (e : Edges). IfSome e.top (IsSet d.gutter.top)) (sym edges_are) (set-edge dark values d.pen Top d.gutter.top (omega (arith, ap (λ (s : Spacing). s.top) gutter_is)) set.top);
      right = subst (λ (e : Edges). IfSome e.right (IsSet d.gutter.right)) (sym edges_are) (set-edge dark values d.pen Right d.gutter.right (omega (arith, ap (λ (s : Spacing). s.right) gutter_is)) set.right);
      bottom = subst (λ (e : Edges). IfSome e.bottom (IsSet d.gutter.bottom)) (sym edges_are) (set-edge dark values d.pen Bottom d.gutter.bottom (omega (arith, ap (λ (s : Spacing). s.bottom) gutter_is)) set.bottom);
      left = subst (λ (e : Edges). IfSome e.left (IsSet d.gutter.left)) (sym edges_are) (set-edge dark values d.pen Left d.gutter.left (omega (arith, ap (λ (s : Spacing). s.left) gutter_is)) set.left);
      lines = lines-are d holds rows viewport lines_are viewport_is width formed;
    }

-- ---- where a text stands doesn't matter

abbrev face-with : Kind → Bor (List ℕ) → Private → Bool → Size → AlignX × AlignY → AlignX → Pen → Face
face-with kind text private focused content align text_align pen =
    record { kind = kind; text = text; private = private; focused = focused; content = content; align = align; text_align = text_align; pen = pen }

row-same : (kind : Kind) (state : Private) (p q : ℕ × ℕ) (text : List ℕ) (private : Private) (focused : Bool) (content : Size) (align : AlignX × AlignY) (text_align : AlignX)
    (pen : Pen) (y : ℕ)
    → row_by kind state (face-with kind (record { ref_ptr = p; now = text }) private focused content align text_align pen) y
    ≡ row_by kind state (face-with kind (record { ref_ptr = q; now = text }) private focused content align text_align pen) y
unfolding lines_row
row-same Screen state p q text private focused content align text_align pen y = refl
row-same Container state p q text private focused content align text_align pen y = refl
row-same Vertical state p q text private focused content align text_align pen y = refl
row-same Horizontal state p q text private focused content align text_align pen y = refl
row-same Grid state p q text private focused content align text_align pen y = refl
row-same VerticalScroll state p q text private focused content align text_align pen y = refl
row-same Static state p q text private focused content align text_align pen y = refl
row-same Label state p q text private focused content align text_align pen y = refl
row-same Button state p q text private focused content align text_align pen y = refl
row-same Checkbox state p q text private focused content align text_align pen y = refl
row-same Input state p q text private focused content align text_align pen y = refl
row-same OptionList state p q text private focused content align text_align pen y = refl
row-same ProgressBar state p q text private focused content align text_align pen y = refl
row-same Header state p q text private focused content align text_align pen y = refl
row-same Footer state p q text private focused content align text_align pen y = refl
row-same (Handed name) state p q text private focused content align text_align pen y = refl

drawn-same : (kind : Kind) (p q : ℕ × ℕ) (text : List ℕ) (private : Private) (focused : Bool) (content : Size) (align : AlignX × AlignY) (text_align : AlignX)
    (pen : Pen) (y : ℕ)
    → drawn_row (face-with kind (record { ref_ptr = p; now = text }) private focused content align text_align pen) y
    ≡ drawn_row (face-with kind (record { ref_ptr = q; now = text }) private focused content align text_align pen) y
unfolding drawn_row
drawn-same kind p q text private focused content align text_align pen y =
    row-same kind (state_of kind text private) p q text private focused content align text_align pen y

rows-same : (kind : Kind) (p q : ℕ × ℕ) (text : List ℕ) (private : Private) (focused : Bool) (content : Size) (align : AlignX × AlignY) (text_align : AlignX)
    (pen : Pen) (count : ℕ)
    → drawn_rows (face-with kind (record { ref_ptr = p; now = text }) private focused content align text_align pen) count
    ≡ drawn_rows (face-with kind (record { ref_ptr = q; now = text }) private focused content align text_align pen) count
unfolding drawn_rows
rows-same kind p q text private focused content align text_align pen zero = refl
rows-same kind p q text private focused content align text_align pen (suc count) =
    ap₂ (λ rows row. rows ++ row ∷ []) (rows-same kind p q text private focused content align text_align pen count)
    (drawn-same kind p q text private focused content align text_align pen count)

of-lines : (values : List Value) (kind : Kind) (text : Bor (List ℕ)) (private : Private) (focused : Bool) (content : Size) (align : AlignX × AlignY) (text_align : AlignX)
    (pen : Pen) (lines : List (List CellValue)) → align ≡ style.content_align values → text_align ≡ style.text_align values
    → lines ≡ lines_of kind (face-with kind text private focused content align text_align pen)
    → lines ≡ lines_of kind (face_of values pen content kind text.now private focused)
of-lines values kind text private focused content align text_align pen lines align_is text_is lines_are =
    lines_are
    ∙ ap₂ (λ a t. lines_of kind (face-with kind text private focused content a t pen)) align_is text_is
    ∙ ap (λ rows. if holds_children kind then [] else rows)
    (rows-same kind text.ref_ptr (0, 0) text.now private focused content (style.content_align values) (style.text_align values) pen content.height)

-- ---- what is made

module _ (dark : Bool) (values : List Value) (under : Rgb) (kind : Kind) (text : Bor (List ℕ)) (private : Private) (focused : Bool) (placement : Placement)
    (pen : Pen) (gutter : Spacing) (content : Size) (align : AlignX × AlignY) (text_align : AlignX) (edges : Edges) (viewport : Size) (lines : List (List CellValue))
    (pen_is : pen ≡ pen_over dark values under) (gutter_is : gutter ≡ style.gutter values) (content_is : content ≡ less placement.size gutter)
    (align_is : align ≡ style.content_align values) (text_is : text_align ≡ style.text_align values)
    (edges_are : edges ≡ edges_of dark values pen) (viewport_is : viewport ≡ viewport_of kind content placement.viewport)
    (lines_are : lines ≡ lines_of kind (face-with kind text private focused content align text_align pen)) where
  abbrev made : DrawingValue
  made =
      record {
        size = placement.size;
        gutter = gutter;
        pen = pen;
        edges = edges;
        viewport = viewport;
        over = placement.over;
        scroll = placement.scroll;
        lines = lines;
      }

  pub made-is : made ≡ drawing_of dark values under kind text.now private focused placement
  unfolding drawing_of
  made-is =
      let inside : content ≡ less placement.size (style.gutter values) = content_is ∙ ap (λ g. less placement.size g) gutter_is in
      let edges' : edges ≡ edges_of dark values (pen_over dark values under) = edges_are ∙ ap (λ p. edges_of dark values p) pen_is in
      let viewport' : viewport ≡ viewport_of kind (less placement.size (style.gutter values)) placement.viewport =
      viewport_is ∙ ap (λ c. viewport_of kind c placement.viewport) inside
      in
      let lines' : lines ≡ lines_of kind (face_of values (pen_over dark values under) (less placement.size (style.gutter values)) kind text.now private focused) =
      of-lines values kind text private focused content align text_align pen lines align_is text_is lines_are
      ∙ ap₂ (λ p c. lines_of kind (face_of values p c kind text.now private focused)) pen_is inside
      in
      λ i. record {
        size = placement.size;
        gutter = gutter_is i;
        pen = pen_is i;
        edges = edges' i;
        viewport = viewport' i;
        over = placement.over;
        scroll = placement.scroll;
        lines = lines' i;
      }

  pub made-shape : HasByteChannels pen → HasByteInks edges → All (λ line. length line ≡ content.width) lines → All IsWellFormed lines → IsDrawing made
  made-shape channels inks width formed =
      drawing-is made dark values (holds_children kind) (drawn_rows (face-with kind text private focused content align text_align pen) content.height) placement.viewport
      gutter_is channels edges_are inks lines_are (viewport_is ∙ ap (λ c. viewport_of kind c placement.viewport) content_is)
      (subst (λ (c : Size). All (λ line. length line ≡ c.width) lines) content_is width) formed
