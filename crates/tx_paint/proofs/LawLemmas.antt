-- Laws of drawings.
use Rattle.std.proofs.Common.{◌≡◌, ℕ, ◌+◌, ◌-◌, ◌*◌, ◌/◌, ◌<◌, ◌≤◌, ◌&&◌, ◌||◌, suc, zero, nat_le, nat_lt, ◌⊎◌, inl, inr, Bool, true, false, [], ◌∷◌, ◌++◌, length, map, get_or, Some, None, is_some, unwrap_or, if◌then◌else◌, refl, sym, ap, subst, ◌∙◌, arith, length-append}
use Rattle.std.proofs.lemmas.Bool.{cases_lt, lt-ltb}
use Rattle.std.proofs.lemmas.Bool.Decides.{nat_tests}
use Rattle.std.proofs.lemmas.List.{get_or_append_left, get_or_past, get_or-replicate}
use Rattle.std.proofs.lemmas.List.Elements.{All-get_or}
use Rattle.std.proofs.lemmas.List.FromFn.{length-map-range_with_len}
use Rattle.std.proofs.Math.Nat.{div-le_of_le-mul, max-le, mul-div_cancel_left, zero-div, zero-mul}
use Rattle.std.proofs.Math.Seq.{get_or-append_seam}
use Rattle.std.specs.List.{range_with_len}
use Rattle.tx_geom.specs.Along.{less}
use Rattle.tx_geom.specs.declared.places.Size.{Size}
use Rattle.tx_cell.specs.Cell.{CellValue, blank}
use Rattle.tx_cell.specs.Strip.{IsWellFormed}
use Rattle.tx_cell.specs.declared.pen.Pen.{Pen}
use Rattle.tx_tree.specs.Kind.{holds_children}
use Rattle.tx_tree.specs.declared.kind.Kind.{Kind}
use Rattle.tx_tree.specs.declared.kind.Kind.TheVariants.{Screen, Container, Vertical, Horizontal, Grid, VerticalScroll, Static, Label, Button, Checkbox, Input, OptionList, ProgressBar, Header, Footer, Handed}
use Rattle.tx_tree.specs.declared.kind.Private.{Private}
use Rattle.tx_value.specs.StyleReads as style
use Rattle.tx_widgets.specs.Columns.{blanks}
use Rattle.tx_widgets.specs.Drawing.{drawn_row, drawn_rows, row_by}
use Rattle.tx_widgets.specs.Form.{state_of}
use Rattle.tx_widgets.specs.declared.drawing.face.Face.{Face}
use Rattle.tx_paint.specs.Bars.{bar_at, is_thumb, thumb, thumb_cells, thumb_start, track}
use Rattle.tx_paint.specs.Drawing.{DrawingValue, IsDrawing, IsLine, across_at, content_at, content_size, down_at, drawing_of, drawn, drawn_line, face_of, inner_at, is_among, is_bar_across, is_bar_down, is_border, is_content, line_at}
use Rattle.tx_paint.specs.Edges.{border_at}
use Rattle.tx_paint.specs.Laws.{BarsAreInTheRowsPen, IsWhole, LinesAreOfTheKind, ReachesItsEnds}
use Rattle.tx_paint.specs.Pens.{pen_over}
use Rattle.tx_paint.proofs.FormedLemmas.{IsSingle, formed-singles, formed-three}
use Rattle.tx_paint.proofs.PlaceLemmas.{among-below, among-past, among-true, border-off, drawn-single, inner-off, inner-single}

pub borders-shown : (d : DrawingValue) (x y : ℕ) (cell : CellValue) → border_at d.edges d.size x y ≡ Some cell → drawn d x y ≡ cell
unfolding drawn
borders-shown d x y cell is = ap (λ border. unwrap_or border (inner_at d x y)) is

-- ---- places

either : (b : Bool) (x y : CellValue) → ((if b then x else y) ≡ x) ⊎ ((if b then x else y) ≡ y)
either true x y = inl refl
either false x y = inr refl

impossible : {A : Type 0} → false ≡ true → A
impossible e = cc

among-bounds : (from count at : ℕ) → is_among from count at ≡ true → (from ≤ at) × (at < from + count)
among-bounds from count at is =
    elim (cases_lt at from) [
      | inl below ↦ impossible (sym (among-below from count at below) ∙ is)
      | inr low ↦ elim (cases_lt at (from + count)) [ inl high ↦ (low, high) | inr past ↦ impossible (sym (among-past from count at past) ∙ is) ]
    ]

and-first : (a b : Bool) → (a && b) ≡ true → a ≡ true
and-first true b is = refl
and-first false b is = is

and-second : (a b : Bool) → (a && b) ≡ true → b ≡ true
and-second true b is = is
and-second false b is = impossible is

content-off : (d : DrawingValue) (x y : ℕ) → IsDrawing d → is_content d x y ≡ true → border_at d.edges d.size x y ≡ None
content-off d x y is inside =
    let across = among-bounds d.gutter.left (content_size d).width x (and-first _ _ inside) in
    let down = among-bounds d.gutter.top (content_size d).height y (and-second _ _ inside) in
    border-off d x y is across.0 across.1 down.0 down.1

pub borders-outside : (d : DrawingValue) (x y : ℕ) → IsDrawing d → is_content d x y ≡ true → is_border d x y ≡ false
borders-outside d x y is inside = ap (λ border. is_some border) (content-off d x y is inside)

-- inside the content is what the content shows
drawn-inside : (d : DrawingValue) (x y : ℕ) → IsDrawing d → is_content d x y ≡ true → drawn d x y ≡ content_at d (x - d.gutter.left) (y - d.gutter.top)
unfolding drawn
drawn-inside d x y is inside =
    ap (λ border. unwrap_or border (inner_at d x y)) (content-off d x y is inside)
    ∙ ap (λ (here : Bool). if here then content_at d (x - d.gutter.left) (y - d.gutter.top) else blank d.pen) inside

bar-pen : (length over scroll : ℕ) (pen : Pen) (at : ℕ) → (bar_at length over scroll pen at ≡ thumb pen) ⊎ (bar_at length over scroll pen at ≡ track pen)
unfolding bar_at
bar-pen length over scroll pen at = either (is_thumb length over scroll at) (thumb pen) (track pen)

le-not-lt : (a b : ℕ) → nat_le b a ≡ true → nat_lt a b ≡ false
le-not-lt a b le = grind (arith, nat_tests)

content-down : (d : DrawingValue) (x y : ℕ) → nat_le d.viewport.width x ≡ true → nat_lt y d.viewport.height ≡ true → content_at d x y ≡ down_at d y
content-down d x y right above =
    ap (λ (here : Bool).
    if here then (if nat_lt y d.viewport.height then line_at d x y else across_at d x)
    else (if nat_lt y d.viewport.height then down_at d y else blank d.pen))
    (le-not-lt x d.viewport.width right)
    ∙ ap (λ (here : Bool). if here then down_at d y else blank d.pen) above

content-across : (d : DrawingValue) (x y : ℕ) → nat_lt x d.viewport.width ≡ true → nat_le d.viewport.height y ≡ true → content_at d x y ≡ across_at d x
content-across d x y left below =
    ap (λ (here : Bool).
    if here then (if nat_lt y d.viewport.height then line_at d x y else across_at d x)
    else (if nat_lt y d.viewport.height then down_at d y else blank d.pen))
    left
    ∙ ap (λ (here : Bool). if here then line_at d x y else across_at d x) (le-not-lt y d.viewport.height below)

moved-along : (a b x y : CellValue) → a ≡ b → (b ≡ x) ⊎ (b ≡ y) → (a ≡ x) ⊎ (a ≡ y)
moved-along a b x y same (inl e) = inl (same ∙ e)
moved-along a b x y same (inr e) = inr (same ∙ e)

bars-pen-by : (d : DrawingValue) (x y : ℕ) (down : Bool) → IsDrawing d → is_bar_down d x y ≡ down → (down || is_bar_across d x y) ≡ true
    → (drawn d x y ≡ thumb d.pen) ⊎ (drawn d x y ≡ track d.pen)
bars-pen-by d x y true is bar some =
    let beside = and-second (is_content d x y) _ bar in
    moved-along _ _ _ _
    (drawn-inside d x y is (and-first _ _ bar) ∙ content-down d (x - d.gutter.left) (y - d.gutter.top) (and-first _ _ beside) (and-second (nat_le d.viewport.width (x - d.gutter.left)) _ beside))
    (bar-pen d.viewport.height d.over.height d.scroll.1 d.pen (y - d.gutter.top))
bars-pen-by d x y false is bar some =
    let beside = and-second (is_content d x y) _ some in
    moved-along _ _ _ _
    (drawn-inside d x y is (and-first _ _ some) ∙ content-across d (x - d.gutter.left) (y - d.gutter.top) (and-first _ _ beside) (and-second (nat_lt (x - d.gutter.left) d.viewport.width) _ beside))
    (bar-pen d.viewport.width d.over.width d.scroll.0 d.pen (x - d.gutter.left))

pub bars-pen : BarsAreInTheRowsPen
bars-pen d x y is some = bars-pen-by d x y (is_bar_down d x y) is refl some

-- ---- lines are whole

pub line-length : (d : DrawingValue) (y : ℕ) → length (drawn_line d y) ≡ d.size.width
unfolding drawn_line
line-length d y = length-map-range_with_len (λ x. drawn d x y) 0 d.size.width

-- a line whose places are all of one column
plain-line : (d : DrawingValue) (y : ℕ) → IsDrawing d → ((x : ℕ) → IsSingle (inner_at d x y)) → IsWellFormed (drawn_line d y)
unfolding drawn_line
plain-line d y is single = formed-singles (λ x. drawn d x y) 0 d.size.width (λ x _ _. drawn-single d x y is (single x))

-- there is no line with this number, or it is one of the content's
line-or-none : (d : DrawingValue) (k : ℕ) → IsDrawing d → (get_or d.lines k [] ≡ []) ⊎ IsLine d (get_or d.lines k [])
line-or-none d k is =
    elim (cases_lt k (length d.lines)) [
      | inl below ↦ inr (All-get_or (IsLine d) d.lines k [] below is.lines)
      | inr past ↦ inl (get_or_past d.lines k [] past)
    ]

and-false : (a b : Bool) → b ≡ false → (a && b) ≡ false
and-false true b off = off
and-false false b off = refl

false-first : (a b : Bool) → a ≡ false → (a && b) ≡ false
false-first a b off = ap (λ first. first && b) off

both-true : (a b : Bool) → a ≡ true → b ≡ true → (a && b) ≡ true
both-true a b first second = ap (λ c. c && b) first ∙ second

in-viewport : (d : DrawingValue) (x y : ℕ) → nat_lt x d.viewport.width ≡ true → nat_lt y d.viewport.height ≡ true → content_at d x y ≡ line_at d x y
in-viewport d x y across down =
    ap (λ (here : Bool).
    if here then (if nat_lt y d.viewport.height then line_at d x y else across_at d x)
    else (if nat_lt y d.viewport.height then down_at d y else blank d.pen))
    across
    ∙ ap (λ (here : Bool). if here then line_at d x y else across_at d x) down

-- what is shown inside the content where a line stands
inside-line : (d : DrawingValue) (k y : ℕ) → IsDrawing d → d.gutter.top ≤ y → y < d.gutter.top + (content_size d).height
    → IsLine d (get_or d.lines (y - d.gutter.top) []) → k < (content_size d).width
    → drawn d (d.gutter.left + k) y ≡ get_or (get_or d.lines (y - d.gutter.top) []) k (blank d.pen)
unfolding drawn
inside-line d k y is top bottom line below =
    let x = d.gutter.left + k in
    let off : border_at d.edges d.size x y ≡ None = border-off d x y is (omega arith) (omega arith) top bottom in
    let across : is_among d.gutter.left (content_size d).width x ≡ true = among-true _ _ x (omega arith) (omega arith) in
    let down : is_among d.gutter.top (content_size d).height y ≡ true = among-true _ _ y top bottom in
    let back : x - d.gutter.left ≡ k = omega arith in
    let wide : nat_lt k d.viewport.width ≡ true = lt-ltb k d.viewport.width (omega (arith, ap (λ (size : Size). size.width) line.viewport)) in
    let tall : nat_lt (y - d.gutter.top) d.viewport.height ≡ true =
    lt-ltb (y - d.gutter.top) d.viewport.height (omega (arith, ap (λ (size : Size). size.height) line.viewport))
    in
    ap (λ border. unwrap_or border (inner_at d x y)) off
    ∙ (ap (λ (here : Bool). if here then content_at d (x - d.gutter.left) (y - d.gutter.top) else blank d.pen) (both-true _ _ across down)
    ∙ (ap (λ column. content_at d column (y - d.gutter.top)) back ∙ in-viewport d k (y - d.gutter.top) wide tall))

-- a line of the region in a row of the content where a line stands
lined : (d : DrawingValue) (y : ℕ) → IsDrawing d → d.gutter.top ≤ y → y < d.gutter.top + (content_size d).height
    → IsLine d (get_or d.lines (y - d.gutter.top) []) → 0 < (content_size d).width → IsWellFormed (drawn_line d y)
unfolding drawn_line
lined d y is top bottom line some =
    let left = d.gutter.left in
    let width = (content_size d).width in
    let off : (x : ℕ) → is_among left width x ≡ false → IsSingle (drawn d x y) =
    λ x out. drawn-single d x y is (inner-off d x y is (false-first _ _ out))
    in
    let all : left + (width + d.gutter.right) ≡ d.size.width = omega arith in
    subst (λ n. IsWellFormed (map (λ x. drawn d x y) (range_with_len 0 n))) all
    (formed-three (λ x. drawn d x y) (blank d.pen) left width d.gutter.right (get_or d.lines (y - d.gutter.top) []) line.width line.formed
    (λ x before. off x (among-below left width x before))
    (λ k below. inside-line d k y is top bottom line below)
    (λ x behind. off x (among-past left width x behind)))

among-none : (from count at : ℕ) → count ≤ 0 → is_among from count at ≡ false
among-none from count at none =
    elim (cases_lt at from) [ inl below ↦ among-below from count at below | inr on ↦ among-past from count at (omega arith) ]

line-formed : (d : DrawingValue) (y : ℕ) → IsDrawing d → IsWellFormed (drawn_line d y)
line-formed d y is =
    let top = d.gutter.top in
    let size = content_size d in
    elim (line-or-none d (y - top) is) [
      | inl none ↦ plain-line d y is (λ x. inner-single d x y is none)
      | inr line ↦ elim (cases_lt y top) [
        | inl above ↦ plain-line d y is (λ x. inner-off d x y is (and-false _ _ (among-below top size.height y above)))
        | inr from ↦ elim (cases_lt y (top + size.height)) [
          | inl below ↦ elim (cases_lt 0 size.width) [
            | inl some ↦ lined d y is from below line some
            | inr none ↦ plain-line d y is (λ x. inner-off d x y is (false-first _ _ (among-none d.gutter.left size.width x none)))
          ]
          | inr past ↦ plain-line d y is (λ x. inner-off d x y is (and-false _ _ (among-past top size.height y past)))
        ]
      ]
    ]

pub lines-whole : (d : DrawingValue) (y : ℕ) → IsDrawing d → IsWhole d.size.width (drawn_line d y)
lines-whole d y is = record { width = line-length d y; formed = line-formed d y is }

-- ---- lines are of the kind

length-drawn_rows : (face : Face) (count : ℕ) → length (drawn_rows face count) ≡ count
unfolding drawn_rows
length-drawn_rows face zero = refl
length-drawn_rows face (suc count) = omega (arith, length-append (drawn_rows face count) (drawn_row face count ∷ []), length-drawn_rows face count)

row-at : (face : Face) (count y : ℕ) → y < count → get_or (drawn_rows face count) y [] ≡ drawn_row face y
unfolding drawn_rows
row-at face zero y below = absurd (omega arith)
row-at face (suc count) y below =
    let rows = drawn_rows face count in
    let long : length rows ≡ count = length-drawn_rows face count in
    elim (cases_lt y count) [
      | inl before ↦ get_or_append_left rows (drawn_row face count ∷ []) [] y (omega (arith, long)) ∙ row-at face count y before
      | inr from ↦
          let last : y ≡ length rows = omega (arith, long) in
          let same : count ≡ y = omega arith in
          ap (λ n. get_or (rows ++ drawn_row face count ∷ []) n []) last ∙ get_or-append_seam rows (drawn_row face count) [] [] ∙ ap (λ n. drawn_row face n) same
    ]

blank-row : (kind : Kind) (private : Private) (face : Face) (y : ℕ) → holds_children kind ≡ true → row_by kind private face y ≡ blanks face.content.width face.pen
blank-row Screen private face y holds = refl
blank-row Container private face y holds = refl
blank-row Vertical private face y holds = refl
blank-row Horizontal private face y holds = refl
blank-row Grid private face y holds = refl
blank-row VerticalScroll private face y holds = refl
blank-row Static private face y holds = cc
blank-row Label private face y holds = cc
blank-row Button private face y holds = cc
blank-row Checkbox private face y holds = cc
blank-row Input private face y holds = cc
blank-row OptionList private face y holds = cc
blank-row ProgressBar private face y holds = cc
blank-row Header private face y holds = cc
blank-row Footer private face y holds = cc
blank-row (Handed name) private face y holds = cc

blank-drawn : (face : Face) (y : ℕ) → holds_children face.kind ≡ true → drawn_row face y ≡ blanks face.content.width face.pen
unfolding drawn_row
blank-drawn face y holds = blank-row face.kind (state_of face.kind face.text.now face.private) face y holds

lines-by : (face : Face) (holds : Bool) (x y : ℕ) → holds_children face.kind ≡ holds → x < face.content.width → y < face.content.height
    → get_or (get_or (if holds then [] else drawn_rows face face.content.height) y []) x (blank face.pen) ≡ get_or (drawn_row face y) x (blank face.pen)
lines-by face true x y is inside below =
    ap (λ line. get_or line x (blank face.pen)) (get_or_past [] y [] (omega arith)) ∙ get_or_past [] x (blank face.pen) (omega arith)
    ∙ sym (ap (λ row. get_or row x (blank face.pen)) (blank-drawn face y is) ∙ get_or-replicate face.content.width x (blank face.pen) (blank face.pen) inside)
lines-by face false x y is inside below = ap (λ line. get_or line x (blank face.pen)) (row-at face face.content.height y below)

pub lines-of-kind : LinesAreOfTheKind
unfolding drawing_of
lines-of-kind dark values under kind text private focused placement x y inside below =
    let content = less placement.size (style.gutter values) in
    lines-by (face_of values (pen_over dark values under) content kind text private focused) (holds_children kind) x y refl inside below

-- ---- thumbs

share-few : (length over : ℕ) → 0 < over → length * length / (length + over) ≤ length
share-few length over some = div-le_of_le-mul (length + over) (omega arith)

pub thumb-ends : (length over : ℕ) → 0 < length → 0 < over → ReachesItsEnds length over
thumb-ends length over long some =
    let few : thumb_cells length over ≤ length = max-le (omega arith) (share-few length over some) in
    let all : thumb_start length over over ≡ length - thumb_cells length over = mul-div_cancel_left (length - thumb_cells length over) some in
    record {
      start = ap (λ n. n / over) (zero-mul (length - thumb_cells length over)) ∙ zero-div over;
      end = omega (arith, all, few);
    }
