-- Rows of lines, of a list and of a Checkbox.
use Rattle.std.proofs.Common.{◌≡◌, ◌-◌, ◌+◌, ◌≤◌, ℕ, min, suc, List, [], ◌∷◌, ◌++◌, Bool, true, false, length, refl, sym, ap, ap₂, ◌∙◌, add-one, arith}
use Rattle.std.proofs.lemmas.Bool.{le-ltb}
use Rattle.std.specs.Option.{option_map_or}
use Rattle.std.specs.Prelude.{Some, None, ◌==◌, slice_get}
use Rattle.tx_cell.specs.Cell.{CellValue}
use Rattle.tx_cell.specs.Lines.{text_lines}
use Rattle.tx_cell.specs.Strip.{line_cells}
use Rattle.tx_cell.specs.declared.pen.Pen.{Pen}
use Rattle.tx_widgets.specs.Columns.{blanks, window}
use Rattle.tx_widgets.specs.Drawing.{box_row, box_text, drawn_row, drawn_rows, first_of, lines_row, row_by}
use Rattle.tx_widgets.specs.Form.{state_of}
use Rattle.tx_tree.specs.declared.kind.Private.{Private}
use Rattle.tx_widgets.specs.Options.{option_cells, option_pen, option_row}
use Rattle.tx_widgets.specs.TextRows.{placed, row_from, start_column, top_row, widest_of}
use Rattle.tx_widgets.specs.declared.drawing.face.Face.{Face}
use Rattle.tx_widgets.proofs.CutLemmas.{length-window, window-ascii}
use Rattle.tx_widgets.proofs.FieldLemmas.{cut_front-line}
use Rattle.tx_widgets.proofs.SingleLemmas.{line_cells-box}

-- the row in which a line stands
pub row_from-some : (top : ℕ) (place : List CellValue → List CellValue) (none : List CellValue) (lines : List (List CellValue)) (y : ℕ) (line : List CellValue)
    → top ≤ y → Some line ≡ slice_get lines (y - top) → row_from top place none lines y ≡ place line
row_from-some top place none lines y line below is = rw (le-ltb y top below, ← is) refl

pub lines_row-some : (face : Face) (lines : List (List CellValue)) (y top start widest columns : ℕ) (line : List CellValue)
    → top ≡ top_row face.align.1 face.content.height (length lines) → top ≤ y → Some line ≡ slice_get lines (y - top)
    → start ≡ start_column face.text_align face.align.0 face.content.width widest columns → widest ≡ widest_of lines → columns ≡ length line
    → placed start face.content.width face.pen line ≡ lines_row face lines y
unfolding lines_row
lines_row-some face lines y top start widest columns line top_is below is start_is widest_is columns_is =
    ap (λ s. placed s face.content.width face.pen line)
    (start_is ∙ ap₂ (λ w n. start_column face.text_align face.align.0 face.content.width w n) widest_is columns_is)
    ∙ sym (ap (λ t. row_from t (λ l. placed (start_column face.text_align face.align.0 face.content.width (widest_of lines) (length l)) face.content.width face.pen l) (blanks face.content.width face.pen) lines y) (sym top_is)
    ∙ row_from-some top (λ l. placed (start_column face.text_align face.align.0 face.content.width (widest_of lines) (length l)) face.content.width face.pen l) (blanks face.content.width face.pen) lines y line below is)

pub option_row-none : (chosen width : ℕ) (pen : Pen) (lines : List (List ℕ)) (number : ℕ) → None ≡ slice_get lines number
    → blanks width pen ≡ option_row chosen width pen lines number
option_row-none chosen width pen lines number is = ap (λ found. option_map_or (option_cells width (option_pen (number == chosen) pen)) found (blanks width pen)) is

pub option_row-some : (chosen width : ℕ) (pen mark : Pen) (lines : List (List ℕ)) (number : ℕ) (line : List ℕ) → Some line ≡ slice_get lines number
    → mark ≡ option_pen (number == chosen) pen → option_cells width mark line ≡ option_row chosen width pen lines number
option_row-some chosen width pen mark lines number line is mark_is =
    ap (λ p. option_cells width p line) mark_is
    ∙ ap (λ found. option_map_or (option_cells width (option_pen (number == chosen) pen)) found (blanks width pen)) is

pub length-box_text : (on : Bool) → length (box_text on) ≡ 4
length-box_text true = refl
length-box_text false = refl

pub box-made : (on : Bool) (width : ℕ) (pen : Pen) (text : List ℕ) (mark line shown behind : List CellValue) (least rest : ℕ)
    → mark ≡ line_cells (box_text on) pen → line ≡ line_cells (first_of (text_lines text)) pen → least ≡ min width 4 → rest ≡ width - 4
    → shown ≡ window 0 least pen mark → behind ≡ window 0 rest pen line → shown ++ behind ≡ box_row on width pen text
unfolding box_row
box-made on width pen text mark line shown behind least rest mark_is line_is least_is rest_is shown_is behind_is =
    let four = length-box_text on in
    let few : least ≡ min width (length (box_text on)) = omega (arith, four, least_is) in
    let more : rest ≡ width - length (box_text on) = omega (arith, four, rest_is) in
    ap₂ ◌++◌ (shown_is ∙ ap₂ (λ n cells. window 0 n pen cells) few (mark_is ∙ line_cells-box on pen)) (behind_is ∙ ap₂ (λ n cells. window 0 n pen cells) more line_is)
    ∙ window-ascii width pen (box_text on) (line_cells (first_of (text_lines text)) pen) (cut_front-line (first_of (text_lines text)) pen)

pub length-box_row : (on : Bool) (width : ℕ) (pen : Pen) (text : List ℕ) → length (box_row on width pen text) ≡ width
unfolding box_row
length-box_row on width pen text = length-window 0 width pen _

drawn_rows-suc : (face : Face) (y : ℕ) → drawn_rows face y ++ drawn_row face y ∷ [] ≡ drawn_rows face (suc y)
unfolding drawn_rows
drawn_rows-suc face y = refl

-- one row more
pub drawn_rows-more : (face : Face) (y : ℕ) → drawn_rows face y ++ drawn_row face y ∷ [] ≡ drawn_rows face (y + 1)
drawn_rows-more face y = rw add-one (drawn_rows-suc face y)

pub drawn_rows-none : (face : Face) → drawn_rows face 0 ≡ []
unfolding drawn_rows
drawn_rows-none face = refl

-- the row that is drawn with the private state that stands for the face's
pub drawn-is : (face : Face) (y : ℕ) (private : Private) (text : List ℕ) (row : List CellValue) → text ≡ face.text.now → private ≡ state_of face.kind text face.private
    → row ≡ row_by face.kind private face y → row ≡ drawn_row face y
unfolding drawn_row
drawn-is face y private text row text_is private_is row_is =
    row_is ∙ ap (λ p. row_by face.kind p face y) (private_is ∙ ap (λ t. state_of face.kind t face.private) text_is)
