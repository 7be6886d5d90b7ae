-- What each kind draws in a row of its content.
use Rattle.std.specs.Prelude.{ℕ, zero, suc, ◌+◌, ◌-◌, ◌*◌, ◌/◌, ◌==◌, Bool, true, false, List, [], ◌∷◌, ◌++◌, length, map, replicate, codes, if◌then◌else◌}
use Rattle.tx_cell.specs.Cell.{CellValue, shown}
use Rattle.tx_cell.specs.Lines.{text_lines}
use Rattle.tx_cell.specs.Strip.{line_cells}
use Rattle.tx_cell.specs.Wrap.{wrapped_text}
use Rattle.tx_cell.specs.declared.pen.Pen.{Pen}
use Rattle.tx_tree.specs.declared.kind.Kind.{Kind}
use Rattle.tx_tree.specs.declared.kind.Kind.TheVariants.{Static, Label, Button, Checkbox, Input, OptionList, ProgressBar, Header, Footer}
use Rattle.tx_tree.specs.declared.kind.Private.{Private}
use Rattle.tx_tree.specs.declared.kind.Private.TheVariants.{Cursor, On, Chosen, Bar}
use Rattle.tx_widgets.specs.Columns.{blanks, window}
use Rattle.tx_widgets.specs.Field.{field_row}
use Rattle.tx_widgets.specs.Form.{state_of}
use Rattle.tx_widgets.specs.Options.{first_option, option_row}
use Rattle.tx_widgets.specs.TextRows.{placed, row_from, start_column, top_row, widest_of}
use Rattle.tx_widgets.specs.declared.drawing.face.Face.{Face}

-- a row of wrapped lines, aligned as the face says
unfoldable pub lines_row : Face → List (List CellValue) → ℕ → List CellValue
lines_row face lines y =
    row_from (top_row face.align.1 face.content.height (length lines))
    (λ line. placed (start_column face.text_align face.align.0 face.content.width (widest_of lines) (length line)) face.content.width face.pen line)
    (blanks face.content.width face.pen) lines y

-- the lines of the face's text, wrapped at the width of its content
abbrev pub face_lines : Face → List (List CellValue)
face_lines face = wrapped_text face.content.width face.pen face.text.now

-- what a Checkbox draws before its text
abbrev pub box_text : Bool → List ℕ
box_text true = codes "[X] "
box_text false = codes "[ ] "

-- the cells of ASCII text
abbrev pub ascii_cells : Pen → List ℕ → List CellValue
ascii_cells pen text = map (λ byte. shown (byte ∷ []) 1 pen) text

-- the first line, or nothing where there is none
abbrev pub first_of : List (List ℕ) → List ℕ
first_of [] = []
first_of (line ∷ lines) = line

-- whether a Checkbox is on
abbrev pub box_is_on : Private → Bool
box_is_on (On on) = on
box_is_on _ = false

-- the row of a Checkbox
unfoldable pub box_row : Bool → ℕ → Pen → List ℕ → List CellValue
box_row on width pen text = window 0 width pen (ascii_cells pen (box_text on) ++ line_cells (first_of (text_lines text)) pen)

-- the cursor of an Input
abbrev pub cursor_of : Private → ℕ
cursor_of (Cursor at) = at
cursor_of _ = 0

-- the chosen line of an OptionList
abbrev pub chosen_of : Private → ℕ
chosen_of (Chosen line) = line
chosen_of _ = 0

-- a thick line, U+2501, and a thin one, U+2500
abbrev pub thick : Pen → CellValue
thick pen = shown (0xE2 ∷ 0x94 ∷ 0x81 ∷ []) 1 pen

abbrev pub thin : Pen → CellValue
thin pen = shown (0xE2 ∷ 0x94 ∷ 0x80 ∷ []) 1 pen

-- the columns of a bar that are done
abbrev pub done_columns : ℕ → Private → ℕ
done_columns width (Bar done total) = width * done / total
done_columns width _ = 0

-- the row of a ProgressBar: so many columns are done, the rest aren't
abbrev pub bar_row : ℕ → ℕ → Pen → List CellValue
bar_row done width pen = replicate done (thick pen) ++ replicate (width - done) (thin pen)

-- the first row has these cells, all others are blank
abbrev pub only_first : Face → List CellValue → ℕ → List CellValue
only_first face cells y = if y == 0 then cells else blanks face.content.width face.pen

-- the row in which an OptionList shows, of its lines, the one that stands y below the first shown
abbrev pub list_row : ℕ → Face → ℕ → List CellValue
list_row chosen face y = option_row chosen face.content.width face.pen (text_lines face.text.now) (first_option chosen face.content.height + y)

-- the first row of a kind that draws in no other
abbrev pub first_row : Kind → Private → Face → List CellValue
first_row Checkbox private face = box_row (box_is_on private) face.content.width face.pen face.text.now
first_row Input private face = field_row face.focused (cursor_of private) face.content.width face.pen face.text.now
first_row ProgressBar private face = bar_row (done_columns face.content.width private) face.content.width face.pen
first_row _ private face = blanks face.content.width face.pen

-- row y of what a face draws, with this private state
abbrev pub row_by : Kind → Private → Face → ℕ → List CellValue
row_by Static private face y = lines_row face (face_lines face) y
row_by Label private face y = lines_row face (face_lines face) y
row_by Button private face y = lines_row face (face_lines face) y
row_by Header private face y = lines_row face (face_lines face) y
row_by Footer private face y = lines_row face (face_lines face) y
row_by Checkbox private face y = only_first face (first_row Checkbox private face) y
row_by Input private face y = only_first face (first_row Input private face) y
row_by ProgressBar private face y = only_first face (first_row ProgressBar private face) y
row_by OptionList private face y = list_row (chosen_of private) face y
row_by _ private face y = blanks face.content.width face.pen

-- the wrapped lines of the kinds that draw them
abbrev pub lines_for : Kind → Face → List (List CellValue)
lines_for Static face = face_lines face
lines_for Label face = face_lines face
lines_for Button face = face_lines face
lines_for Header face = face_lines face
lines_for Footer face = face_lines face
lines_for _ face = []

-- the lines of the kind that lists them
abbrev pub options_for : Kind → Face → List (List ℕ)
options_for OptionList face = text_lines face.text.now
options_for _ face = []

-- row y of what a face draws
unfoldable pub drawn_row : Face → ℕ → List CellValue
drawn_row face y = row_by face.kind (state_of face.kind face.text.now face.private) face y

-- the first rows of it
unfoldable pub drawn_rows : Face → ℕ → List (List CellValue)
drawn_rows face zero = []
drawn_rows face (suc y) = drawn_rows face y ++ drawn_row face y ∷ []
