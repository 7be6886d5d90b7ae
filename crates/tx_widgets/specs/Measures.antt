-- How wide and how tall each kind wants to be.
use Rattle.std.specs.Prelude.{ℕ, ◌+◌, min, List, length}
use Rattle.tx_cell.specs.Lines.{text_lines, widest}
use Rattle.tx_cell.specs.Strip.{line_cells}
use Rattle.tx_cell.specs.Wrap.{wrapped_text}
use Rattle.tx_cell.specs.declared.pen.Pen.{Pen}
use Rattle.tx_tree.specs.declared.kind.Kind.{Kind}
use Rattle.tx_tree.specs.declared.kind.Kind.TheVariants.{Static, Label, Button, Checkbox, Input, OptionList, ProgressBar, Header, Footer}
use Rattle.tx_widgets.specs.Drawing.{first_of}

-- the greatest measure: a greater number counts as this one
abbrev pub most : ℕ
most = 65535

-- the columns of a Checkbox: those of the box and of its first line
abbrev pub box_width : List ℕ → Pen → ℕ
box_width text pen = 4 + length (line_cells (first_of (text_lines text)) pen)

-- the columns of an Input: those of its text as one line, and one for the cursor after it
abbrev pub field_width : List ℕ → Pen → ℕ
field_width text pen = length (line_cells text pen) + 1

-- the columns that a row of a kind takes, however many
abbrev pub full_width : Kind → List ℕ → Pen → ℕ
full_width Static text pen = widest (text_lines text) pen
full_width Label text pen = widest (text_lines text) pen
full_width Button text pen = widest (text_lines text) pen
full_width Header text pen = widest (text_lines text) pen
full_width Footer text pen = widest (text_lines text) pen
full_width OptionList text pen = widest (text_lines text) pen
full_width Checkbox text pen = box_width text pen
full_width Input text pen = field_width text pen
full_width ProgressBar text pen = 32
full_width _ text pen = 0

-- the columns that it wants
abbrev pub wanted_width : Kind → List ℕ → Pen → ℕ
wanted_width kind text pen = min (full_width kind text pen) most

-- the rows of a text that is wrapped at a width
abbrev pub text_height : List ℕ → ℕ → Pen → ℕ
text_height text width pen = min (length (wrapped_text width pen text)) most

-- the rows that a row of a kind wants at a width
abbrev pub wanted_height : Kind → List ℕ → ℕ → Pen → ℕ
wanted_height Static text width pen = text_height text width pen
wanted_height Label text width pen = text_height text width pen
wanted_height Button text width pen = text_height text width pen
wanted_height Header text width pen = text_height text width pen
wanted_height Footer text width pen = text_height text width pen
wanted_height OptionList text width pen = min (length (text_lines text)) most
wanted_height Checkbox text width pen = 1
wanted_height Input text width pen = 1
wanted_height ProgressBar text width pen = 1
wanted_height _ text width pen = 0
