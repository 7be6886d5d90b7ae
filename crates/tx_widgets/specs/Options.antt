-- The rows of an OptionList.
use Rattle.std.specs.Prelude.{ℕ, ◌+◌, ◌-◌, ◌==◌, Bool, List, slice_get, if◌then◌else◌}
use Rattle.std.specs.Option.{option_map_or}
use Rattle.tx_cell.specs.Cell.{CellValue}
use Rattle.tx_cell.specs.Strip.{line_cells}
use Rattle.tx_widgets.specs.Columns.{blanks, reversed, window}
use Rattle.tx_cell.specs.declared.pen.Pen.{Pen}

-- the line in the first row: the first one that lets the chosen one be seen
abbrev pub first_option : ℕ → ℕ → ℕ
first_option chosen height = chosen + 1 - height

-- the pen of a line: the chosen one has reverse changed
abbrev pub option_pen : Bool → Pen → Pen
option_pen is_chosen pen = if is_chosen then reversed pen else pen

-- a line over the whole width
abbrev pub option_cells : ℕ → Pen → List ℕ → List CellValue
option_cells width pen line = window 0 width pen (line_cells line pen)

-- the row that shows the line with this number, if there is one
abbrev pub option_row : ℕ → ℕ → Pen → List (List ℕ) → ℕ → List CellValue
option_row chosen width pen lines number =
    option_map_or (option_cells width (option_pen (number == chosen) pen)) (slice_get lines number) (blanks width pen)
