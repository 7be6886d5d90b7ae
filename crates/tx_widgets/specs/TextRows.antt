-- The rows of wrapped lines.
use Rattle.std.specs.Prelude.{ℕ, ◌-◌, nat_lt, max, List, [], ◌∷◌, ◌++◌, length, slice_get, if◌then◌else◌}
use Rattle.std.specs.Option.{option_map_or}
use Rattle.tx_cell.specs.Cell.{CellValue}
use Rattle.tx_geom.specs.declared.choices.AlignX.{AlignX}
use Rattle.tx_geom.specs.declared.choices.AlignX.TheVariants.{Left, Center, Right}
use Rattle.tx_geom.specs.declared.choices.AlignY.{AlignY}
use Rattle.tx_geom.specs.declared.choices.AlignY.TheVariants.{Top, Middle, Bottom}
use Rattle.tx_widgets.specs.Columns.{aligned, blanks, window}
use Rattle.tx_cell.specs.declared.pen.Pen.{Pen}

-- how many halves of the free columns stand before what is aligned
abbrev pub halves_across : AlignX → ℕ
halves_across Left = 0
halves_across Center = 1
halves_across Right = 2

-- the same for rows
abbrev pub halves_down : AlignY → ℕ
halves_down Top = 0
halves_down Middle = 1
halves_down Bottom = 2

-- the columns of the widest of these lines
abbrev pub widest_of : List (List CellValue) → ℕ
widest_of [] = 0
widest_of (line ∷ lines) = max (length line) (widest_of lines)

-- The column in which a line of so many columns begins. Where the text stands left, all lines begin where the content's
-- alignment puts the widest one; else each has its own free columns.
abbrev pub start_column : AlignX → AlignX → ℕ → ℕ → ℕ → ℕ
start_column Left content width widest columns = aligned (width - widest) (halves_across content)
start_column Center content width widest columns = aligned (width - columns) 1
start_column Right content width widest columns = aligned (width - columns) 2

-- a row in which a line begins in a column
abbrev pub placed : ℕ → ℕ → Pen → List CellValue → List CellValue
placed start width pen line = blanks start pen ++ window 0 (width - start) pen line

-- the row in which so many lines begin: the first one where there are more lines than rows
abbrev pub top_row : AlignY → ℕ → ℕ → ℕ
top_row content height count = aligned (height - count) (halves_down content)

-- row y where the lines begin in row `top`
abbrev pub row_from : ℕ → (List CellValue → List CellValue) → List CellValue → List (List CellValue) → ℕ → List CellValue
row_from top place none lines y = if nat_lt y top then none else option_map_or place (slice_get lines (y - top)) none
