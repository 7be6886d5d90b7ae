-- Blanks, pens with reverse changed, and the columns of cells that a row shows.
use Rattle.std.specs.Prelude.{ℕ, ◌+◌, ◌-◌, ◌*◌, ◌/◌, min, not, List, ◌++◌, length, replicate}
use Rattle.tx_cell.specs.Cell.{CellValue, blank}
use Rattle.tx_cell.specs.Strip.{cropped}
use Rattle.tx_cell.specs.declared.pen.Pen.{Pen}

-- so many blanks
abbrev pub blanks : ℕ → Pen → List CellValue
blanks count pen = replicate count (blank pen)

-- the pen in which the mark of reverse is changed
abbrev pub reversed : Pen → Pen
reversed pen = record pen { style = record pen.style { reverse = not pen.style.reverse } }

-- so many columns of these cells from a column on: halves of wide cells that are cut are blanks, and so are the columns
-- after the last cell
unfoldable pub window : ℕ → ℕ → Pen → List CellValue → List CellValue
window from width pen cells = cropped cells from (min (from + width) (length cells)) ++ blanks (width - (length cells - from)) pen

-- none, a half, rounded down, or all of what is free
abbrev pub aligned : ℕ → ℕ → ℕ
aligned free halves = free * halves / 2
