-- The cells that texts make, and the parts of strips.
use Rattle.std.specs.Prelude.{◌≡◌, ℕ, true, List, [], Some, None}
use Rattle.std.specs.List.{All}
use Rattle.std.specs.Str.{is_utf8}
use Rattle.unicode_segmentation.specs.Grapheme.{graphemes}
use Rattle.tx_cell.specs.Cell.{CellValue, IsMade, IsOfItsText, blank, cell_of, cluster_cell}
use Rattle.tx_cell.specs.Pen.{HasByteChannels}
use Rattle.tx_cell.specs.Strip.{IsWellFormed, cropped, laid, line_cells, with_tail}
use Rattle.tx_cell.specs.declared.pen.Pen.{Pen}

-- ---- cells

-- what is said of the cells that texts make holds of each
abbrev pub TextsMakeCells : Type 0
TextsMakeCells = (text : List ℕ) (pen : Pen) (cell : CellValue) → cell_of text pen ≡ Some cell → IsMade pen cell

-- each cell that a text makes is the one that its own text makes
abbrev pub CellsAreOfTheirText : Type 0
CellsAreOfTheirText =
    (text : List ℕ) (pen : Pen) (cell : CellValue)
    → HasByteChannels pen → is_utf8 text ≡ true → cell_of text pen ≡ Some cell → IsOfItsText cell

-- no bytes make no cell
abbrev pub NothingMakesNoCell : Type 0
NothingMakesNoCell = (pen : Pen) → cell_of [] pen ≡ None

-- a blank is the cell that its text makes
abbrev pub BlanksAreOfTheirText : Type 0
BlanksAreOfTheirText = (pen : Pen) → HasByteChannels pen → IsOfItsText (blank pen)

-- each cluster of a text, taken by itself, makes the cell that it has in the text
abbrev pub ClustersStandAlone : Type 0
ClustersStandAlone =
    (text : List ℕ) (pen : Pen) → is_utf8 text ≡ true
    → All (λ cluster. cell_of cluster pen ≡ cluster_cell cluster pen) (graphemes true text)

-- ---- strips

-- a cell that is the one of its text is well formed, with its tail where it is wide
abbrev pub CellsAreWellFormed : Type 0
CellsAreWellFormed = (cell : CellValue) → IsOfItsText cell → IsWellFormed (with_tail cell)

-- the cells of a line are well formed
abbrev pub LinesAreWellFormed : Type 0
LinesAreWellFormed = (line : List ℕ) (pen : Pen) → HasByteChannels pen → is_utf8 line ≡ true → IsWellFormed (line_cells line pen)

-- each part of well-formed cells is well formed
abbrev pub PartsAreWellFormed : Type 0
PartsAreWellFormed = (cells : List CellValue) (from to : ℕ) → IsWellFormed cells → IsWellFormed (cropped cells from to)

-- well-formed cells that are laid over others are well formed with them
abbrev pub LaidCellsAreWellFormed : Type 0
LaidCellsAreWellFormed = (x : ℕ) (cells row : List CellValue) → IsWellFormed cells → IsWellFormed row → IsWellFormed (laid x cells row)
