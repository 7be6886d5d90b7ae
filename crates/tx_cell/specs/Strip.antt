-- Lists of cells: the cells of a line, which lists are well formed, and how they are cut and laid.
use Rattle.std.specs.Prelude.{◌≡◌, ℕ, ◌+◌, ◌-◌, ◌^◌, ◌<◌, ◌≤◌, Bool, true, nat_lt, ⊤, List, [], ◌∷◌, ◌++◌, length, take, drop, Option, Some, None, if◌then◌else◌}
use Rattle.std.specs.List.{flat_map}
use Rattle.std.specs.Option.{option_map_or}
use Rattle.unicode_segmentation.specs.Grapheme.{graphemes}
use Rattle.tx_cell.specs.Cell.{CellValue, IsOfItsText, blank, tail_of, cell_of}
use Rattle.tx_cell.specs.declared.pen.Pen.{Pen}

-- the tail that has to follow a cell: that of a wide cell
abbrev pub owed_tail : CellValue → Option CellValue
owed_tail cell = if nat_lt 1 cell.width then Some (tail_of cell.pen) else None

-- a cell, with its tail where it is wide
abbrev pub with_tail : CellValue → List CellValue
with_tail cell = if nat_lt 1 cell.width then cell ∷ tail_of cell.pen ∷ [] else cell ∷ []

-- the columns that a cluster takes: none, its cell, or its cell and the tail
abbrev pub cluster_columns : Pen → List ℕ → List CellValue
cluster_columns pen cluster = option_map_or with_tail (cell_of cluster pen) []

-- the cells of a line: those of its grapheme clusters, in order
unfoldable pub line_cells : List ℕ → Pen → List CellValue
line_cells line pen = flat_map (cluster_columns pen) (graphemes true line)

-- the cells are well formed after one that owes such a tail: the tail comes first where one is owed, each other cell is
-- the one that its own text makes, and a wide one is followed by its tail
abbrev pub IsWellFormedAfter : Option CellValue → List CellValue → Type 0
IsWellFormedAfter None [] = ⊤
IsWellFormedAfter (Some tail) [] = ⊥
IsWellFormedAfter None (cell ∷ cells) = IsOfItsText cell × IsWellFormedAfter (owed_tail cell) cells
IsWellFormedAfter (Some tail) (cell ∷ cells) = (cell ≡ tail) × IsWellFormedAfter None cells

-- wide cells are followed by their tails, which stand nowhere else, and each other cell is the one that its own text makes
abbrev pub IsWellFormed : List CellValue → Type 0
IsWellFormed cells = IsWellFormedAfter None cells

-- a wide cell whose tail is cut off becomes a blank
abbrev pub without_tail : CellValue → CellValue
without_tail cell = if nat_lt 1 cell.width then blank cell.pen else cell

-- a tail whose wide cell is cut off becomes a blank
abbrev pub without_head : CellValue → CellValue
without_head cell = if cell.tail then blank cell.pen else cell

-- the cells after a cut
abbrev pub cut_front : List CellValue → List CellValue
cut_front [] = []
cut_front (cell ∷ cells) = without_head cell ∷ cells

-- the cells before a cut
abbrev pub cut_end : List CellValue → List CellValue
cut_end [] = []
cut_end (cell ∷ []) = without_tail cell ∷ []
cut_end (cell ∷ next ∷ cells) = cell ∷ cut_end (next ∷ cells)

-- a cell after the cut at the start of a part, where it is the first one
abbrev pub behind_start : Bool → CellValue → CellValue
behind_start is_first cell = if is_first then without_head cell else cell

-- a cell before the cut at the end of a part, where it is the last one
abbrev pub before_end : Bool → CellValue → CellValue
before_end is_last cell = if is_last then without_tail cell else cell

-- the cells from one column up to another, where halves of wide cells are blanks
abbrev pub cropped : List CellValue → ℕ → ℕ → List CellValue
cropped cells from to = cut_end (cut_front (take (to - from) (drop from cells)))

-- the parts between these cuts, the first one from a column on, the last one up to the end
abbrev pub parts_from : List CellValue → ℕ → List ℕ → List (List CellValue)
parts_from cells from [] = cropped cells from (length cells) ∷ []
parts_from cells from (cut ∷ cuts) = cropped cells from cut ∷ parts_from cells cut cuts

-- the cuts don't fall, none is before `from`, and none past `to`
abbrev pub AreCuts : ℕ → ℕ → List ℕ → Type 0
AreCuts from to [] = from ≤ to
AreCuts from to (cut ∷ cuts) = (from ≤ cut) × AreCuts cut to cuts

-- all cells, one list after the other
abbrev pub joined : List (List CellValue) → List CellValue
joined parts = flat_map (λ part. part) parts

-- the row in which the cells from a column on are these, and halves of wide cells beside them are blanks
abbrev pub laid : ℕ → List CellValue → List CellValue → List CellValue
laid x [] row = row
laid x (cell ∷ cells) row = cut_end (take x row) ++ ((cell ∷ cells) ++ cut_front (drop (x + length (cell ∷ cells)) row))

-- what every strip is: well formed, and of fewer than 2^32 cells
pub record IsStrip (cells : List CellValue) : Type 0 where
  pub formed : IsWellFormed cells
  pub short : length cells < 2 ^ 32
