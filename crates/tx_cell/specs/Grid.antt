-- What contracts see of a grid.
use Rattle.std.specs.Prelude.{◌≡◌, ℕ, ◌*◌, zero, suc, List, [], ◌∷◌, length, take, drop, slice_get, Option, unwrap_or, replicate, All}
use Rattle.std.specs.Option.{option_and_then}
use Rattle.tx_geom.specs.declared.places.Size.{Size}
use Rattle.tx_cell.specs.Cell.{CellValue}
use Rattle.tx_cell.specs.Strip.{IsWellFormed, laid, with_tail}

-- a grid: its size and its rows from the top, each as its cells from the left
pub record GridValue : Type 0 where
  pub size : Size
  pub rows : List (List CellValue)

-- what every grid is: as many rows as it is high, each as many cells as it is wide and well formed
pub record IsGrid (grid : GridValue) : Type 0 where
  pub height : length grid.rows ≡ grid.size.height
  pub width : All (λ row. length row ≡ grid.size.width) grid.rows
  pub formed : All IsWellFormed grid.rows

-- the cells one row after another, cut into so many rows
abbrev pub rows_of : ℕ → ℕ → List CellValue → List (List CellValue)
rows_of width zero cells = []
rows_of width (suc height) cells = take width cells ∷ rows_of width height (drop width cells)

-- the list in which the item at an index is changed
abbrev pub changed_at : {A : Type 0} → ℕ → (A → A) → List A → List A
changed_at index change [] = []
changed_at zero change (item ∷ items) = change item ∷ items
changed_at (suc index) change (item ∷ items) = item ∷ changed_at index change items

-- a grid of the same cell everywhere
abbrev pub filled : Size → CellValue → GridValue
filled size fill = record { size = size; rows = replicate size.height (replicate size.width fill) }

-- the cell at a column and a row, where there is one
abbrev pub cell_at : GridValue → ℕ → ℕ → Option CellValue
cell_at grid x y = option_and_then (λ row. slice_get row x) (slice_get grid.rows y)

-- the grid in which these cells stand from a place on
abbrev pub with_laid : GridValue → ℕ → ℕ → List CellValue → GridValue
with_laid grid x y cells = record grid { rows = changed_at y (laid x cells) grid.rows }

-- the grid in which a cell stands at a place, with its tail where it is wide
abbrev pub with_put : GridValue → ℕ → ℕ → CellValue → GridValue
with_put grid x y cell = with_laid grid x y (with_tail cell)

-- the grid in which a row is that of another grid
abbrev pub with_row_of : GridValue → GridValue → ℕ → GridValue
with_row_of grid from y = record grid { rows = changed_at y (λ row. unwrap_or (slice_get from.rows y) row) grid.rows }

-- the cells of a grid, one row after another: as many as its size says, and each row well formed
pub record IsArray (size : Size) (cells : List CellValue) : Type 0 where
  pub area : length cells ≡ size.width * size.height
  pub formed : All IsWellFormed (rows_of size.width size.height cells)
