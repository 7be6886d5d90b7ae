-- What characters draw: a grid, the cursor and the pen, and the cell that is held until it is known to be whole.
use Rattle.std.specs.Prelude.{◌≡◌, ◌≤◌, ◌<◌, ℕ, ◌+◌, ◌-◌, min, nat_le, nat_lt, false, ◌&&◌, List, [], ◌++◌, length, Option, Some, None, if◌then◌else◌}
use Rattle.std.specs.Str.{chars}
use Rattle.tx_geom.specs.declared.places.Size.{Size}
use Rattle.tx_cell.specs.Cell.{CellValue, blank, cell_of, most_bytes}
use Rattle.tx_cell.specs.Grid.{GridValue, filled, with_put}
use Rattle.tx_cell.specs.Pen.{white_on_black}
use Rattle.tx_cell.specs.Plain.{begins_plain}
use Rattle.tx_cell.specs.declared.pen.Pen.{Pen}

-- the cells without the one that is held, the cursor counted from 0, which may stand one column after the last, the
-- pen, and the text of the held cell, which is empty where none is held
pub record CanvasValue : Type 0 where
  pub grid : GridValue
  pub row : ℕ
  pub column : ℕ
  pub pen : Pen
  pub held : List ℕ

-- a cell, where its columns from this one on lie in a row of such a width
abbrev pub fitting : ℕ → ℕ → Option CellValue → Option CellValue
fitting column width None = None
fitting column width (Some cell) = if nat_le (column + cell.width) width then Some cell else None

-- the cell that is held, if its text makes one and its columns lie in the row
abbrev pub held_cell : CanvasValue → Option CellValue
held_cell canvas = fitting canvas.column canvas.grid.size.width (cell_of canvas.held canvas.pen)

-- the grid with a cell put, if there is one
abbrev pub drawn : GridValue → ℕ → ℕ → Option CellValue → GridValue
drawn grid column row None = grid
drawn grid column row (Some cell) = with_put grid column row cell

-- the columns of a cell, if there is one
abbrev pub columns_of : Option CellValue → ℕ
columns_of None = 0
columns_of (Some cell) = cell.width

-- the held cell is put, and the cursor stands after it
unfoldable pub put_held : CanvasValue → CanvasValue
put_held canvas = record canvas {
  grid = drawn canvas.grid canvas.column canvas.row (held_cell canvas);
  column = canvas.column + columns_of (held_cell canvas);
  held = [];
}

-- the grid as it is seen: the held cell is put on it
abbrev pub shown_grid : CanvasValue → GridValue
shown_grid canvas = drawn canvas.grid canvas.column canvas.row (held_cell canvas)

-- two plain characters never stand in one cell: before the second one what is held is put
abbrev pub ready_for : List ℕ → CanvasValue → CanvasValue
ready_for character canvas = if begins_plain (chars canvas.held) && begins_plain (chars character) then put_held canvas else canvas

-- a character joins what is held, which may be nothing, and is dropped where that would be more bytes than a cell has
abbrev pub joined_by : List ℕ → CanvasValue → CanvasValue
joined_by character canvas = if nat_lt most_bytes (length canvas.held + length character) then canvas else record canvas { held = canvas.held ++ character }

-- a character comes: it joins the held cell, or begins another one
unfoldable pub with_character : List ℕ → CanvasValue → CanvasValue
with_character character canvas = joined_by character (ready_for character canvas)

-- the cursor stands at a row and a column that are counted from 1, or in the last ones
abbrev pub moved : ℕ → ℕ → CanvasValue → CanvasValue
moved row column canvas = record canvas { row = min row canvas.grid.size.height - 1; column = min column canvas.grid.size.width - 1 }

-- all cells are blank in the present pen
abbrev pub erased : CanvasValue → CanvasValue
erased canvas = record canvas { grid = filled canvas.grid.size (blank canvas.pen) }

-- blanks of white on black, the cursor in the first place, and nothing held
abbrev pub opened_canvas : Size → CanvasValue
opened_canvas size = record { grid = filled size (blank white_on_black); row = 0; column = 0; pen = white_on_black; held = [] }

-- the cursor is in a row, and at most one column after the last
pub record IsInside (canvas : CanvasValue) : Type 0 where
  pub row : canvas.row < canvas.grid.size.height
  pub column : canvas.column ≤ canvas.grid.size.width

-- the columns of a cell from this one on lie in the row, and it is no tail
pub record IsPutAt (grid : GridValue) (column : ℕ) (cell : CellValue) : Type 0 where
  pub head : cell.tail ≡ false
  pub some : 1 ≤ cell.width
  pub few : cell.width ≤ 2
  pub inside : column + cell.width ≤ grid.size.width

-- a canvas that is kept with a second grid, which has the held cell put
pub record IsKept (shown : GridValue) (canvas : CanvasValue) : Type 0 where
  pub inside : IsInside canvas
  pub shown_is : shown ≡ shown_grid canvas
