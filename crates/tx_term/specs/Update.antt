-- The update: the bytes that lead a terminal from what it shows to what it is to show.
use Rattle.std.specs.Prelude.{ℕ, ◌+◌, Bool, false, not, ◌&&◌, ◌||◌, ◌==◌, nat_lt, List, [], ◌∷◌, ◌++◌, length, zip, flat_map, Option, Some, None, if◌then◌else◌, codes, decimal}
use Rattle.std.specs.List.{list_all}
use Rattle.std.specs.Str.{chars}
use Rattle.tx_geom.specs.declared.colours.Rgb.{Rgb}
use Rattle.tx_cell.specs.Cell.{CellValue}
use Rattle.tx_cell.specs.Grid.{GridValue}
use Rattle.tx_cell.specs.Pen.{pen_eq}
use Rattle.tx_cell.specs.Plain.{is_plain}
use Rattle.tx_cell.specs.Same.{cell_eq}
use Rattle.tx_cell.specs.declared.pen.Pen.{Pen}
use Rattle.tx_geom.specs.declared.styles.TextStyle.{TextStyle}

-- ---- cells

-- a cell is plain where its text is one plain character, and lone otherwise
unfoldable pub is_plain_cell : CellValue → Bool
is_plain_cell cell = (length (chars cell.text) == 1) && list_all is_plain (chars cell.text)

-- ---- units and runs of a row

-- what is written at once: a cell, with its tail where it is wide
pub record Unit : Type 0 where
  pub column : ℕ
  pub cell : CellValue
  pub differs : Bool

-- whether the first of these cells differ
abbrev pub first_differ : List (CellValue × CellValue) → Bool
first_differ [] = false
first_differ (pair ∷ _) = not (cell_eq pair.0 pair.1)

-- a unit differs where its cell does in text, width, tail mark or pen, or the tail after it
abbrev pub unit_differs : CellValue × CellValue → List (CellValue × CellValue) → Bool
unit_differs pair pairs = not (cell_eq pair.0 pair.1) || (nat_lt 1 pair.1.width && first_differ pairs)

-- the units of a row from a column on, of the cells shown there, each with the next one. Each differs in a
-- whole update.
abbrev pub units : Bool → ℕ → List (CellValue × CellValue) → List Unit
units whole column [] = []
units whole column (pair ∷ pairs) =
    if pair.1.tail then units whole (column + 1) pairs
    else record { column = column; cell = pair.1; differs = whole || unit_differs pair pairs } ∷ units whole (column + 1) pairs

-- the first run is longer by a unit at its front
abbrev pub longer : Unit → List (List Unit) → List (List Unit)
longer unit [] = (unit ∷ []) ∷ []
longer unit (run ∷ runs) = (unit ∷ run) ∷ runs

-- the maximal runs of units that differ: the row cut at those that don't, so that a run may be empty
abbrev pub runs : List Unit → List (List Unit)
runs [] = [] ∷ []
runs (unit ∷ rest) = if unit.differs then longer unit (runs rest) else [] ∷ runs rest

-- ---- what is written

-- a move of the cursor, to a row and a column counted from 1, or a cell
pub data Mark : Type 0 where
  Move : (row column : ℕ) → Mark
  Write : (cell : CellValue) → Mark

-- A run of a row. A move stands before its first unit, before each lone unit and after one: everywhere but between two
-- plain units.
abbrev pub run_marks : ℕ → Bool → List Unit → List Mark
run_marks row behind_plain [] = []
run_marks row behind_plain (unit ∷ rest) =
    (if behind_plain && is_plain_cell unit.cell then [] else Move (row + 1) (unit.column + 1) ∷ [])
    ++ (Write unit.cell ∷ run_marks row (is_plain_cell unit.cell) rest)

-- a row: its runs from the left
abbrev pub row_marks : Bool → ℕ → List CellValue → List CellValue → List Mark
row_marks whole row shown next = flat_map (run_marks row false) (runs (units whole 0 (zip shown next)))

-- the rows from the top
abbrev pub rows_marks : Bool → ℕ → List (List CellValue) → List (List CellValue) → List Mark
rows_marks whole row [] next = []
rows_marks whole row (old ∷ olds) [] = []
rows_marks whole row (old ∷ olds) (new ∷ news) = row_marks whole row old new ++ rows_marks whole (row + 1) olds news

-- ---- bytes

-- ESC [
abbrev pub csi : List ℕ
csi = 27 ∷ 91 ∷ []

-- the cursor moves
abbrev pub move_bytes : ℕ → ℕ → List ℕ
move_bytes row column = csi ++ decimal row ++ codes ";" ++ decimal column ++ codes "H"

-- the marks of a text, each by its number
abbrev pub style_bytes : TextStyle → List ℕ
style_bytes style =
    (if style.bold then codes ";1" else []) ++ (if style.dim then codes ";2" else [])
    ++ (if style.italic then codes ";3" else []) ++ (if style.underline then codes ";4" else [])
    ++ (if style.reverse then codes ";7" else []) ++ (if style.strike then codes ";9" else [])

-- a colour by its three channels
abbrev pub channel_bytes : Rgb → List ℕ
channel_bytes colour = decimal colour.r ++ codes ";" ++ decimal colour.g ++ codes ";" ++ decimal colour.b

-- the pen is set, whatever it was before
abbrev pub pen_bytes : Pen → List ℕ
pen_bytes pen = (csi ++ codes "0") ++ style_bytes pen.style ++ codes ";38;2;" ++ channel_bytes pen.fore ++ codes ";48;2;" ++ channel_bytes pen.back ++ codes "m"

-- whether this is the pen of the last unit that was written
abbrev pub is_last_pen : Option Pen → Pen → Bool
is_last_pen None pen = false
is_last_pen (Some last) pen = pen_eq last pen

-- a cell: its pen where it isn't the last one, and its text
abbrev pub cell_bytes : Option Pen → CellValue → List ℕ
cell_bytes last cell = (if is_last_pen last cell.pen then [] else pen_bytes cell.pen) ++ cell.text

-- these marks, where the last unit before them had such a pen
abbrev pub written : Option Pen → List Mark → List ℕ
written last [] = []
written last (Move row column ∷ marks) = move_bytes row column ++ written last marks
written last (Write cell ∷ marks) = cell_bytes last cell ++ written (Some cell.pen) marks

-- CAN, the alternate screen, no cursor, the default pen, all cells blank
abbrev pub opening : List ℕ
opening = 24 ∷ csi ++ codes "?1049h" ++ csi ++ codes "?25l" ++ csi ++ codes "0m" ++ csi ++ codes "2J"

-- CAN, the default pen, the cursor, the main screen
abbrev pub closing : List ℕ
closing = 24 ∷ csi ++ codes "0m" ++ csi ++ codes "?25h" ++ csi ++ codes "?1049l"

-- what stands before the marks: an opening, where the update is whole
abbrev pub beginning : Bool → List ℕ
beginning whole = if whole then opening else []

-- what stands after the marks
abbrev pub ending : List ℕ
ending = []

-- the marks of an update, which are those of the cells that differ. In a whole one all cells count as differing.
abbrev pub update_marks : GridValue → GridValue → Bool → List Mark
update_marks shown next whole = rows_marks whole 0 shown.rows next.rows

-- The update from the cells that are shown to the next ones: its beginning, its marks and its end.
unfoldable pub update : GridValue → GridValue → Bool → List ℕ
update shown next whole = beginning whole ++ (written None (update_marks shown next whole) ++ ending)
