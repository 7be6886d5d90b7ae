-- What holds of all drawings.
use Rattle.std.specs.Prelude.{◌≡◌, ◌⊎◌, ◌+◌, ◌<◌, ℕ, ◌||◌, Bool, true, false, List, get_or, Some, length}
use Rattle.tx_geom.specs.Along.{less}
use Rattle.tx_geom.specs.declared.colours.Rgb.{Rgb}
use Rattle.tx_cell.specs.Cell.{CellValue, blank}
use Rattle.tx_cell.specs.Strip.{IsWellFormed}
use Rattle.tx_tree.specs.declared.kind.Kind.{Kind}
use Rattle.tx_tree.specs.declared.kind.Private.{Private}
use Rattle.tx_value.specs.StyleReads as style
use Rattle.tx_value.specs.declared.value.Value.{Value}
use Rattle.tx_widgets.specs.Drawing.{drawn_row}
use Rattle.tx_paint.specs.Bars.{thumb, thumb_cells, thumb_start, track}
use Rattle.tx_paint.specs.Drawing.{DrawingValue, IsDrawing, drawing_of, drawn, drawn_line, face_of, is_bar_across, is_bar_down, is_border, is_content, line_at}
use Rattle.tx_paint.specs.Edges.{border_at}
use Rattle.tx_paint.specs.Pens.{pen_over}
use Rattle.tx_paint.specs.declared.placement.Placement.{Placement}

-- the border is shown whatever else a row has, also where its content has no cell
abbrev pub BordersAreShown : Type 0
BordersAreShown = (d : DrawingValue) (x y : ℕ) (cell : CellValue) → border_at d.edges d.size x y ≡ Some cell → drawn d x y ≡ cell

-- the border has no place of the content
abbrev pub BordersAreOutside : Type 0
BordersAreOutside = (d : DrawingValue) (x y : ℕ) → IsDrawing d → is_content d x y ≡ true → is_border d x y ≡ false

-- a bar is drawn in the row's own pen
abbrev pub BarsAreInTheRowsPen : Type 0
BarsAreInTheRowsPen =
    (d : DrawingValue) (x y : ℕ) → IsDrawing d → (is_bar_down d x y || is_bar_across d x y) ≡ true → (drawn d x y ≡ thumb d.pen) ⊎ (drawn d x y ≡ track d.pen)

-- each line of a drawing has a cell for each column of the region, and each wide cell in it is followed by its tail
pub record IsWhole (columns : ℕ) (line : List CellValue) : Type 0 where
  pub width : length line ≡ columns
  pub formed : IsWellFormed line

abbrev pub LinesAreWhole : Type 0
LinesAreWhole = (d : DrawingValue) (y : ℕ) → IsDrawing d → IsWhole d.size.width (drawn_line d y)

-- in a row of any kind, the lines of its content are those that its kind draws: blank ones for a kind with children
abbrev pub LinesAreOfTheKind : Type 0
LinesAreOfTheKind =
    (dark : Bool) (values : List Value) (under : Rgb) (kind : Kind) (text : List ℕ) (private : Private) (focused : Bool) (placement : Placement) (x y : ℕ)
    → let content = less placement.size (style.gutter values) in
    let pen = pen_over dark values under in
    x < content.width → y < content.height
    → line_at (drawing_of dark values under kind text private focused placement) x y
    ≡ get_or (drawn_row (face_of values pen content kind text private focused) y) x (blank pen)

-- the thumb of a bar of some cells begins with its first cell where nothing is scrolled, and ends with its last one where all is
pub record ReachesItsEnds (length over : ℕ) : Type 0 where
  pub start : thumb_start length over 0 ≡ 0
  pub end : thumb_start length over over + thumb_cells length over ≡ length

abbrev pub ThumbsReachTheirEnds : Type 0
ThumbsReachTheirEnds = (length over : ℕ) → 0 < length → 0 < over → ReachesItsEnds length over
