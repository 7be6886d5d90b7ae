-- What a row shows at each place of its region.
use Rattle.std.specs.Prelude.{◌≡◌, ℕ, ◌+◌, ◌-◌, ◌≤◌, ◌&&◌, nat_le, nat_lt, Bool, List, [], length, get_or, map, unwrap_or, is_some, IfSome, if◌then◌else◌}
use Rattle.std.specs.List.{All, range_with_len}
use Rattle.tx_geom.specs.Along.{less}
use Rattle.tx_geom.specs.declared.colours.Rgb.{Rgb}
use Rattle.tx_geom.specs.declared.places.Size.{Size}
use Rattle.tx_geom.specs.declared.places.Spacing.{Spacing}
use Rattle.tx_cell.specs.Cell.{CellValue, blank}
use Rattle.tx_cell.specs.Pen.{HasByteChannels}
use Rattle.tx_cell.specs.Strip.{IsWellFormed}
use Rattle.tx_cell.specs.declared.pen.Pen.{Pen}
use Rattle.tx_tree.specs.Kind.{holds_children}
use Rattle.tx_tree.specs.declared.kind.Kind.{Kind}
use Rattle.tx_tree.specs.declared.kind.Private.{Private}
use Rattle.tx_value.specs.StyleReads as style
use Rattle.tx_value.specs.declared.value.Value.{Value}
use Rattle.tx_widgets.specs.Drawing.{drawn_rows}
use Rattle.tx_widgets.specs.declared.drawing.face.Face.{Face}
use Rattle.tx_paint.specs.Bars.{bar_at}
use Rattle.tx_paint.specs.Edges.{border_at, edges_of}
use Rattle.tx_paint.specs.Pens.{pen_over}
use Rattle.tx_paint.specs.declared.edges.Edges.{Edges}
use Rattle.tx_paint.specs.declared.edges.Stroke.{Stroke}
use Rattle.tx_paint.specs.declared.placement.Placement.{Placement}

-- a drawing: the size of the region, what lies between its edges and its content, the row's pen and its edges that are set, the
-- viewport in the content, how far the children go over it and are scrolled, and the lines of the content, which has none where
-- the row's kind has children
pub record DrawingValue : Type 0 where
  pub size : Size
  pub gutter : Spacing
  pub pen : Pen
  pub edges : Edges
  pub viewport : Size
  pub over : Size
  pub scroll : ℕ × ℕ
  pub lines : List (List CellValue)

-- the size of the content
abbrev pub content_size : DrawingValue → Size
content_size d = less d.size d.gutter

-- ---- by place

-- the cell of a line of the content, which is blank where there is no line
abbrev pub line_at : DrawingValue → ℕ → ℕ → CellValue
line_at d x y = get_or (get_or d.lines y []) x (blank d.pen)

-- the cell of the horizontal bar in a column of the content: the bar is as long as the viewport is wide
abbrev pub across_at : DrawingValue → ℕ → CellValue
across_at d x = bar_at d.viewport.width d.over.width d.scroll.0 d.pen x

-- the cell of the vertical bar in a row of the content: the bar is as long as the viewport is high
abbrev pub down_at : DrawingValue → ℕ → CellValue
down_at d y = bar_at d.viewport.height d.over.height d.scroll.1 d.pen y

-- What the content shows at a place of it: its lines in the viewport, right of that the vertical bar, below it the horizontal bar, and
-- a blank in the corner of both bars.
abbrev pub content_at : DrawingValue → ℕ → ℕ → CellValue
content_at d x y =
    if nat_lt x d.viewport.width
    then (if nat_lt y d.viewport.height then line_at d x y else across_at d x)
    else (if nat_lt y d.viewport.height then down_at d y else blank d.pen)

-- whether a column or a row is one of so many from one on
abbrev pub is_among : ℕ → ℕ → ℕ → Bool
is_among from count at = nat_le from at && nat_lt at (from + count)

-- whether a place of the region is one of the content
abbrev pub is_content : DrawingValue → ℕ → ℕ → Bool
is_content d x y = is_among d.gutter.left (content_size d).width x && is_among d.gutter.top (content_size d).height y

-- whether it is one of the border
abbrev pub is_border : DrawingValue → ℕ → ℕ → Bool
is_border d x y = is_some (border_at d.edges d.size x y)

-- whether it is one of the vertical bar, or of the horizontal one
abbrev pub is_bar_down : DrawingValue → ℕ → ℕ → Bool
is_bar_down d x y = is_content d x y && (nat_le d.viewport.width (x - d.gutter.left) && nat_lt (y - d.gutter.top) d.viewport.height)

abbrev pub is_bar_across : DrawingValue → ℕ → ℕ → Bool
is_bar_across d x y = is_content d x y && (nat_lt (x - d.gutter.left) d.viewport.width && nat_le d.viewport.height (y - d.gutter.top))

-- what is shown within the border: the content, and blanks round it
abbrev pub inner_at : DrawingValue → ℕ → ℕ → CellValue
inner_at d x y = if is_content d x y then content_at d (x - d.gutter.left) (y - d.gutter.top) else blank d.pen

-- what is shown at a place of the region
unfoldable pub drawn : DrawingValue → ℕ → ℕ → CellValue
drawn d x y = unwrap_or (border_at d.edges d.size x y) (inner_at d x y)

-- a line of the region
unfoldable pub drawn_line : DrawingValue → ℕ → List CellValue
drawn_line d y = map (λ x. drawn d x y) (range_with_len 0 d.size.width)

-- ---- of a row

-- what a row's content is drawn from
abbrev pub face_of : List Value → Pen → Size → Kind → List ℕ → Private → Bool → Face
face_of values pen content kind text private focused =
    record {
      kind = kind;
      text = record { ref_ptr = (0, 0); now = text };
      private = private;
      focused = focused;
      content = content;
      align = style.content_align values;
      text_align = style.text_align values;
      pen = pen;
    }

-- the lines of its content
abbrev pub lines_of : Kind → Face → List (List CellValue)
lines_of kind face = if holds_children kind then [] else drawn_rows face face.content.height

-- the viewport: a kind without children has its content as its viewport
abbrev pub viewport_of : Kind → Size → Size → Size
viewport_of kind content viewport = if holds_children kind then viewport else content

-- the drawing of a row with this style in the dark theme or in the light one, over this background of its parent, at a place
abbrev pub drawing_in : List Value → Pen → Edges → Kind → List ℕ → Private → Bool → Placement → DrawingValue
drawing_in values pen edges kind text private focused placement =
    let content = less placement.size (style.gutter values) in
    record {
      size = placement.size;
      gutter = style.gutter values;
      pen = pen;
      edges = edges;
      viewport = viewport_of kind content placement.viewport;
      over = placement.over;
      scroll = placement.scroll;
      lines = lines_of kind (face_of values pen content kind text private focused);
    }

unfoldable pub drawing_of : Bool → List Value → Rgb → Kind → List ℕ → Private → Bool → Placement → DrawingValue
drawing_of dark values under kind text private focused placement =
    let pen = pen_over dark values under in
    drawing_in values pen (edges_of dark values pen) kind text private focused placement

-- ---- what every drawing is

-- an edge that is set, after which so many columns or rows lie before the content: the edge's own among them. The channels of its
-- colours are bytes.
pub record IsSet (room : ℕ) (stroke : Stroke) : Type 0 where
  pub some : 1 ≤ room
  pub channels : HasByteChannels stroke.pen

-- a line of the content: as wide as the content, which is the viewport, and each wide cell is followed by its tail
pub record IsLine (d : DrawingValue) (line : List CellValue) : Type 0 where
  pub width : length line ≡ (content_size d).width
  pub viewport : d.viewport ≡ content_size d
  pub formed : IsWellFormed line

pub record IsDrawing (d : DrawingValue) : Type 0 where
  pub pen : HasByteChannels d.pen
  pub top : IfSome d.edges.top (IsSet d.gutter.top)
  pub right : IfSome d.edges.right (IsSet d.gutter.right)
  pub bottom : IfSome d.edges.bottom (IsSet d.gutter.bottom)
  pub left : IfSome d.edges.left (IsSet d.gutter.left)
  pub lines : All (IsLine d) d.lines
