-- The borders of a row, and what they show at a place of its region.
use Rattle.std.specs.Prelude.{ℕ, ◌+◌, ◌==◌, ◌&&◌, Bool, List, Option, None, option_map, is_some, IfSome, if◌then◌else◌}
use Rattle.std.specs.Option.{option_or}
use Rattle.tx_geom.specs.Colour.{blended}
use Rattle.tx_geom.specs.declared.choices.Edge.{Edge}
use Rattle.tx_geom.specs.declared.choices.Edge.TheVariants.{Top, Right, Bottom, Left}
use Rattle.tx_geom.specs.declared.places.Size.{Size}
use Rattle.tx_cell.specs.Cell.{CellValue, shown}
use Rattle.tx_cell.specs.Pen.{HasByteChannels}
use Rattle.tx_cell.specs.declared.pen.Pen.{Pen}
use Rattle.tx_value.specs.StyleReads as style
use Rattle.tx_value.specs.ValueReads.{colour_of}
use Rattle.tx_value.specs.declared.value.Value.{Value}
use Rattle.tx_paint.specs.Glyphs.{glyph}
use Rattle.tx_paint.specs.declared.edges.Edges.{Edges}
use Rattle.tx_paint.specs.declared.edges.Stroke.{Stroke}
use Rattle.tx_paint.specs.declared.glyphs.Part.{Part}
use Rattle.tx_paint.specs.declared.glyphs.Part.TheVariants.{Horizontal, Vertical, TopLeft, TopRight, BottomRight, BottomLeft}

-- how an edge of a row with this style and this pen is drawn, where it is set: in its own colour over the row's background, and
-- with the row's back and marks
abbrev pub stroke_of : Bool → List Value → Pen → Edge → Option Stroke
stroke_of dark values pen edge =
    option_map (λ border. record { kind = border.kind; pen = record pen { fore = blended (colour_of dark border.ink) pen.back } })
    (style.border edge values)

-- all four
abbrev pub edges_of : Bool → List Value → Pen → Edges
edges_of dark values pen =
    record {
      top = stroke_of dark values pen Top;
      right = stroke_of dark values pen Right;
      bottom = stroke_of dark values pen Bottom;
      left = stroke_of dark values pen Left;
    }

-- the channels of the colours of an edge are bytes, where it is set
abbrev pub HasByteInk : Option Stroke → Type 0
HasByteInk stroke = IfSome stroke (λ stroke. HasByteChannels stroke.pen)

pub record HasByteInks (edges : Edges) : Type 0 where
  pub top : HasByteInk edges.top
  pub right : HasByteInk edges.right
  pub bottom : HasByteInk edges.bottom
  pub left : HasByteInk edges.left

-- the cell of a part of an edge
abbrev pub stroke_cell : Part → Stroke → CellValue
stroke_cell part stroke = shown (glyph stroke.kind part) 1 stroke.pen

-- the part of the top or bottom edge in a column: the first cell is the corner on the left where the left edge is set, else the last
-- one that on the right where the right edge is set
abbrev pub part_along : Part → Part → Edges → ℕ → ℕ → Part
part_along on_left on_right edges width x =
    if (x == 0) && is_some edges.left then on_left
    else if (x + 1 == width) && is_some edges.right then on_right
    else Horizontal

-- an edge that is set, where a place is on its line
abbrev pub where_on : Bool → Option Stroke → Option Stroke
where_on is_on stroke = if is_on then stroke else None

-- What the border shows at a place: in the top line the top edge where set, else in the bottom line the bottom edge where set, else
-- in the first column the left edge where set, else in the last column the right edge where set, else nothing.
abbrev pub border_at : Edges → Size → ℕ → ℕ → Option CellValue
border_at edges size x y =
    option_or (option_map (stroke_cell (part_along TopLeft TopRight edges size.width x)) (where_on (y == 0) edges.top))
    (option_or (option_map (stroke_cell (part_along BottomLeft BottomRight edges size.width x)) (where_on (y + 1 == size.height) edges.bottom))
    (option_or (option_map (stroke_cell Vertical) (where_on (x == 0) edges.left))
    (option_map (stroke_cell Vertical) (where_on (x + 1 == size.width) edges.right))))
