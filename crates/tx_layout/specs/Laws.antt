-- What holds of arrangements and measures, in an author's words.
use Rattle.std.specs.Prelude.{ℕ, ◌<◌, ◌==◌, ◌≡◌, ◌≢◌, ◌++◌, pos, Option, Some, None, List, length, All, slice_index_or, IfSome, Result, Ok}
use Rattle.std.specs.List.{filter_map, flat_map, list_any, zip}
use Rattle.std.specs.Option.{is_some, option_map}
use Rattle.tx_frac.specs.Ratio.{Ratio, IsLowest}
use Rattle.tx_geom.specs.Along.{side}
use Rattle.tx_geom.specs.Region.{Holds}
use Rattle.tx_geom.specs.declared.places.Offset.{Offset}
use Rattle.tx_geom.specs.declared.choices.Axis.{Axis}
use Rattle.tx_geom.specs.declared.choices.Axis.TheVariants.{Width, Height}
use Rattle.tx_box.specs.Axis.{axis_parts, last_of}
use Rattle.tx_box.specs.Item.{IsSized}
use Rattle.tx_box.specs.Laws.{HasFractions, SharesRoom}
use Rattle.tx_box.specs.declared.items.Basis.{Basis}
use Rattle.tx_box.specs.declared.items.Item.{Item}
use Rattle.tx_box.specs.declared.parts.Part.{Part}
use Rattle.tx_layout.specs.declared.children.Child.{Child}
use Rattle.tx_layout.specs.Children.{numbered, layers, docked, flow}
use Rattle.tx_layout.specs.Grid.{cells_of}
use Rattle.tx_layout.specs.Sides.{across, areas, gaps, measured}
use Rattle.tx_layout.specs.Line.{Flow, line_of}
use Rattle.tx_layout.specs.Steps.{each_of}
use Rattle.tx_layout.specs.Style.{IsBoxStyle, IsGridStyle, limit_in}
use Rattle.tx_geom.specs.declared.choices.AlignX.{AlignX}
use Rattle.tx_geom.specs.declared.choices.AlignY.{AlignY}
use Rattle.tx_geom.specs.declared.choices.LayoutKind.{LayoutKind}
use Rattle.tx_geom.specs.declared.choices.LayoutKind.TheVariants.{Vertical, Horizontal, Grid}
use Rattle.tx_geom.specs.declared.places.Region.{Region}
use Rattle.tx_geom.specs.declared.places.Size.{Size}
use Rattle.tx_grid.specs.declared.places.Cells.{Cells}
use Rattle.tx_layout.specs.declared.styles.Arrangement.{Arrangement}
use Rattle.tx_layout.specs.declared.styles.Ask.{Ask}
use Rattle.tx_layout.specs.declared.styles.BoxStyle.{BoxStyle}
use Rattle.tx_layout.specs.declared.styles.GridStyle.{GridStyle}
use Rattle.tx_layout.specs.Arrangement.{flow_region, arranged, wide, tall}

-- ---- children that follow each other

-- The children of a flow as they are when the axis along them is laid out: in a row as they come, in a column with their
-- widths.
abbrev pub at_axis : (Ask → Option ℕ) → Axis → Basis → List Child → Result (List Child) Axis
at_axis meaning Width basis cs = Ok cs
at_axis meaning Height basis cs = across meaning Width basis cs

-- the boxes of these children along a direction, of fractions in lowest terms
pub record HasBoxes (meaning : Ask → Option ℕ) (main : Axis) (basis : Basis) (cs : List Child) : Type 0 where
  pub ready : List Child
  pub at_axis : at_axis meaning main basis cs ≡ Ok ready
  pub items : List Item
  pub boxes : each_of (measured meaning main basis.area) ready ≡ Ok items
  pub sized : All IsSized items
  pub fractions : All HasFractions items

-- some share among them isn't settled in the last round and is greater than 0, and what is left there isn't below 0
pub record SharesFlow (main : Axis) (basis : Basis) (ready : List Child) (items : List Item) : Type 0 where
  pub parts : List Part
  pub last : List Part
  pub left : Ratio
  pub at_start : axis_parts items main basis (areas basis.area ready) ≡ Some parts
  pub at_end : last_of (side main basis.area) (gaps main ready) parts ≡ Some (left, last)
  pub shares : SharesRoom left last

-- how far a flow goes in a direction
abbrev pub extent_in : Axis → Flow → ℕ
extent_in Width flow = flow.wide
extent_in Height flow = flow.tall

-- Where room is shared, the last child with its last margin ends where the room does: in a column at its height, in a row
-- at its width.
abbrev pub FillsRoom : Type 0
FillsRoom =
    (meaning : Ask → Option ℕ) (main : Axis) (basis : Basis) (cs : List Child) (flow : Flow)
    → line_of meaning (Some main) basis cs ≡ Ok flow → (boxes : HasBoxes meaning main basis cs) → SharesFlow main basis boxes.ready boxes.items
    → extent_in main flow ≡ side main basis.area

-- a child that isn't moved from its place
abbrev pub HasNoOffset : Child → Type 0
HasNoOffset c = c.style.offset ≡ record { x = pos 0; y = pos 0 }

-- No two children of a column or a row share a cell, where they are not moved.
abbrev pub NoneShareCells : Type 0
NoneShareCells =
    (meaning : Ask → Option ℕ) (main : Axis) (basis : Basis) (cs : List Child) (flow : Flow)
    → line_of meaning (Some main) basis cs ≡ Ok flow → HasBoxes meaning main basis cs
    → (left top i j : ℕ) (d : Child) → i < j → j < length flow.children
    → HasNoOffset (slice_index_or flow.children i d) → HasNoOffset (slice_index_or flow.children j d)
    → (p : Offset) → Holds (flow_region left top (slice_index_or flow.children i d)) p → Holds (flow_region left top (slice_index_or flow.children j d)) p → ⊥

-- ---- which children have a region

-- a child that finds a place
abbrev pub if_placed : Child × Option Cells → Option Child
if_placed x = option_map (λ cells. x.0) x.1

-- the children of a flow that get cells: all of a column or a row, and of a grid those that find a place
abbrev pub placed_flow : LayoutKind → GridStyle → List Child → List Child
placed_flow Vertical grid cs = cs
placed_flow Horizontal grid cs = cs
placed_flow Grid grid cs = filter_map if_placed (zip cs (cells_of grid cs))

-- the children of a layer that get cells: the docked ones, and those of its flow
abbrev pub celled : LayoutKind → GridStyle → List Child → List Child
celled kind grid cs = docked cs ++ placed_flow kind grid (flow cs)

-- A child has a region exactly where it is one of these: only children of a grid that are not docked and find no place have none.
abbrev pub CelledHaveRegions : Type 0
CelledHaveRegions =
    (meaning : Ask → Option ℕ) (kind : LayoutKind) (grid : GridStyle) (align : AlignX × AlignY) (styles : List BoxStyle) (area screen : Size) (a : Arrangement)
    → arranged meaning kind grid align styles area screen ≡ Ok a → (n : ℕ) → n < length styles
    → is_some (slice_index_or a.placed n None) ≡ list_any (λ (c : Child). c.place == n) (flat_map (celled kind grid) (layers (numbered 0 styles)))

-- ---- measures

-- two meanings that are the same for each ask of one of so many children
abbrev pub Agree : ℕ → (Ask → Option ℕ) → (Ask → Option ℕ) → Type 0
Agree count m n = (ask : Ask) → ask.child < count → m ask ≡ n ask

-- Nothing but the answers for the children of a container goes into its arrangement and its measures: two meanings that
-- agree there give the same.
pub record MeaningsDecide : Type 0 where
  pub arrangement : (m n : Ask → Option ℕ) (kind : LayoutKind) (grid : GridStyle) (align : AlignX × AlignY) (styles : List BoxStyle) (area screen : Size)
      → Agree (length styles) m n → arranged m kind grid align styles area screen ≡ arranged n kind grid align styles area screen
  pub width : (m n : Ask → Option ℕ) (kind : LayoutKind) (grid : GridStyle) (styles : List BoxStyle) (area screen : Size)
      → Agree (length styles) m n → wide m kind grid styles area screen ≡ wide n kind grid styles area screen
  pub height : (m n : Ask → Option ℕ) (kind : LayoutKind) (grid : GridStyle) (styles : List BoxStyle) (width : ℕ) (area screen : Size)
      → Agree (length styles) m n → tall m kind grid styles width area screen ≡ tall n kind grid styles width area screen

-- ---- what shares no cell in an arrangement

-- a style that the calls accept, with its numbers in lowest terms, as all fractions are
pub record IsAccepted (s : BoxStyle) : Type 0 where
  pub style : IsBoxStyle s
  pub width : IsLowest s.width.value
  pub height : IsLowest s.height.value
  pub least : (axis : Axis) → IfSome (limit_in axis s.least) (λ limit. IsLowest limit.value)
  pub most : (axis : Axis) → IfSome (limit_in axis s.most) (λ limit. IsLowest limit.value)

-- a grid that the calls accept, with its numbers in lowest terms
pub record IsAcceptedGrid (g : GridStyle) : Type 0 where
  pub style : IsGridStyle g
  pub column_tracks : All (λ track. IsLowest track.value) g.column_tracks
  pub row_tracks : All (λ track. IsLowest track.value) g.row_tracks

-- a child that isn't docked and isn't moved from its place
pub record StaysInFlow (s : BoxStyle) : Type 0 where
  pub flow : s.dock ≡ None
  pub still : s.offset ≡ record { x = pos 0; y = pos 0 }

-- In the arrangement of a column, a row or a grid, no two children of one layer share a cell that aren't docked and aren't
-- moved.
abbrev pub NoneShareInArrangement : Type 0
NoneShareInArrangement =
    (meaning : Ask → Option ℕ) (kind : LayoutKind) (grid : GridStyle) (align : AlignX × AlignY) (styles : List BoxStyle) (area screen : Size) (a : Arrangement)
    → All IsAccepted styles → IsAcceptedGrid grid → arranged meaning kind grid align styles area screen ≡ Ok a
    → (i j : ℕ) (d : BoxStyle) → i < length styles → j < length styles → i ≢ j
    → StaysInFlow (slice_index_or styles i d) → StaysInFlow (slice_index_or styles j d) → (slice_index_or styles i d).layer ≡ (slice_index_or styles j d).layer
    → (r q : Region) → slice_index_or a.placed i None ≡ Some r → slice_index_or a.placed j None ≡ Some q
    → (p : Offset) → Holds r p → Holds q p → ⊥

-- ---- what fills its room, for accepted styles

-- The room of a column or a row is filled as in FillsRoom where its children have accepted styles: these are all that its
-- boxes need.
abbrev pub AcceptedFillRoom : Type 0
AcceptedFillRoom =
    (meaning : Ask → Option ℕ) (main : Axis) (basis : Basis) (cs : List Child) (flow : Flow)
    → All (λ c. IsAccepted c.style) cs → line_of meaning (Some main) basis cs ≡ Ok flow
    → (ready : List Child) (items : List Item) → at_axis meaning main basis cs ≡ Ok ready → each_of (measured meaning main basis.area) ready ≡ Ok items
    → SharesFlow main basis ready items → extent_in main flow ≡ side main basis.area
