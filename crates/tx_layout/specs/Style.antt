-- What the calls need of a style, and what a style says along one direction.
use Rattle.std.specs.Prelude.{ℕ, Bool, true, false, Option, None, List, slice_index_or, IfSome, pos, neg_ℤ, ◌≤ℤ◌, ◌≡◌, ◌≤◌, ◌^◌, ℤ, All}
use Rattle.tx_frac.specs.declared.scalars.Scalar.{Scalar}
use Rattle.tx_frac.specs.declared.scalars.Unit.{Unit}
use Rattle.tx_frac.specs.declared.scalars.Unit.TheVariants.{Auto}
use Rattle.tx_geom.specs.declared.choices.Axis.{Axis}
use Rattle.tx_geom.specs.declared.choices.Axis.TheVariants.{Width, Height}
use Rattle.tx_geom.specs.declared.places.Size.{Size}
use Rattle.tx_geom.specs.Along.{room_along, less}
use Rattle.tx_box.specs.Item.{IsLimit, NotNegative}
use Rattle.tx_box.specs.declared.items.Item.{Item}
use Rattle.tx_grid.specs.Standing.{IsSpan, IsRowCount}
use Rattle.tx_layout.specs.declared.styles.BoxStyle.{BoxStyle}
use Rattle.tx_layout.specs.declared.styles.GridStyle.{GridStyle}

-- from -9,999 to 9,999
pub record IsShift (z : ℤ) : Type 0 where
  pub low : neg_ℤ (pos 9999) ≤ℤ z
  pub high : z ≤ℤ pos 9999

-- a style that the calls accept
pub record IsBoxStyle (s : BoxStyle) : Type 0 where
  pub width : NotNegative s.width.value
  pub height : NotNegative s.height.value
  pub least_width : IfSome (slice_index_or s.least 0 None) IsLimit
  pub least_height : IfSome (slice_index_or s.least 1 None) IsLimit
  pub most_width : IfSome (slice_index_or s.most 0 None) IsLimit
  pub most_height : IfSome (slice_index_or s.most 1 None) IsLimit
  pub column_span : IsSpan s.column_span
  pub row_span : IsSpan s.row_span
  pub x : IsShift s.offset.x
  pub y : IsShift s.offset.y

-- a size that is that of the content
abbrev pub is_auto : Unit → Bool
is_auto Auto = true
is_auto _ = false

-- a track: of at least 0, and not `auto`
pub record IsTrack (s : Scalar) : Type 0 where
  pub not_negative : NotNegative s.value
  pub no_auto : is_auto s.unit ≡ false

-- a grid that the calls accept
pub record IsGridStyle (g : GridStyle) : Type 0 where
  pub columns : IsSpan g.columns
  pub rows : IfSome g.rows IsRowCount
  pub column_tracks : All IsTrack g.column_tracks
  pub row_tracks : All IsTrack g.row_tracks
  pub gutter_vertical : g.gutter_vertical ≤ 9999
  pub gutter_horizontal : g.gutter_horizontal ≤ 9999

-- the size along a direction
abbrev pub size_in : Axis → BoxStyle → Scalar
size_in Width s = s.width
size_in Height s = s.height

-- the limit along a direction, of one for each of the two
abbrev pub limit_in : Axis → List (Option Scalar) → Option Scalar
limit_in Width limits = slice_index_or limits 0 None
limit_in Height limits = slice_index_or limits 1 None

-- what a box with so much content is along a direction
abbrev pub item_of : Axis → BoxStyle → ℕ → Item
item_of axis s content =
    record {
      size = size_in axis s;
      least = limit_in axis s.least;
      most = limit_in axis s.most;
      gutter = room_along axis s.gutter;
      sizing = s.sizing;
      margin = room_along axis s.margin;
      auto = content;
    }

-- what the percentages of a child are taken of: its area less its margins
abbrev pub base : BoxStyle → Size → Size
base s area = less area s.margin

-- the room for the content of a child: its base less its padding and border
abbrev pub inner : BoxStyle → Size → Size
inner s area = less (base s area) s.gutter

-- a place within 2^44 cells before and after, less an offset
pub record IsNearStart (z : ℤ) : Type 0 where
  pub low : neg_ℤ (pos 17592186034417) ≤ℤ z
  pub high : z ≤ℤ pos 17592186034417
