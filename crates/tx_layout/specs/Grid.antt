-- A grid: its tracks, and its children in the cells that they take.
use Rattle.std.specs.Prelude.{ℕ, ◌+◌, ◌-◌, ◌%◌, ◌==◌, ◌||◌, ◌≤◌, ◌<◌, ◌^◌, ◌≡◌, pos, ◌+ℤ◌, ◌-ℤ◌, All, min, if◌then◌else◌, Option, Some, None, List, [], ◌∷◌, length, map, replicate, slice_index_or, unwrap_or, Result, Ok}
use Rattle.std.specs.List.{filter_map, last_or, range_with_len, zip}
use Rattle.std.specs.Option.{option_map}
use Rattle.tx_read.specs.Answer.{or_refused}
use Rattle.tx_read.specs.Reading.{◌>>=◌}
use Rattle.tx_frac.specs.Ratio.{whole_of}
use Rattle.tx_frac.specs.declared.scalars.Scalar.{Scalar}
use Rattle.tx_frac.specs.declared.scalars.Unit.TheVariants.{Fr}
use Rattle.tx_geom.specs.declared.choices.Axis.{Axis}
use Rattle.tx_geom.specs.declared.choices.Axis.TheVariants.{Width, Height}
use Rattle.tx_geom.specs.declared.choices.BoxSizing.TheVariants.{BorderBox}
use Rattle.tx_geom.specs.declared.places.Size.{Size}
use Rattle.tx_geom.specs.Along.{side, ahead_of}
use Rattle.tx_box.specs.declared.items.Item.{Item}
use Rattle.tx_box.specs.declared.items.Basis.{Basis}
use Rattle.tx_box.specs.declared.items.Span.{Span}
use Rattle.tx_box.specs.Axis.{axis_spans}
use Rattle.tx_grid.specs.declared.places.Cells.{Cells}
use Rattle.tx_grid.specs.declared.places.Spans.{Spans}
use Rattle.tx_grid.specs.Standing.{standing, rows_used}
use Rattle.tx_layout.specs.declared.styles.Ask.{Ask}
use Rattle.tx_layout.specs.declared.styles.GridStyle.{GridStyle}
use Rattle.tx_layout.specs.declared.children.Child.{Child}
use Rattle.tx_layout.specs.declared.children.Framed.{Framed}
use Rattle.tx_layout.specs.declared.children.Side.{Side}
use Rattle.tx_layout.specs.Children.{IsChild, IsNearSpan}
use Rattle.tx_layout.specs.Line.{Flow}
use Rattle.tx_layout.specs.Sides.{across_one, basis_of, count_of, side_in, with_side}
use Rattle.tx_layout.specs.Steps.{each_of}
use Rattle.tx_layout.specs.Style.{base}

-- ---- the cells of the children

abbrev pub spans_of : Child → Spans
spans_of c = record { columns = c.style.column_span; rows = c.style.row_span }

-- the cells of the grid that each child takes, and None for one that finds no place
unfoldable pub cells_of : GridStyle → List Child → List (Option Cells)
cells_of grid cs = standing (map spans_of cs) grid.columns grid.rows

-- the rows that are given, or as many as are used
abbrev pub row_count : Option ℕ → List (Option Cells) → ℕ
row_count (Some rows) places = rows
row_count None places = rows_used places

-- ---- tracks

abbrev pub one_fr : Scalar
one_fr = record { value = whole_of (pos 1); unit = Fr }

-- an empty list of tracks is one `1fr`
abbrev pub or_one_fr : List Scalar → List Scalar
or_one_fr [] = one_fr ∷ []
or_one_fr (t ∷ ts) = t ∷ ts

-- the track at a place, where the list is repeated
abbrev pub track_at : List Scalar → ℕ → Scalar
track_at ts n = slice_index_or (or_one_fr ts) (n % length (or_one_fr ts)) one_fr

-- a track has no padding, no border, no margin and no limits
abbrev pub track_item : Scalar → Item
track_item t = record { size = t; least = None; most = None; gutter = 0; sizing = BorderBox; margin = 0; auto = 0 }

abbrev pub track_items : List Scalar → ℕ → List Item
track_items ts count = map (λ n. track_item (track_at ts n)) (range_with_len 0 count)

-- the gutter stands between tracks, and nothing before the first and after the last
abbrev pub track_gap : ℕ → ℕ → ℕ → ℕ
track_gap gutter count n = if (n == 0) || (n == count) then 0 else gutter

abbrev pub track_gaps : ℕ → ℕ → List ℕ
track_gaps gutter count = map (track_gap gutter count) (range_with_len 0 (count + 1))

-- the cells of so many tracks in an area, of which each takes its percentages
unfoldable pub track_spans : Axis → ℕ → List Scalar → ℕ → Basis → Result (List Span) Axis
track_spans axis gutter ts count basis =
    or_refused axis (axis_spans (track_items ts count) (track_gaps gutter count) axis basis (replicate count basis.area))

abbrev pub columns_of : GridStyle → Basis → Result (List Span) Axis
columns_of grid basis = track_spans Width grid.gutter_horizontal grid.column_tracks grid.columns basis

abbrev pub rows_of : GridStyle → Basis → List (Option Cells) → Result (List Span) Axis
rows_of grid basis places = track_spans Height grid.gutter_vertical grid.row_tracks (row_count grid.rows places) basis

-- where the last track ends
abbrev pub tracks_end : List Span → ℕ
tracks_end spans = unwrap_or (last_or None (map (λ (s : Span). count_of s.to) spans)) 0

-- ---- the area of a child

abbrev pub span_at : List Span → ℕ → Span
span_at spans n = slice_index_or spans n (record { from = pos 0; to = pos 0 })

-- so many tracks from one on
unfoldable pub side_over : List Span → ℕ → ℕ → Side
side_over spans first count =
    record {
      from = count_of (span_at spans first).from;
      size = count_of ((span_at spans (first + count - 1)).to -ℤ (span_at spans first).from);
    }

-- a child with the columns and rows of the cells that it takes
abbrev pub frame_with : List Span → List Span → Child → Cells → Framed
frame_with columns rows c cells =
    record { child = c; columns = side_over columns cells.column cells.columns; rows = side_over rows cells.row cells.rows }

abbrev pub frame_at : List Span → List Span → Child × Option Cells → Option Framed
frame_at columns rows x = option_map (frame_with columns rows x.0) x.1

-- the children that are placed
abbrev pub framed : List Span → List Span → List (Option Cells) → List Child → List Framed
framed columns rows places cs = filter_map (frame_at columns rows) (zip cs places)

abbrev pub area_of : Framed → Size
area_of f = record { width = f.columns.size; height = f.rows.size }

abbrev pub frame_in : Axis → Framed → Side
frame_in Width f = f.columns
frame_in Height f = f.rows

-- ---- the sizes of the children

-- cells of a child that begin at its margin in its area, and are cut to its base there
abbrev pub cut_side : Axis → Framed → ℕ → Side
cut_side axis f size =
    record { from = (frame_in axis f).from + ahead_of axis f.child.style.margin; size = min size (side axis (base f.child.style (area_of f))) }

abbrev pub cut_in : Axis → Framed → Child → Framed
cut_in axis f c = record { child = with_side axis (cut_side axis f (side_in axis c).size) c; columns = f.columns; rows = f.rows }

-- a child by itself in its area
unfoldable pub sized_in : (Ask → Option ℕ) → Axis → Size → Framed → Result Framed Axis
sized_in meaning axis screen f = across_one meaning axis (basis_of (area_of f) screen) f.child >>= (λ c. Ok (cut_in axis f c))

-- first the widths of all, then the heights
unfoldable pub sized_frames : (Ask → Option ℕ) → Size → List Framed → Result (List Framed) Axis
sized_frames meaning screen fs = each_of (sized_in meaning Width screen) fs >>= each_of (sized_in meaning Height screen)

-- ---- the flow of a grid

-- placed children in the cells of tracks
abbrev pub grid_with : List Span → List Span → List Framed → Flow
grid_with columns rows fs = record { children = map (λ (f : Framed). f.child) fs; wide = tracks_end columns; tall = tracks_end rows }

unfoldable pub grid_of : (Ask → Option ℕ) → GridStyle → Basis → List Child → Result Flow Axis
grid_of meaning grid basis cs =
    columns_of grid basis >>= (λ columns.
    rows_of grid basis (cells_of grid cs) >>= (λ rows.
    sized_frames meaning basis.screen (framed columns rows (cells_of grid cs) cs) >>= (λ fs.
    Ok (grid_with columns rows fs))))

-- how far the tracks go in a direction, as a measure asks: no size of a child is needed
abbrev pub columns_end : GridStyle → Basis → Result ℕ Axis
columns_end grid basis = columns_of grid basis >>= (λ columns. Ok (tracks_end columns))

abbrev pub rows_end : GridStyle → Basis → List Child → Result ℕ Axis
rows_end grid basis cs = columns_end grid basis >>= (λ _. rows_of grid basis (cells_of grid cs) >>= (λ rows. Ok (tracks_end rows)))

unfoldable pub grid_extent : GridStyle → Axis → Basis → List Child → Result ℕ Axis
grid_extent grid Width basis cs = columns_end grid basis
grid_extent grid Height basis cs = rows_end grid basis cs

-- ---- bounds

-- tracks as they come from an axis: each begins after the one before it, and a gutter of at most 9,999 cells
pub record AreTracks (spans : List Span) : Type 0 where
  pub each : All IsNearSpan spans
  pub next : (n : ℕ) (d : Span) → n + 1 < length spans
      → (gutter : ℕ) × (gutter ≤ 9999) × ((slice_index_or spans (n + 1) d).from ≡ (slice_index_or spans n d).to +ℤ pos gutter)

-- cells inside such columns and rows
pub record AreInTracks (columns rows : List Span) (cells : Cells) : Type 0 where
  pub wide : 1 ≤ cells.columns
  pub few_columns : cells.columns ≤ 100
  pub in_columns : cells.column + cells.columns ≤ length columns
  pub high : 1 ≤ cells.rows
  pub few_rows : cells.rows ≤ 100
  pub in_rows : cells.row + cells.rows ≤ length rows

-- cells that lie before 2^41
pub record IsFrame (s : Side) : Type 0 where
  pub from : s.from ≤ 2 ^ 41
  pub size : s.size < 2 ^ 32

pub record IsFramed (count : ℕ) (f : Framed) : Type 0 where
  pub child : IsChild count f.child
  pub columns : IsFrame f.columns
  pub rows : IsFrame f.rows
