-- The arrangement of the children of a container, and the sizes that it asks for itself.
use Rattle.std.specs.Prelude.{ℕ, ◌+◌, ◌-◌, ◌*◌, ◌/◌, ◌==◌, ℤ, pos, ◌+ℤ◌, ◌-ℤ◌, ◌≤ℤ◌, ◌^◌, neg_ℤ, All, IfSome, Option, Some, None, List, [], ◌∷◌, ◌++◌, length, map, Result, Ok, min, if◌then◌else◌}
use Rattle.std.specs.List.{flat_map, range_with_len}
use Rattle.std.specs.Option.{option_or}
use Rattle.tx_read.specs.Reading.{◌>>=◌}
use Rattle.tx_geom.specs.declared.choices.Axis.{Axis}
use Rattle.tx_geom.specs.declared.choices.Axis.TheVariants.{Width, Height}
use Rattle.tx_geom.specs.declared.choices.AlignX.{AlignX}
use Rattle.tx_geom.specs.declared.choices.AlignX.TheVariants.{Left as AtLeft, Center as AtCenter, Right as AtRight}
use Rattle.tx_geom.specs.declared.choices.AlignY.{AlignY}
use Rattle.tx_geom.specs.declared.choices.AlignY.TheVariants.{Top as AtTop, Middle as AtMiddle, Bottom as AtBottom}
use Rattle.tx_geom.specs.declared.choices.Edge.{Edge}
use Rattle.tx_geom.specs.declared.choices.Edge.TheVariants.{Right, Bottom}
use Rattle.tx_geom.specs.declared.choices.LayoutKind.{LayoutKind}
use Rattle.tx_geom.specs.declared.places.Region.{Region}
use Rattle.tx_geom.specs.declared.places.Size.{Size}
use Rattle.tx_box.specs.declared.items.Basis.{Basis}
use Rattle.tx_layout.specs.declared.styles.Ask.{Ask}
use Rattle.tx_layout.specs.declared.styles.Arrangement.{Arrangement}
use Rattle.tx_layout.specs.declared.styles.BoxStyle.{BoxStyle}
use Rattle.tx_layout.specs.declared.styles.GridStyle.{GridStyle}
use Rattle.tx_layout.specs.declared.children.Child.{Child}
use Rattle.tx_layout.specs.declared.children.Laid.{Laid}
use Rattle.tx_layout.specs.declared.children.Setting.{Setting}
use Rattle.tx_layout.specs.declared.layers.Edges.{Edges}
use Rattle.tx_layout.specs.Children.{numbered, layers, docked, at_sides, flow}
use Rattle.tx_layout.specs.Room.{greatest, edges_of, edges_along, inside}
use Rattle.tx_layout.specs.Sides.{basis_of, sized, sized_both}
use Rattle.tx_layout.specs.Line.{Flow}
use Rattle.tx_layout.specs.Flow.{flow_of, flow_extent}
use Rattle.tx_layout.specs.Steps.{each_of}

-- ---- the parts of a layer

-- the docked children with their cells, each by itself in the whole area
abbrev pub laid_docked : (Ask → Option ℕ) → Basis → List Child → Result (List Child) Axis
laid_docked meaning basis cs = sized_both meaning None basis (docked cs)

-- what docked children leave of an area
abbrev pub flow_basis : Basis → List Child → Basis
flow_basis basis ds = basis_of (inside (edges_of ds) basis.area) basis.screen

abbrev pub flow_setting : Edges → Setting → Setting
flow_setting e setting = record { main = setting.main; basis = basis_of (inside e setting.basis.area) setting.basis.screen; count = setting.count }

-- ---- regions

-- a docked child stands at its left and top margin, or with its margin at the end of the area
abbrev pub docked_x : Option Edge → Size → Child → ℤ
docked_x (Some Right) area c = pos area.width -ℤ pos (c.wide.size + c.style.margin.right)
docked_x edge area c = pos c.wide.from

abbrev pub docked_y : Option Edge → Size → Child → ℤ
docked_y (Some Bottom) area c = pos area.height -ℤ pos (c.tall.size + c.style.margin.bottom)
docked_y edge area c = pos c.tall.from

-- the region of a child at a place, moved by its offset
abbrev pub region_at : ℤ → ℤ → Child → Region
region_at x y c = record { x = x +ℤ c.style.offset.x; y = y +ℤ c.style.offset.y; width = c.wide.size; height = c.tall.size }

unfoldable pub docked_region : Size → Child → Region
docked_region area c = region_at (docked_x c.style.dock area c) (docked_y c.style.dock area c) c

unfoldable pub flow_region : ℕ → ℕ → Child → Region
flow_region left top c = region_at (pos (left + c.wide.from)) (pos (top + c.tall.from)) c

-- the halves of the free cells that stand before what is aligned
abbrev pub halves_x : AlignX → ℕ
halves_x AtLeft = 0
halves_x AtCenter = 1
halves_x AtRight = 2

abbrev pub halves_y : AlignY → ℕ
halves_y AtTop = 0
halves_y AtMiddle = 1
halves_y AtBottom = 2

-- so many halves of what an extent leaves free
abbrev pub shift : ℕ → ℕ → ℕ → ℕ
shift halves room extent = ((room - extent) * halves) / 2

-- ---- one layer

-- the regions of children by their places, and how far the flow goes over its room
pub record Layer : Type 0 where
  pub regions : List (ℕ × Region)
  pub over : Size

-- where a flow begins: after the edge, and with the halves of the free cells before it
abbrev pub start_x : AlignX → Edges → Size → Flow → ℕ
start_x align e room f = e.left + shift (halves_x align) room.width f.wide

abbrev pub start_y : AlignY → Edges → Size → Flow → ℕ
start_y align e room f = e.top + shift (halves_y align) room.height f.tall

abbrev pub at_edges : Size → List Child → List (ℕ × Region)
at_edges area ds = map (λ c. (c.place, docked_region area c)) ds

abbrev pub in_flow : ℕ → ℕ → List Child → List (ℕ × Region)
in_flow left top cs = map (λ c. (c.place, flow_region left top c)) cs

-- the greatest number that a size can tell
abbrev pub most : ℕ
most = 4294967295

-- how far an extent goes over its room
abbrev pub past : ℕ → ℕ → ℕ
past room extent = min (extent - room) most

abbrev pub over_of : Size → Flow → Size
over_of room f = record { width = past room.width f.wide; height = past room.height f.tall }

-- the docked children and the flow of a layer, in the room that the edges leave
abbrev pub layer_in : (AlignX × AlignY) → Size → Edges → Size → List Child → Flow → Layer
layer_in align area e room ds f =
    record {
      regions = at_edges area ds ++ in_flow (start_x align.0 e room f) (start_y align.1 e room f) f.children;
      over = over_of room f;
    }

abbrev pub layer_with : (AlignX × AlignY) → Size → List Child → Flow → Layer
layer_with align area ds f = layer_in align area (edges_of ds) (inside (edges_of ds) area) ds f

unfoldable pub arranged_layer : (Ask → Option ℕ) → LayoutKind → GridStyle → (AlignX × AlignY) → Basis → List Child → Result Layer Axis
arranged_layer meaning kind grid align basis cs =
    laid_docked meaning basis cs >>= (λ ds. flow_of meaning kind grid (flow_basis basis ds) (flow cs) >>= (λ f. Ok (layer_with align basis.area ds f)))

-- ---- all layers

-- the region of the child at a place, where it has one
abbrev pub region_of : List (ℕ × Region) → ℕ → Option Region
region_of [] n = None
region_of (r ∷ rs) n = option_or (region_of rs n) (if r.0 == n then Some r.1 else None)

-- the same for so many children
unfoldable pub placed_by : ℕ → List (ℕ × Region) → List (Option Region)
placed_by count rs = map (region_of rs) (range_with_len 0 count)

-- the greatest of how far the layers go over their rooms
unfoldable pub over_all : List Layer → Size
over_all ls = record { width = greatest (map (λ (l : Layer). l.over.width) ls); height = greatest (map (λ (l : Layer). l.over.height) ls) }

abbrev pub regions_of : List Layer → List (ℕ × Region)
regions_of ls = flat_map (λ (l : Layer). l.regions) ls

abbrev pub together : ℕ → List Layer → Arrangement
together count ls = record { placed = placed_by count (regions_of ls); over = over_all ls }

-- a layer beside those that are arranged
abbrev pub arranged_next : (Ask → Option ℕ) → LayoutKind → GridStyle → (AlignX × AlignY) → Basis → ℕ → List Layer → List Child → Result Arrangement Axis
arranged_next meaning kind grid align basis count done cs = arranged_layer meaning kind grid align basis cs >>= (λ l. Ok (together count (done ++ l ∷ [])))

-- the arrangement of so many children that are given by their layers
abbrev pub arranged_layers : (Ask → Option ℕ) → LayoutKind → GridStyle → (AlignX × AlignY) → Basis → ℕ → List (List Child) → Result Arrangement Axis
arranged_layers meaning kind grid align basis count ls = each_of (arranged_layer meaning kind grid align basis) ls >>= (λ laid. Ok (together count laid))

-- The arrangement of the children of a container in an area: the region of each, and how far they go over the room for
-- them. It is undefined where a step on the way is, with the direction of the first such step.
abbrev pub arranged : (Ask → Option ℕ) → LayoutKind → GridStyle → (AlignX × AlignY) → List BoxStyle → Size → Size → Result Arrangement Axis
arranged meaning kind grid align styles area screen =
    arranged_layers meaning kind grid align (basis_of area screen) (length styles) (layers (numbered 0 styles))

-- ---- measures

-- the docked children that a direction needs: the columns of those at the left and right edge, or the cells of all
abbrev pub asked_docked : (Ask → Option ℕ) → Axis → Basis → List Child → Result (List Child) Axis
asked_docked meaning Width basis cs = sized meaning None basis Width (at_sides cs)
asked_docked meaning Height basis cs = laid_docked meaning basis cs

-- what a layer asks for along a direction: its two edges, and how far the flow goes between them
unfoldable pub asked_layer : (Ask → Option ℕ) → LayoutKind → GridStyle → Axis → Basis → List Child → Result ℕ Axis
asked_layer meaning kind grid axis basis cs =
    asked_docked meaning axis basis cs >>= (λ ds.
    flow_extent meaning kind grid axis (flow_basis basis ds) (flow cs) >>= (λ n.
    Ok (edges_along axis (edges_of ds) + n)))

-- the greatest of what the layers ask for, at most 65,535
abbrev pub most_asked : (Ask → Option ℕ) → LayoutKind → GridStyle → Axis → Basis → List (List Child) → Result ℕ Axis
most_asked meaning kind grid axis basis ls = each_of (asked_layer meaning kind grid axis basis) ls >>= (λ ns. Ok (greatest ns))

abbrev pub asked_layers : (Ask → Option ℕ) → LayoutKind → GridStyle → Axis → Basis → List (List Child) → Result ℕ Axis
asked_layers meaning kind grid axis basis ls = most_asked meaning kind grid axis basis ls >>= (λ n. Ok (min n 65535))

-- the width that a container asks for in an area
abbrev pub wide : (Ask → Option ℕ) → LayoutKind → GridStyle → List BoxStyle → Size → Size → Result ℕ Axis
wide meaning kind grid styles area screen = asked_layers meaning kind grid Width (basis_of area screen) (layers (numbered 0 styles))

-- the height that it asks for at a width, in a viewport of that width and the area's height
abbrev pub tall : (Ask → Option ℕ) → LayoutKind → GridStyle → List BoxStyle → ℕ → Size → Size → Result ℕ Axis
tall meaning kind grid styles width area screen =
    asked_layers meaning kind grid Height (basis_of (record { width = width; height = area.height }) screen) (layers (numbered 0 styles))

-- ---- bounds

-- a region whose corner lies within 2^44 cells of the place that it is counted from
pub record IsWithinReach (r : Region) : Type 0 where
  pub left : neg_ℤ (pos (2 ^ 44)) ≤ℤ r.x
  pub right : r.x ≤ℤ pos (2 ^ 44)
  pub up : neg_ℤ (pos (2 ^ 44)) ≤ℤ r.y
  pub down : r.y ≤ℤ pos (2 ^ 44)

-- each region that there is lies within reach
abbrev pub AreWithinReach : List (Option Region) → Type 0
AreWithinReach placed = All (λ r. IfSome r IsWithinReach) placed

-- ---- what a call gives

-- the arrangement so far, as contracts see it
abbrev pub seen : Laid → Arrangement
seen laid = record { placed = laid.placed.items; over = laid.over }
