-- The room that docked children take, what is left for the flow, and how far the flow goes.
use Rattle.std.specs.Prelude.{ℕ, ◌+◌, ◌-◌, ◌<◌, ◌^◌, Bool, true, false, Option, Some, None, List, [], ◌∷◌, map, max, if◌then◌else◌, unwrap_or}
use Rattle.std.specs.List.{filter, last_or}
use Rattle.tx_geom.specs.declared.choices.Axis.{Axis}
use Rattle.tx_geom.specs.declared.choices.Axis.TheVariants.{Width, Height}
use Rattle.tx_geom.specs.declared.choices.Edge.{Edge}
use Rattle.tx_geom.specs.declared.choices.Edge.TheVariants.{Top, Right, Bottom, Left}
use Rattle.tx_geom.specs.declared.places.Size.{Size}
use Rattle.tx_geom.specs.Along.{behind_of}
use Rattle.tx_layout.specs.declared.children.Child.{Child}
use Rattle.tx_layout.specs.declared.layers.Edges.{Edges}
use Rattle.tx_layout.specs.declared.layers.Part.{Part}
use Rattle.tx_layout.specs.declared.layers.Part.TheVariants.{Docked, AtSides, Flow}
use Rattle.tx_layout.specs.Children.{is_docked, is_at_side, is_in_flow}
use Rattle.tx_layout.specs.Sides.{is_main, side_in}

-- the greatest of numbers, and 0 where there are none
abbrev pub greatest : List ℕ → ℕ
greatest [] = 0
greatest (n ∷ ns) = max n (greatest ns)

-- whether a child is in a part of its layer
abbrev pub is_in : Part → Child → Bool
is_in Docked c = is_docked c
is_in AtSides c = is_at_side c
is_in Flow c = is_in_flow c

-- where the margin after a child ends
abbrev pub outer_end : Axis → Child → ℕ
outer_end axis c = (side_in axis c).from + (side_in axis c).size + behind_of axis c.style.margin

abbrev pub is_edge : Edge → Edge → Bool
is_edge Top Top = true
is_edge Right Right = true
is_edge Bottom Bottom = true
is_edge Left Left = true
is_edge _ _ = false

abbrev pub is_at : Edge → Option Edge → Bool
is_at edge None = false
is_at edge (Some other) = is_edge edge other

-- a child is docked at an edge
abbrev pub stands_at : Edge → Child → Bool
stands_at edge c = is_at edge c.style.dock

-- what an edge takes: the greatest of the sizes, with both margins, of the children that are docked there
unfoldable pub taken : Edge → Axis → List Child → ℕ
taken edge axis cs = greatest (map (outer_end axis) (filter (stands_at edge) cs))

-- what each edge takes
abbrev pub edges_of : List Child → Edges
edges_of cs = record { top = taken Top Height cs; right = taken Right Width cs; bottom = taken Bottom Height cs; left = taken Left Width cs }

-- what the two edges along a direction take
abbrev pub edges_along : Axis → Edges → ℕ
edges_along Width e = e.left + e.right
edges_along Height e = e.top + e.bottom

-- what the edges leave of an area
abbrev pub inside : Edges → Size → Size
inside e area = record { width = area.width - (e.left + e.right); height = area.height - (e.top + e.bottom) }

-- where the margin after the last of them ends, and 0 without children
abbrev pub last_end : Axis → List Child → ℕ
last_end axis cs = unwrap_or (last_or None (map (outer_end axis) cs)) 0

-- How far children go in a direction: where they follow each other, to the last end with the last margin, else to the
-- greatest of their sizes with both margins. Without children it is 0.
unfoldable pub extent : Option Axis → Axis → List Child → ℕ
extent main axis cs = if is_main main axis then last_end axis cs else greatest (map (outer_end axis) cs)

-- edges of fewer than 2^42 cells
pub record IsEdges (e : Edges) : Type 0 where
  pub top : e.top < 2 ^ 42
  pub right : e.right < 2 ^ 42
  pub bottom : e.bottom < 2 ^ 42
  pub left : e.left < 2 ^ 42
