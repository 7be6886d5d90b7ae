-- What sizes and spacings are along one of the two directions.
use Rattle.std.specs.Prelude.{ℕ, ◌+◌, ◌-◌}
use Rattle.tx_geom.specs.declared.choices.Axis.{Axis}
use Rattle.tx_geom.specs.declared.choices.Axis.TheVariants.{Width, Height}
use Rattle.tx_geom.specs.declared.places.Offset.{Offset}
use Rattle.tx_geom.specs.declared.places.Region.{Region}
use Rattle.tx_geom.specs.declared.places.Size.{Size}
use Rattle.tx_geom.specs.declared.places.Spacing.{Spacing}

-- the side of a size
abbrev pub side : Axis → Size → ℕ
side Width size = size.width
side Height size = size.height

-- the room before what stands inside, from left to right or from top to bottom
abbrev pub ahead_of : Axis → Spacing → ℕ
ahead_of Width by = by.left
ahead_of Height by = by.top

-- the room behind it
abbrev pub behind_of : Axis → Spacing → ℕ
behind_of Width by = by.right
behind_of Height by = by.bottom

-- both together
abbrev pub room_along : Axis → Spacing → ℕ
room_along axis by = ahead_of axis by + behind_of axis by

-- a size without the room along its sides, each of which is at least 0
abbrev pub less : Size → Spacing → Size
less size by = record { width = size.width - room_along Width by; height = size.height - room_along Height by }

-- the region of a size at a place
abbrev pub region_of : Offset → Size → Region
region_of at size = record { x = at.x; y = at.y; width = size.width; height = size.height }
