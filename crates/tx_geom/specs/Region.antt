-- A region is the set of its cells.
use Rattle.std.specs.Prelude.{ℕ, ◌+◌, ◌-◌, ◌^◌, ℤ, pos, neg_ℤ, ◌+ℤ◌, ◌≤ℤ◌, ◌<ℤ◌}
use Rattle.tx_geom.specs.declared.places.Offset.{Offset}
use Rattle.tx_geom.specs.declared.places.Region.{Region}
use Rattle.tx_geom.specs.declared.places.Spacing.{Spacing}

-- z is one of the n numbers from `from` on
pub record IsAmong (from : ℤ) (n : ℕ) (z : ℤ) : Type 0 where
  pub from_on : from ≤ℤ z
  pub before : z <ℤ (from +ℤ pos n)

-- the cell at p is one of r
pub record Holds (r : Region) (p : Offset) : Type 0 where
  pub column : IsAmong r.x r.width p.x
  pub row : IsAmong r.y r.height p.y

-- a coordinate lies within plus and minus 2^61
pub record IsNear (z : ℤ) : Type 0 where
  pub low : neg_ℤ (pos (2 ^ 61)) ≤ℤ z
  pub high : z ≤ℤ pos (2 ^ 61)

-- so do both of a place
pub record IsNearPlace (p : Offset) : Type 0 where
  pub x : IsNear p.x
  pub y : IsNear p.y

-- the place of a region
abbrev pub corner : Region → Offset
corner r = record { x = r.x; y = r.y }

-- the region of no cells at the place of r
abbrev pub nothing_at : Region → Region
nothing_at r = record { x = r.x; y = r.y; width = 0; height = 0 }

-- r without the room along its sides
abbrev pub shrunk : Region → Spacing → Region
shrunk r s =
    record {
      x = r.x +ℤ pos s.left;
      y = r.y +ℤ pos s.top;
      width = r.width - (s.left + s.right);
      height = r.height - (s.top + s.bottom);
    }

-- the place p, moved by d
abbrev pub moved_place : Offset → Offset → Offset
moved_place p d = record { x = p.x +ℤ d.x; y = p.y +ℤ d.y }

-- r, moved by d
abbrev pub moved : Region → Offset → Region
moved r d = record r { x = r.x +ℤ d.x; y = r.y +ℤ d.y }
