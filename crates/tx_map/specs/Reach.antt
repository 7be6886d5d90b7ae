-- How far from the corner of the screen rows stand.
use Rattle.std.specs.Prelude.{ℕ, ◌+◌, ◌*◌, ◌^◌, ℤ, pos, neg_ℤ, ◌≤ℤ◌}
use Rattle.tx_geom.specs.Region.{corner}
use Rattle.tx_geom.specs.declared.places.Offset.{Offset}
use Rattle.tx_geom.specs.declared.places.Region.{Region}
use Rattle.tx_map.specs.declared.places.Frame.{Frame}

-- a coordinate lies within so many cells before and after
pub record IsWithin (most : ℕ) (z : ℤ) : Type 0 where
  pub low : neg_ℤ (pos most) ≤ℤ z
  pub high : z ≤ℤ pos most

-- so do both of a place
pub record IsPlaceWithin (most : ℕ) (p : Offset) : Type 0 where
  pub x : IsWithin most p.x
  pub y : IsWithin most p.y

-- how far rows at a depth stand: each row adds less than 2^45 cells
abbrev pub reach : ℕ → ℕ
reach depth = 2 ^ 45 * depth

-- a row at a depth stands that near, and so does what it is clipped to
pub record IsReached (depth : ℕ) (own shown : Region) : Type 0 where
  pub region : IsPlaceWithin (reach depth) (corner own)
  pub clip : IsPlaceWithin (reach depth) (corner shown)

-- what a row hands down stands hardly further: after its padding and its border
pub record IsHandedDown (frame : Frame) : Type 0 where
  pub viewport : IsPlaceWithin (reach frame.depth + 2 ^ 16) (corner frame.viewport)
  pub clip : IsPlaceWithin (reach frame.depth + 2 ^ 16) (corner frame.clip)
