-- How far rows stand from the corner of the screen.
use Rattle.std.proofs.Common.{ℕ, ◌+◌, ◌^◌, ◌<◌, ◌≤◌, Bool, true, false, arith}
use Rattle.std.proofs.lemmas.Int.{ints, clamps}
use Rattle.std.specs.Int.{int_max}
use Rattle.std.specs.Prelude.{ℤ, pos, ◌+ℤ◌, cond, ◌==◌, ◌||◌}
use Rattle.tx_geom.specs.Region.{IsNear, IsNearPlace, corner, moved}
use Rattle.tx_geom.specs.declared.places.Offset.{Offset}
use Rattle.tx_geom.specs.declared.places.Region.{Region}
use Rattle.tx_layout.specs.Arrangement.{IsWithinReach}
use Rattle.tx_map.specs.Reach.{IsWithin, IsPlaceWithin, reach}
use Rattle.tx_scroll.specs.Clip.{clipped, common_columns, common_rows, overlap}

near_along : (most : ℕ) (z : ℤ) → most ≤ 2 ^ 61 → IsWithin most z → IsNear z
near_along most z h w = record { low = omega (arith, ints, h, w.low); high = omega (arith, ints, h, w.high) }

-- what is within a lesser reach is near
pub near : {most : ℕ} {p : Offset} → most ≤ 2 ^ 61 → IsPlaceWithin most p → IsNearPlace p
near {most} {p} h w = record { x = near_along most p.x h w.x; y = near_along most p.y h w.y }

more_along : (most more : ℕ) (z : ℤ) → most ≤ more → IsWithin most z → IsWithin more z
more_along most more z h w = record { low = omega (arith, ints, h, w.low); high = omega (arith, ints, h, w.high) }

pub more_within : {most more : ℕ} {p : Offset} → most ≤ more → IsPlaceWithin most p → IsPlaceWithin more p
more_within {most} {more} {p} h w = record { x = more_along most more p.x h w.x; y = more_along most more p.y h w.y }

pub reach_bound : (depth : ℕ) → depth ≤ 63 → reach depth + 2 ^ 16 ≤ 2 ^ 52
reach_bound depth h = omega (arith, h)

-- behind so much room
inside_along : (most room : ℕ) (z : ℤ) → room ≤ 2 ^ 16 → IsWithin most z → IsWithin (most + 2 ^ 16) (z +ℤ pos room)
inside_along most room z h w = record { low = omega (arith, ints, h, w.low); high = omega (arith, ints, h, w.high) }

pub inside_within : {most : ℕ} {p : Offset} (left top : ℕ) → left ≤ 2 ^ 16 → top ≤ 2 ^ 16 → IsPlaceWithin most p → IsPlaceWithin (most + 2 ^ 16) (record { x = p.x +ℤ pos left; y = p.y +ℤ pos top })
inside_within {most} {p} left top l t w = record { x = inside_along most left p.x l w.x; y = inside_along most top p.y t w.y }

-- the later of two
later_along : (most : ℕ) (a b : ℤ) → IsWithin most a → IsWithin most b → IsWithin most (int_max a b)
later_along most a b v w = record { low = omega (arith, ints, clamps, v.low, w.low); high = omega (arith, ints, clamps, v.high, w.high) }

clipped_by : (most : ℕ) (region by : Region) (none : Bool) → IsPlaceWithin most (corner region) → IsPlaceWithin most (corner by)
    → IsPlaceWithin most (corner (cond none (record { x = region.x; y = region.y; width = 0; height = 0 }) (overlap region by)))
clipped_by most region by true v w = v
clipped_by most region by false v w = record { x = later_along most region.x by.x v.x w.x; y = later_along most region.y by.y v.y w.y }

pub clipped_within : {most : ℕ} (region by : Region) → IsPlaceWithin most (corner region) → IsPlaceWithin most (corner by) → IsPlaceWithin most (corner (clipped region by))
clipped_within {most} region by v w = clipped_by most region by ((common_columns region by == 0) || (common_rows region by == 0)) v w

-- a child, moved by the scroll
child_along : (d e : ℕ) (z v s : ℤ) → d < e → IsWithin (2 ^ 44) z → IsWithin (reach d + 2 ^ 16) v → IsWithin (2 ^ 32) s → IsWithin (reach e) ((z +ℤ v) +ℤ s)
child_along d e z v s less w h k = record { low = omega (arith, ints, less, w.low, h.low, k.low); high = omega (arith, ints, less, w.high, h.high, k.high) }

pub child_within : (d e : ℕ) (region viewport : Region) (s : Offset) → d < e → IsPlaceWithin (2 ^ 44) (corner region) → IsPlaceWithin (reach d + 2 ^ 16) (corner viewport) → IsPlaceWithin (2 ^ 32) s
    → IsPlaceWithin (reach e) (corner (moved (moved region (corner viewport)) s))
child_within d e region viewport s less w h k = record { x = child_along d e region.x viewport.x s.x less w.x h.x k.x; y = child_along d e region.y viewport.y s.y less w.y h.y k.y }

-- the first move of it
pub moved_within : (d : ℕ) (region viewport : Region) → d ≤ 63 → IsPlaceWithin (2 ^ 44) (corner region) → IsPlaceWithin (reach d + 2 ^ 16) (corner viewport) → IsPlaceWithin (2 ^ 53) (corner (moved region (corner viewport)))
moved_within d region viewport deep w h = record {
  x = record { low = omega (arith, ints, deep, w.x.low, h.x.low); high = omega (arith, ints, deep, w.x.high, h.x.high) };
  y = record { low = omega (arith, ints, deep, w.y.low, h.y.low); high = omega (arith, ints, deep, w.y.high, h.y.high) };
}

pub in_reach : (region : Region) → IsWithinReach region → IsPlaceWithin (2 ^ 44) (corner region)
in_reach region near = record { x = record { low = near.left; high = near.right }; y = record { low = near.up; high = near.down } }
