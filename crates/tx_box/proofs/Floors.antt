-- Whole cells of fractions from 0 on.
use Rattle.std.proofs.Common.{◌≡◌, ℕ, zero, suc, ◌*◌, ◌^◌, ◌<◌, ◌≤◌, arith, ℤ, pos, negsuc, to_z, of_z, w32, Fits}
use Rattle.std.specs.Prelude.{◌+ℤ◌, ◌*ℤ◌, ◌≤ℤ◌, ◌<ℤ◌, unsigned_abs}
use Rattle.std.specs.Int.{w128, IsNonNegative}
use Rattle.std.proofs.lemmas.Int.{ints, to_z-of_z}
use Rattle.std.proofs.Math.Nat.{le_of_mul-le-mul_right}
use mir.Val.{SFits}
use Rattle.tx_frac.specs.Ratio.{Ratio}
use Rattle.tx_box.specs.Item.{NotNegative}

-- z is x rounded down
pub record IsFloor (x : Ratio) (z : ℤ) : Type 0 where
  pub below : (z *ℤ pos x.den) ≤ℤ x.num
  pub greatest : x.num <ℤ ((z +ℤ pos 1) *ℤ pos x.den)

-- what lies from 0 to n is rounded down to a number from 0 to n
pub floor_from_zero : (x : Ratio) (z : ℤ) (n : ℕ) → 0 < x.den → NotNegative x → x.num ≤ℤ pos (n * x.den) → IsFloor x z → (pos 0 ≤ℤ z) × (z ≤ℤ pos n)
floor_from_zero x (pos k) n hd low high h =
    let p : k * x.den ≤ n * x.den = let b = h.below in omega (arith, ints) in
    let q : k ≤ n = le_of_mul-le-mul_right p hd in
    (omega (arith, ints), omega (arith, ints))
floor_from_zero x (negsuc zero) n hd low high h = absurd (let g = h.greatest in omega (arith, ints))
floor_from_zero x (negsuc (suc k)) n hd low high h =
    let e : negsuc (suc k) +ℤ pos 1 ≡ negsuc k = omega (arith, ints) in
    absurd (let g = rw e at h.greatest in omega (arith, ints, g))

pub floor_cast : (z : ℤ) (n : ℕ) → n < 2 ^ 32 → (pos 0 ≤ℤ z) × (z ≤ℤ pos n) → IsNonNegative (to_z w128 (of_z w128 z)) × Fits w32 (unsigned_abs (to_z w128 (of_z w128 z)))
floor_cast z n hn h =
    let low = h.0 in
    let high = h.1 in
    let f : SFits w128 z = omega (arith, ints) in
    rw (to_z-of_z w128 z f) (omega (arith, ints), omega (arith, ints))
