use Rattle.std.proofs.Common.{◌≡◌, ℕ, ◌^◌, ◌<◌, ◌/◌, refl, sym, subst, arith, ℤ, pos, to_z, of_z}
use Rattle.std.specs.Prelude.{unsigned_abs, int_div, ◌<ℤ◌}
use Rattle.std.specs.Int.{w128}
use Rattle.std.proofs.lemmas.Int.{ints, to_z-of_z, to_z_pos, quot_fits}
use mir.Val.{SFits}
use Rattle.tx_frac.specs.Ratio.{Ratio, IsBounded, IsRatio, lowest, gcd}
use Rattle.tx_frac.proofs.Lowest.{IsRatio-lowest, IsBounded-lowest}
use Rattle.tx_frac.proofs.fractions.reduced.Goals as goal

quotient : (n : ℤ) (g : ℕ) → SFits w128 n → 0 < g → g < 2 ^ 127 → to_z w128 (of_z w128 (int_div (to_z w128 (of_z w128 n)) (to_z w128 g))) ≡ int_div n (pos g)
quotient n g f p h =
    let above : pos 0 <ℤ pos g = omega (arith, ints) in
    rw (to_z-of_z w128 n f, to_z_pos w128 g h) (to_z-of_z w128 (int_div n (pos g)) (quot_fits w128 n (pos g) f above))

abbrev written : ℤ → ℕ → ℕ → Ratio
written n d g = record { num = to_z w128 (of_z w128 (int_div (to_z w128 (of_z w128 n)) (to_z w128 g))); den = d / g }

written_is : (n : ℤ) (d g : ℕ) → SFits w128 n → 0 < g → g < 2 ^ 127 → (k : ℕ) → k ≡ unsigned_abs (to_z w128 (of_z w128 n)) → g ≡ gcd k d → written n d g ≡ lowest n d
unfolding lowest
written_is n d g f p h k e q =
    let same : k ≡ unsigned_abs n = rw (to_z-of_z w128 n f) at e in
    let is : g ≡ gcd (unsigned_abs n) d = rw same at q in
    rw (quotient n g f p h, is) refl

pub invariant_of-result : goal.invariant_of-result
invariant_of-result c =
    let e = written_is c.args.num c.args.den c.greatest_common_divisor-common.result c.ranges.num c.greatest_common_divisor-common.ensures.positive (omega arith) c.unsigned_abs.result c.unsigned_abs.ensures.value c.greatest_common_divisor-common.ensures.value in
    subst IsBounded (sym e) (IsBounded-lowest c.args.num c.args.den (grind arith) c.requires.positive c.requires.den_in_range)

pub returns-clause-exact : goal.returns-clause-exact
returns-clause-exact c = written_is c.args.num c.args.den c.greatest_common_divisor-common.result c.ranges.num c.greatest_common_divisor-common.ensures.positive (omega arith) c.unsigned_abs.result c.unsigned_abs.ensures.value c.greatest_common_divisor-common.ensures.value

pub returns-clause-value : goal.returns-clause-value
returns-clause-value c =
    let e = written_is c.args.num c.args.den c.greatest_common_divisor-common.result c.ranges.num c.greatest_common_divisor-common.ensures.positive (omega arith) c.unsigned_abs.result c.unsigned_abs.ensures.value c.greatest_common_divisor-common.ensures.value in
    subst (IsRatio c.args.num c.args.den) (sym e) (IsRatio-lowest c.args.num c.args.den c.requires.positive)
