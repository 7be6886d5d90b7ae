use Rattle.std.proofs.Common.{sym, arith}
use Rattle.std.proofs.lemmas.Nat.Gcd.{IsGcd-from_zero, IsGcd-from_mod}
use Rattle.tx_frac.proofs.lemmas.Gcd.{gcd-of_IsGcd, gcd_pos, gcd_le}
use Rattle.tx_frac.proofs.divisors.greatest_common_divisor.Goals as goal

pub loop-smaller-preserved : goal.loop-smaller-preserved
loop-smaller-preserved c g h = c.loop-smaller.invariant g (IsGcd-from_mod _ _ g h)

pub returns : goal.returns
returns c =
    let is = gcd-of_IsGcd _ _ _ c.requires (c.loop-smaller.invariant _ (IsGcd-from_zero _ _ (omega arith))) in
    record {
      value = sym is;
      positive = rw (← is) (gcd_pos _ _ c.requires);
      bound = rw (← is) (gcd_le _ _ c.requires);
    }
