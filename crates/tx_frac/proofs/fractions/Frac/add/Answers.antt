use Rattle.std.proofs.Common.{rules}
use Rattle.tx_frac.proofs.Written.{SumAnswered, sum_answered}
use Rattle.tx_frac.proofs.fractions.Frac.add.Goals as goal

answered : (c : goal.After-reduced) → SumAnswered c.args.self c.args.other c.reduced.result
answered c =
    rw (← c.self.view_is, ← c.other.view_is)
    (sum_answered _ _ c.reduced.result c.in_ok-left.left c.in_ok-right.right c.in_ok-num.num c.in_ok-den.den c.greatest_common_divisor-common.result
    c.self.invariant c.other.invariant
    (record {
      common = c.greatest_common_divisor-common.ensures.value;
      left = c.in_ok-left.ensures {u = tt};
      right = c.in_ok-right.ensures {u = tt};
      num = c.in_ok-num.ensures {u = tt};
      den = c.in_ok-den.ensures {u = tt};
      answer = c.reduced.ensures.exact;
    }))

pub returns-clause-exact : goal.returns-clause-exact
returns-clause-exact c = (answered c).exact

pub returns-clause-defined : goal.returns-clause-defined
returns-clause-defined c = let h = (answered c).fits in search rules

pub returns-clause-value : goal.returns-clause-value
returns-clause-value c = (answered c).value
