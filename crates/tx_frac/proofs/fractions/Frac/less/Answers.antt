use Rattle.std.specs.Prelude.{int_lt}
use Rattle.tx_frac.proofs.Written.{OrderAnswered, order_answered, read_back}
use Rattle.tx_frac.proofs.fractions.Frac.less.Goals as goal

answered : (c : goal.In_ok-right) → OrderAnswered c.args.self c.args.other (int_lt (read_back c.in_ok-left.left) (read_back c.in_ok-right.right))
answered c =
    rw (← c.self.view_is, ← c.other.view_is)
    (order_answered _ _ c.in_ok-left.left c.in_ok-right.right c.greatest_common_divisor-common.result c.self.invariant c.other.invariant
    (record {
      common = c.greatest_common_divisor-common.ensures.value;
      left = c.in_ok-left.ensures {u = tt};
      right = c.in_ok-right.ensures {u = tt};
    }))

pub returns-clause-exact : goal.returns-clause-exact
returns-clause-exact c = (answered c).exact

pub returns-clause-value : goal.returns-clause-value
returns-clause-value c = (answered c).value
