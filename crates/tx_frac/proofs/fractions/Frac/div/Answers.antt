use Rattle.std.proofs.Common.{rules, arith}
use Rattle.std.proofs.lemmas.Int.{ints}
use Rattle.tx_frac.proofs.Written.{QuotientAnswered, quotient_answered}
use Rattle.tx_frac.proofs.fractions.Frac.div.Goals as goal

answered : (c : goal.After-reduced) → QuotientAnswered c.args.self c.args.other c.reduced.result
answered c =
    rw (← c.self.view_is, ← c.other.view_is)
    (quotient_answered _ _ c.reduced.result c.in_ok-num.num c.signum.result c.in_ok-den.den c.unsigned_abs.result c.self.invariant c.other.invariant
    (record {
      apart = λ e. omega (arith, ints, c.if-other-eq0.false);
      num = c.in_ok-num.ensures {u = tt};
      size = c.unsigned_abs.ensures.value;
      den = c.in_ok-den.ensures {u = tt};
      sign = c.signum.ensures.value;
      answer = c.reduced.ensures.exact;
    }))

pub returns-clause-exact : goal.returns-clause-exact
returns-clause-exact c = (answered c).exact

pub returns-clause-defined : goal.returns-clause-defined
returns-clause-defined c = let h = answered c in (λ _. (h.apart, h.num_fits, h.den_fits), λ _. search rules)

pub returns-clause-value : goal.returns-clause-value
returns-clause-value c = (answered c).value
