use Rattle.tx_frac.proofs.Written.{negated_written}
use Rattle.tx_frac.proofs.fractions.Frac.sub.Goals as goal

pub returns-clause-defined : goal.returns-clause-defined
returns-clause-defined c = rw (← c.other.view_is) (rw (negated_written c.other.inside.num c.other.invariant.num_below) at c.add.ensures.defined)

pub returns-clause-value : goal.returns-clause-value
returns-clause-value c = rw (← c.other.view_is) (rw (negated_written c.other.inside.num c.other.invariant.num_below) at c.add.ensures.value)
