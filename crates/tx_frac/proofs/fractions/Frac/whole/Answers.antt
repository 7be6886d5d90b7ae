use Rattle.tx_frac.proofs.Written.{IsBounded-whole_of, whole_written}
use Rattle.tx_frac.proofs.fractions.Frac.whole.Goals as goal

pub invariant_of-result : goal.invariant_of-result
invariant_of-result c = rw (whole_written c.args.n c.ranges.n) (IsBounded-whole_of c.args.n c.ranges.n)
