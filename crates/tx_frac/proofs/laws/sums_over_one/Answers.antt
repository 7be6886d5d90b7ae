use Rattle.tx_frac.proofs.Multiples.{sums_over_one}
use Rattle.tx_frac.proofs.laws.sums_over_one.Goals as goal

pub returns : goal.returns
returns c = sums_over_one
