use Rattle.tx_frac.proofs.Multiples.{defined_in_range}
use Rattle.tx_frac.proofs.laws.defined_in_range.Goals as goal

pub returns : goal.returns
returns c = defined_in_range
