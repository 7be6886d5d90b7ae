use Rattle.tx_cascade.proofs.OneKey.{at-most-one}
use Rattle.tx_cascade.proofs.laws.at_most_one_is_greatest.Goals as goal

pub returns : goal.returns
returns c = at-most-one
