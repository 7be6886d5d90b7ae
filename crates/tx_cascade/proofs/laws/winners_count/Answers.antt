use Rattle.tx_cascade.proofs.Winners.{winners-count}
use Rattle.tx_cascade.proofs.laws.winners_count.Goals as goal

pub returns : goal.returns
returns c = winners-count c.styles_are_values.ensures.any
