use Rattle.tx_widgets.proofs.ShownLemmas.{bars-ends}
use Rattle.tx_widgets.proofs.laws.bars_reach_their_ends.Goals as goal

pub returns : goal.returns
returns c = record { law = bars-ends }
