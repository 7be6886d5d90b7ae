use Rattle.tx_scroll.proofs.InOrder.{few-trials}
use Rattle.tx_scroll.proofs.laws.few_trials_are_made.Goals as goal

pub returns : goal.returns
returns c = few-trials
