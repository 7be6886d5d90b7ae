use Rattle.tx_widgets.proofs.WholeLemmas.{boxes-whole}
use Rattle.tx_widgets.proofs.laws.boxes_are_whole.Goals as goal

pub returns : goal.returns
returns c = record { law = boxes-whole }
