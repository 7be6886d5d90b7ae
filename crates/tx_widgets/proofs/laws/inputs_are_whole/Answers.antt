use Rattle.tx_widgets.proofs.WholeLemmas.{fields-whole}
use Rattle.tx_widgets.proofs.laws.inputs_are_whole.Goals as goal

pub returns : goal.returns
returns c = record { law = fields-whole }
