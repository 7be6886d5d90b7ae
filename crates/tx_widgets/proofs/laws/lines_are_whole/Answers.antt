use Rattle.tx_widgets.proofs.LineWholeLemmas.{lines-whole}
use Rattle.tx_widgets.proofs.laws.lines_are_whole.Goals as goal

pub returns : goal.returns
returns c = record { law = lines-whole }
