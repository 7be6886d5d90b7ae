use Rattle.tx_scroll.proofs.InOrder.{never-hidden}
use Rattle.tx_scroll.proofs.laws.hidden_has_no_bar.Goals as goal

pub returns : goal.returns
returns c = never-hidden
