use Rattle.tx_scroll.proofs.InOrder.{always-scroll}
use Rattle.tx_scroll.proofs.laws.scroll_has_a_bar.Goals as goal

pub returns : goal.returns
returns c = always-scroll
