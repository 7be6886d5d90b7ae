use Rattle.tx_scroll.proofs.InOrder.{vertical-first}
use Rattle.tx_scroll.proofs.laws.vertical_comes_before_horizontal.Goals as goal

pub returns : goal.returns
returns c = vertical-first
