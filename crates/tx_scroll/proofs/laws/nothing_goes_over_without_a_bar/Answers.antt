use Rattle.tx_scroll.proofs.InOrder.{nothing-unreached}
use Rattle.tx_scroll.proofs.laws.nothing_goes_over_without_a_bar.Goals as goal

pub returns : goal.returns
returns c = nothing-unreached
