use Rattle.tx_scroll.proofs.InOrder.{shows-arrangement}
use Rattle.tx_scroll.proofs.laws.shows_the_arrangement_beside_the_bars.Goals as goal

pub returns : goal.returns
returns c = shows-arrangement
