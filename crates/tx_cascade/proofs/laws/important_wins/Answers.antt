use Rattle.tx_cascade.proofs.Orders.{important-wins}
use Rattle.tx_cascade.proofs.laws.important_wins.Goals as goal

pub returns : goal.returns
returns c = important-wins
