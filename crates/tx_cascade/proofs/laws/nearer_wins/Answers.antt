use Rattle.tx_cascade.proofs.Orders.{nearer-wins}
use Rattle.tx_cascade.proofs.laws.nearer_wins.Goals as goal

pub returns : goal.returns
returns c = nearer-wins
