use Rattle.tx_route.proofs.Ones.{deliveries-are-one}
use Rattle.tx_route.proofs.laws.deliveries_are_one.Goals as goal

pub returns : goal.returns
returns c = deliveries-are-one
