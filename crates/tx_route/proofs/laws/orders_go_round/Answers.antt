use Rattle.tx_route.proofs.Rounds.{orders-go-round}
use Rattle.tx_route.proofs.laws.orders_go_round.Goals as goal

pub returns : goal.returns
returns c = orders-go-round
