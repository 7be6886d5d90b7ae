use Rattle.tx_route.proofs.Rounds.{steps-come-in}
use Rattle.tx_route.proofs.laws.steps_come_in.Goals as goal

pub returns : goal.returns
returns c = steps-come-in
