use Rattle.tx_route.proofs.Rounds.{steps-are-undone}
use Rattle.tx_route.proofs.laws.steps_are_undone.Goals as goal

pub returns : goal.returns
returns c = steps-are-undone
