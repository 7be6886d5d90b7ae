use Rattle.tx_sizes.proofs.Deciding.{subtrees_decide}
use Rattle.tx_sizes.proofs.laws.subtrees_decide.Goals as goal

pub returns : goal.returns
returns c = subtrees_decide
