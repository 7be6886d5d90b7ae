use Rattle.tx_sizes.proofs.Forests.{stands_alone}
use Rattle.tx_sizes.proofs.laws.subtrees_stand_alone.Goals as goal

pub returns : goal.returns
returns c = stands_alone
