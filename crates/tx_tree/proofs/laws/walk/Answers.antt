use Rattle.tx_tree.proofs.Walks.{walks_on}
use Rattle.tx_tree.proofs.laws.walk.Goals as goal

pub returns : goal.returns
returns c = walks_on
