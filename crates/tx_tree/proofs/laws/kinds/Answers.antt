use Rattle.tx_tree.proofs.lemmas.Kinds.{found_by_name}
use Rattle.tx_tree.proofs.laws.kinds.Goals as goal

pub returns : goal.returns
returns c = found_by_name
