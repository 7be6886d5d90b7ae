use Rattle.tx_tree_file.proofs.AgainFile.{again-law}
use Rattle.tx_tree_file.proofs.laws.read_again.Goals as goal

pub returns : goal.returns
returns c = again-law
