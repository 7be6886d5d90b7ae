use Rattle.tx_tree_file.proofs.AgainFile.{reading-again}
use Rattle.tx_tree_file.proofs.Whole.{reading-of}
use Rattle.tx_tree_file.proofs.laws.files_are_read.Goals as goal

pub returns : goal.returns
returns c = λ bytes tree. (reading-of bytes tree, reading-again bytes tree)
