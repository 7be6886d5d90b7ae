use Rattle.tx_tree_file.proofs.Growing.{first_grown}
use Rattle.tx_tree_file.proofs.read.read_behind.Goals as goal

pub add_rows-requires-clause-screen : goal.add_rows-requires-clause-screen
add_rows-requires-clause-screen c = first_grown c.in_ok-tree.tree _ c.in_ok-tree.ensures.rows c.in_ok-tree.ensures.made
