use Rattle.tx_map.proofs.Moving.{subtrees_move}
use Rattle.tx_map.proofs.laws.subtrees_move.Goals as goal

pub returns : goal.returns
returns c = subtrees_move
