use Rattle.tx_map.proofs.Moving.{scrolls_move}
use Rattle.tx_map.proofs.laws.scrolls_move.Goals as goal

pub returns : goal.returns
returns c = scrolls_move
