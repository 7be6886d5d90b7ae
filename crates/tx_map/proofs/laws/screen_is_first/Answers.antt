use Rattle.tx_map.proofs.Subtrees.{screen_is_first}
use Rattle.tx_map.proofs.laws.screen_is_first.Goals as goal

pub returns : goal.returns
returns c = screen_is_first
