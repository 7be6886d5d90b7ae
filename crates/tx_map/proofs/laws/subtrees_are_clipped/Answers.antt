use Rattle.tx_map.proofs.Wholes.{subtrees_are_clipped}
use Rattle.tx_map.proofs.laws.subtrees_are_clipped.Goals as goal

pub returns : goal.returns
returns c = subtrees_are_clipped
