use Rattle.tx_map.proofs.Subtrees.{subtrees_are_mapped}
use Rattle.tx_map.proofs.laws.subtrees_are_mapped.Goals as goal

pub returns : goal.returns
returns c = subtrees_are_mapped c.subtrees_stand_alone.ensures c.forests_keep_their_rows.ensures
