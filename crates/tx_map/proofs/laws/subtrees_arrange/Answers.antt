use Rattle.tx_map.proofs.Subtrees.{subtrees_arrange}
use Rattle.tx_map.proofs.laws.subtrees_arrange.Goals as goal

pub returns : goal.returns
returns c = subtrees_arrange c.subtrees_stand_alone.ensures c.forests_keep_their_rows.ensures
