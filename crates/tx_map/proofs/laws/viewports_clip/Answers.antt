use Rattle.tx_map.proofs.Subtrees.{viewports_clip}
use Rattle.tx_map.proofs.laws.viewports_clip.Goals as goal

pub returns : goal.returns
returns c = viewports_clip
