use Rattle.tx_scroll.proofs.Regions.{clipped-is}
use Rattle.tx_scroll.proofs.clips.clip.Goals as goal

pub returns-clause-exact : goal.returns-clause-exact
returns-clause-exact c = clipped-is _ _ _ c.intersect.ensures.cells c.intersect.ensures.nothing
