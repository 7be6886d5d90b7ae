use Rattle.tx_compose.proofs.FrameLaws.{sight_tells_all}
use Rattle.tx_compose.proofs.laws.sight_tells_all.Goals as goal

pub returns : goal.returns
returns c = sight_tells_all
