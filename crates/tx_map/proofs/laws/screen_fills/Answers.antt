use Rattle.tx_map.proofs.Wholes.{screen_fills}
use Rattle.tx_map.proofs.laws.screen_fills.Goals as goal

pub returns : goal.returns
returns c = screen_fills
