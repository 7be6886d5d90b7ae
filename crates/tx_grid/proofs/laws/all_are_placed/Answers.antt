use Rattle.tx_grid.proofs.Standings.{all_are_placed}
use Rattle.tx_grid.proofs.laws.all_are_placed.Goals as goal

pub returns : goal.returns
returns c = all_are_placed
