use Rattle.tx_grid.proofs.Standings.{none_share_cells}
use Rattle.tx_grid.proofs.laws.none_share_cells.Goals as goal

pub returns : goal.returns
returns c = none_share_cells
