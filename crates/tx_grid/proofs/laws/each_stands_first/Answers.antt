use Rattle.tx_grid.proofs.Standings.{each_stands_first}
use Rattle.tx_grid.proofs.laws.each_stands_first.Goals as goal

pub returns : goal.returns
returns c = each_stands_first
