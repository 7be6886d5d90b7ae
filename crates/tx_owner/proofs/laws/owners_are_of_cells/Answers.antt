use Rattle.tx_owner.proofs.Owned.{of_cells}
use Rattle.tx_owner.proofs.laws.owners_are_of_cells.Goals as goal

pub returns : goal.returns
returns c = of_cells
