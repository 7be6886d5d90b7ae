use Rattle.tx_cell.proofs.StripLemmas.{IsWellFormed-laid}
use Rattle.tx_cell.proofs.laws.laid_cells_are_well_formed.Goals as goal

pub returns : goal.returns
returns c = record { law = IsWellFormed-laid }
