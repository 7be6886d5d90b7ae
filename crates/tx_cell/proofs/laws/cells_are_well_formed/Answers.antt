use Rattle.tx_cell.proofs.StripLemmas.{IsWellFormed-with_tail}
use Rattle.tx_cell.proofs.laws.cells_are_well_formed.Goals as goal

pub returns : goal.returns
returns c = record { law = IsWellFormed-with_tail }
