use Rattle.tx_cell.proofs.StripLemmas.{IsWellFormed-cropped}
use Rattle.tx_cell.proofs.laws.parts_are_well_formed.Goals as goal

pub returns : goal.returns
returns c = record { law = IsWellFormed-cropped }
