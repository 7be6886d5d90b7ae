use Rattle.tx_cell.proofs.LawLemmas.{lines_formed}
use Rattle.tx_cell.proofs.laws.lines_are_well_formed.Goals as goal

pub returns : goal.returns
returns c = record { law = lines_formed }
