use Rattle.tx_cell.proofs.LawLemmas.{cells_own}
use Rattle.tx_cell.proofs.laws.cells_are_of_their_text.Goals as goal

pub returns : goal.returns
returns c = record { law = cells_own }
