use Rattle.tx_cell.proofs.lemmas.MadeCells.{cell_of-nothing}
use Rattle.tx_cell.proofs.laws.nothing_makes_no_cell.Goals as goal

pub returns : goal.returns
returns c = record { law = cell_of-nothing }
