use Rattle.tx_cell.proofs.lemmas.MadeCells.{cell_of-IsMade}
use Rattle.tx_cell.proofs.laws.texts_make_cells.Goals as goal

pub returns : goal.returns
returns c = record { law = cell_of-IsMade }
