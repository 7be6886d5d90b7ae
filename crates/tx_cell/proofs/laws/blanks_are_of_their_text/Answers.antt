use Rattle.tx_cell.proofs.lemmas.MadeCells.{IsOfItsText-blank}
use Rattle.tx_cell.proofs.laws.blanks_are_of_their_text.Goals as goal

pub returns : goal.returns
returns c = record { law = IsOfItsText-blank }
