use Rattle.tx_paint.proofs.LawLemmas.{lines-whole}
use Rattle.tx_paint.proofs.laws.lines_are_whole.Goals as goal

pub returns : goal.returns
returns c = record { law = lines-whole }
