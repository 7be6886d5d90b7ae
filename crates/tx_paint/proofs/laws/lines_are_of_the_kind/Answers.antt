use Rattle.tx_paint.proofs.LawLemmas.{lines-of-kind}
use Rattle.tx_paint.proofs.laws.lines_are_of_the_kind.Goals as goal

pub returns : goal.returns
returns c = record { law = lines-of-kind }
