use Rattle.tx_paint.proofs.LawLemmas.{bars-pen}
use Rattle.tx_paint.proofs.laws.bars_are_in_the_rows_pen.Goals as goal

pub returns : goal.returns
returns c = record { law = bars-pen }
