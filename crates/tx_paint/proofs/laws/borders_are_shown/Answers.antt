use Rattle.tx_paint.proofs.LawLemmas.{borders-shown}
use Rattle.tx_paint.proofs.laws.borders_are_shown.Goals as goal

pub returns : goal.returns
returns c = record { law = borders-shown }
