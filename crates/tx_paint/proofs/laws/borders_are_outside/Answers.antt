use Rattle.tx_paint.proofs.LawLemmas.{borders-outside}
use Rattle.tx_paint.proofs.laws.borders_are_outside.Goals as goal

pub returns : goal.returns
returns c = record { law = borders-outside }
