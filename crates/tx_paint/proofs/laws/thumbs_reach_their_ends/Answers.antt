use Rattle.tx_paint.proofs.LawLemmas.{thumb-ends}
use Rattle.tx_paint.proofs.laws.thumbs_reach_their_ends.Goals as goal

pub returns : goal.returns
returns c = record { law = thumb-ends }
