use Rattle.tx_picture.proofs.LawLemmas.{tails-both}
use Rattle.tx_picture.proofs.laws.tails_need_both.Goals as goal

pub returns : goal.returns
returns c = tails-both
