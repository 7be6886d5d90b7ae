use Rattle.tx_picture.proofs.LawLemmas.{wide-both}
use Rattle.tx_picture.proofs.laws.wide_need_both.Goals as goal

pub returns : goal.returns
returns c = wide-both
