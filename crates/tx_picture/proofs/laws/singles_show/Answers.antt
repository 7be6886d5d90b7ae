use Rattle.tx_picture.proofs.LawLemmas.{singles-show}
use Rattle.tx_picture.proofs.laws.singles_show.Goals as goal

pub returns : goal.returns
returns c = singles-show
