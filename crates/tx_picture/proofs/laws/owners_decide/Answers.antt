use Rattle.tx_picture.proofs.LawLemmas.{owners-decide}
use Rattle.tx_picture.proofs.laws.owners_decide.Goals as goal

pub returns : goal.returns
returns c = owners-decide
