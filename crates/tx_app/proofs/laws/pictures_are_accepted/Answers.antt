use Rattle.tx_app.proofs.AcceptLemmas.{pictures_are_accepted}
use Rattle.tx_app.proofs.laws.pictures_are_accepted.Goals as goal

pub returns : goal.returns
returns c = pictures_are_accepted c.files_are_read.ensures
