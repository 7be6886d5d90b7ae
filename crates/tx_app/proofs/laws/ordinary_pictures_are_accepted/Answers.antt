use Rattle.tx_app.proofs.AcceptLemmas.{ordinary_pictures_are_accepted}
use Rattle.tx_app.proofs.laws.ordinary_pictures_are_accepted.Goals as goal

pub returns : goal.returns
returns c = ordinary_pictures_are_accepted c.files_are_read.ensures c.ordinary_sheets.ensures
