use Rattle.tx_opening.proofs.Judged.{openings-read}
use Rattle.tx_opening.proofs.laws.openings_are_read.Goals as goal

pub returns : goal.returns
returns c = openings-read c.files_are_read.ensures
