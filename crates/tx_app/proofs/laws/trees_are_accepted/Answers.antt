use Rattle.tx_app.proofs.AcceptLemmas.{trees_are_accepted}
use Rattle.tx_app.proofs.laws.trees_are_accepted.Goals as goal

pub returns : goal.returns
returns c = trees_are_accepted c.wholes_are_read.ensures c.files_are_read.ensures
