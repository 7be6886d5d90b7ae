use Rattle.tx_owner.proofs.Owned.{each_owned}
use Rattle.tx_owner.proofs.laws.each_cell_is_owned.Goals as goal

pub returns : goal.returns
returns c = each_owned
