use Rattle.tx_owner.proofs.Owned.{topmost_that}
use Rattle.tx_owner.proofs.laws.topmost_is_that.Goals as goal

pub returns : goal.returns
returns c = topmost_that
