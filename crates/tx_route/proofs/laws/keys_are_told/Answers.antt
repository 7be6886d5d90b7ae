use Rattle.tx_route.proofs.Ones.{keys-are-told}
use Rattle.tx_route.proofs.laws.keys_are_told.Goals as goal

pub returns : goal.returns
returns c = keys-are-told
