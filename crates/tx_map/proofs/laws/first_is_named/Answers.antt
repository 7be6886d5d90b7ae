use Rattle.tx_map.proofs.Outcomes.{first_is_named}
use Rattle.tx_map.proofs.laws.first_is_named.Goals as goal

pub returns : goal.returns
returns c = first_is_named
