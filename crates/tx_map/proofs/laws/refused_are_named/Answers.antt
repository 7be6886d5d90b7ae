use Rattle.tx_map.proofs.Refused.{refused_are_named}
use Rattle.tx_map.proofs.laws.refused_are_named.Goals as goal

pub returns : goal.returns
returns c = refused_are_named
