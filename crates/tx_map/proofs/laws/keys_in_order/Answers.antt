use Rattle.tx_map.proofs.Keys.{keys_in_order}
use Rattle.tx_map.proofs.laws.keys_in_order.Goals as goal

pub returns : goal.returns
returns c = keys_in_order
