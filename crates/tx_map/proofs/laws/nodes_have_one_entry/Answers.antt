use Rattle.tx_map.proofs.Nodes.{nodes_have_one_entry}
use Rattle.tx_map.proofs.laws.nodes_have_one_entry.Goals as goal

pub returns : goal.returns
returns c = nodes_have_one_entry c.forests_keep_their_rows.ensures
