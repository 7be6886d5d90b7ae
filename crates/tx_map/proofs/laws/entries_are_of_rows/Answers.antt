use Rattle.tx_map.proofs.Nodes.{entries_are_of_rows}
use Rattle.tx_map.proofs.laws.entries_are_of_rows.Goals as goal

pub returns : goal.returns
returns c = entries_are_of_rows c.forests_keep_their_rows.ensures
