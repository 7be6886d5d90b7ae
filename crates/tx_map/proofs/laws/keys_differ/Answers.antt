use Rattle.tx_map.proofs.Keys.{keys_differ, screen_alone_is_lowest}
use Rattle.tx_map.proofs.laws.keys_differ.Goals as goal

pub returns-clause-differ : goal.returns-clause-differ
returns-clause-differ c = keys_differ

pub returns-clause-lowest : goal.returns-clause-lowest
returns-clause-lowest c = screen_alone_is_lowest
