use Rattle.tx_scroll.proofs.Defined.{defined_where_arranged}
use Rattle.tx_scroll.proofs.laws.defined_where_arranged.Goals as goal

pub returns : goal.returns
returns c = defined_where_arranged
