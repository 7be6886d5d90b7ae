use Rattle.tx_sizes.proofs.Ordinary.{ordinary_rows}
use Rattle.tx_sizes.proofs.laws.ordinary_rows.Goals as goal

pub returns : goal.returns
returns c = ordinary_rows c.ordinary_children.ensures c.ordinary_looks.ensures
