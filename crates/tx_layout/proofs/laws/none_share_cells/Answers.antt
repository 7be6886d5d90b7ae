use Rattle.tx_layout.proofs.Filling.{none_share_cells}
use Rattle.tx_layout.proofs.laws.none_share_cells.Goals as goal

pub returns : goal.returns
returns c = none_share_cells c.spans_follow.ensures
