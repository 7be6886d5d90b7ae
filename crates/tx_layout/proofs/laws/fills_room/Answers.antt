use Rattle.tx_layout.proofs.Filling.{fills_room}
use Rattle.tx_layout.proofs.laws.fills_room.Goals as goal

pub returns : goal.returns
returns c = fills_room c.fills_total.ensures c.spans_follow.ensures
