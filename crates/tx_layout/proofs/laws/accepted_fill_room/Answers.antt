use Rattle.tx_layout.proofs.Filling.{fills_room}
use Rattle.tx_layout.proofs.Unshared.{accepted_fill_room}
use Rattle.tx_layout.proofs.laws.accepted_fill_room.Goals as goal

pub returns : goal.returns
returns c = accepted_fill_room (fills_room c.fills_total.ensures c.spans_follow.ensures)
