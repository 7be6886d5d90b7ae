use Rattle.std.proofs.Common.{arith}
use Rattle.tx_box.proofs.Floors.{floor_from_zero, floor_cast}
use Rattle.tx_box.proofs.sizes.box_of.Goals as goal

pub overflow_cast-result : goal.overflow_cast-result
overflow_cast-result c =
    let f = c.floor.ensures in
    let count = (c.in-Some.ensures {u = tt}).count in
    floor_cast c.floor.result 65535 (omega arith)
    (floor_from_zero c.in-Some.size c.floor.result 65535 count.positive count.not_negative count.at_most (record { below = f.below; greatest = f.greatest }))
