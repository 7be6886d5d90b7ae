use Rattle.std.proofs.Common.{◌+◌, ◌^◌, refl, arith, w64}
use Rattle.std.proofs.lemmas.Int.{ints, to_z-of_z, to_z_pos}
use Rattle.tx_box.specs.Shape.{IsUpTo}
use Rattle.tx_box.specs.Axis.{placed}
use Rattle.tx_box.proofs.Floors.{floor_from_zero}
use Rattle.tx_box.proofs.Places.{sum_up_to, up_to_count, up_to_cells, floor_fits, cells_between}
use Rattle.tx_box.proofs.axes.place_one.Goals as goal

pub overflow_cast-span : goal.overflow_cast-span
overflow_cast-span c =
    let f = c.floor.ensures in
    let k = floor_fits c.args.from c.floor.result (2 ^ 57) (omega arith) c.requires.from (record { below = f.below; greatest = f.greatest }) in
    rw k.0 k.1

pub overflow_cast-span-2 : goal.overflow_cast-span-2
overflow_cast-span-2 c =
    let f = c.floor-2.ensures in
    let a = c.in_ok-end.ensures {u = tt} in
    let u = sum_up_to c.args.from c.args.size c.in_ok-end.end (2 ^ 57) 65535 c.requires.from (up_to_count c.args.size c.requires.size) a.value in
    let k = floor_fits c.in_ok-end.end c.floor-2.result (2 ^ 57 + 65535) (omega arith) u (record { below = f.below; greatest = f.greatest }) in
    rw k.0 k.1

pub returns-clause-next : goal.returns-clause-next
returns-clause-next c n h =
    let a = c.in_ok-end.ensures {u = tt} in
    let b = c.in_ok-next.ensures {u = tt} in
    let end = sum_up_to c.args.from c.args.size c.in_ok-end.end n 65535 h (up_to_count c.args.size c.requires.size) a.value in
    let gap : IsUpTo c.args.gap c.whole.result = rw (c.whole.ensures, to_z_pos w64 c.args.gap (omega arith)) (up_to_cells c.args.gap) in
    let next = sum_up_to c.in_ok-end.end c.whole.result c.in_ok-next.next (n + 65535) c.args.gap end gap b.value in
    next

pub returns-clause-near : goal.returns-clause-near
returns-clause-near c n h =
    let g = c.floor-2.ensures in
    let a = c.in_ok-end.ensures {u = tt} in
    let u = sum_up_to c.args.from c.args.size c.in_ok-end.end n 65535 h (up_to_count c.args.size c.requires.size) a.value in
    let b = floor_from_zero c.in_ok-end.end c.floor-2.result (n + 65535) u.positive u.not_negative u.at_most (record { below = g.below; greatest = g.greatest }) in
    let v = sum_up_to c.args.from c.args.size c.in_ok-end.end (2 ^ 57) 65535 c.requires.from (up_to_count c.args.size c.requires.size) a.value in
    let m = floor_fits c.in_ok-end.end c.floor-2.result (2 ^ 57 + 65535) (omega arith) v (record { below = g.below; greatest = g.greatest }) in
    rw (m.0, to_z-of_z w64 c.floor-2.result m.1) b.1

pub returns-clause-exact : goal.returns-clause-exact
unfolding placed
returns-clause-exact c =
    let f = c.floor.ensures in
    let g = c.floor-2.ensures in
    let a = c.in_ok-end.ensures {u = tt} in
    let b = c.in_ok-next.ensures {u = tt} in
    let w = c.whole.ensures in
    let k = floor_fits c.args.from c.floor.result (2 ^ 57) (omega arith) c.requires.from (record { below = f.below; greatest = f.greatest }) in
    let u = sum_up_to c.args.from c.args.size c.in_ok-end.end (2 ^ 57) 65535 c.requires.from (up_to_count c.args.size c.requires.size) a.value in
    let m = floor_fits c.in_ok-end.end c.floor-2.result (2 ^ 57 + 65535) (omega arith) u (record { below = g.below; greatest = g.greatest }) in
    let next = rw (w, to_z_pos w64 c.args.gap (omega arith)) at b.exact in
    rw (k.0, m.0, to_z-of_z w64 c.floor.result k.1, to_z-of_z w64 c.floor-2.result m.1, ← a.exact, ← next, f.value, g.value) refl

pub returns-clause-span : goal.returns-clause-span
returns-clause-span c =
    let f = c.floor.ensures in
    let g = c.floor-2.ensures in
    let a = c.in_ok-end.ensures {u = tt} in
    let size = up_to_count c.args.size c.requires.size in
    let k = floor_fits c.args.from c.floor.result (2 ^ 57) (omega arith) c.requires.from (record { below = f.below; greatest = f.greatest }) in
    let u = sum_up_to c.args.from c.args.size c.in_ok-end.end (2 ^ 57) 65535 c.requires.from size a.value in
    let m = floor_fits c.in_ok-end.end c.floor-2.result (2 ^ 57 + 65535) (omega arith) u (record { below = g.below; greatest = g.greatest }) in
    let b = cells_between c.args.from c.args.size c.in_ok-end.end c.floor.result c.floor-2.result (2 ^ 57) 65535 c.requires.from size a.value
    (record { below = f.below; greatest = f.greatest }) (record { below = g.below; greatest = g.greatest }) in
    let far = b.far in
    rw (k.0, m.0, to_z-of_z w64 c.floor.result k.1, to_z-of_z w64 c.floor-2.result m.1)
    (record { not_negative = b.not_negative; forward = b.forward; at_most = b.at_most; far = omega (arith, ints) })
