use Rattle.std.proofs.Common.{arith}
use Rattle.std.proofs.lemmas.Int.{ints}
use Rattle.std.specs.Prelude.{◌≤ℤ◌, ◌<ℤ◌}
use Rattle.tx_geom.proofs.Cells.{read_back-fits, overlap_near, overlap_written, overlap_is, overlap_none, length_is}
use Rattle.tx_geom.proofs.places.common.Goals as goal

pub returns-then-end-first : goal.returns-then-end-first
returns-then-end-first c =
    let h = overlap_written c.args.from c.args.other_from c.args.width c.args.other_width c.max-first.result c.min-end.result c.requires.near c.requires.other_near
    (omega arith) (omega arith) c.max-first.ensures.value c.min-end.ensures.value in
    let near = overlap_near c.args.from c.args.other_from c.args.width c.args.other_width c.max-first.result c.min-end.result c.requires.near c.requires.other_near (omega arith) (omega arith) h in
    let t = rw (read_back-fits c.min-end.result near.1, read_back-fits c.max-first.result near.0) at c.if-end-first.true in
    let low : c.min-end.result ≤ℤ c.max-first.result = omega (arith, ints, t) in
    rw (read_back-fits c.max-first.result near.0) (overlap_none c.args.from c.args.other_from c.args.width c.args.other_width c.max-first.result c.min-end.result h low)

pub overflow_cast-result : goal.overflow_cast-result
overflow_cast-result c =
    let h = overlap_written c.args.from c.args.other_from c.args.width c.args.other_width c.max-first.result c.min-end.result c.requires.near c.requires.other_near
    (omega arith) (omega arith) c.max-first.ensures.value c.min-end.ensures.value in
    let near = overlap_near c.args.from c.args.other_from c.args.width c.args.other_width c.max-first.result c.min-end.result c.requires.near c.requires.other_near (omega arith) (omega arith) h in
    let t = rw (read_back-fits c.min-end.result near.1, read_back-fits c.max-first.result near.0) at c.if-end-first.false in
    let low : c.max-first.result <ℤ c.min-end.result = omega (arith, ints, t) in
    let l = length_is c.max-first.result c.min-end.result near.2 low near.3 in
    rw (read_back-fits c.min-end.result near.1, read_back-fits c.max-first.result near.0) (l.0, l.1)

pub returns : goal.returns
returns c =
    let h = overlap_written c.args.from c.args.other_from c.args.width c.args.other_width c.max-first.result c.min-end.result c.requires.near c.requires.other_near
    (omega arith) (omega arith) c.max-first.ensures.value c.min-end.ensures.value in
    let near = overlap_near c.args.from c.args.other_from c.args.width c.args.other_width c.max-first.result c.min-end.result c.requires.near c.requires.other_near (omega arith) (omega arith) h in
    let t = rw (read_back-fits c.min-end.result near.1, read_back-fits c.max-first.result near.0) at c.if-end-first.false in
    let low : c.max-first.result <ℤ c.min-end.result = omega (arith, ints, t) in
    let l = length_is c.max-first.result c.min-end.result near.2 low near.3 in
    rw (read_back-fits c.min-end.result near.1, read_back-fits c.max-first.result near.0)
    (overlap_is c.args.from c.args.other_from c.args.width c.args.other_width c.max-first.result c.min-end.result _ h l.2)
