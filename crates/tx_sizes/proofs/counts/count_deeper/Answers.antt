use Rattle.std.proofs.Common.{◌≡◌, ◌<◌, length, true, ap, arith}
use Rattle.std.proofs.lemmas.Bool.{lt-ltb}
use Rattle.std.specs.Prelude.{nat_lt}
use Rattle.tx_sizes.specs.Forest.{depth}
use Rattle.tx_sizes.proofs.Counting.{child_at, counted_next}
use Rattle.tx_sizes.proofs.lemmas.RowsBelow.{length-counts}
use Rattle.tx_sizes.proofs.counts.count_deeper.Goals as goal

pub bounds-below-count : goal.bounds-below-count
bounds-below-count c = omega (arith, ap length c.requires.below, length-counts c.args.rows.now, c.loop-count-test.true)

pub loop-count-preserved : goal.loop-count-preserved
loop-count-preserved c =
    let row = c.index-rows-count.result in
    let less : c.args.depth < depth row = omega (arith, c.if-depth.false, c.depth.ensures) in
    let deep : nat_lt c.args.depth (depth row) ≡ true = lt-ltb c.args.depth (depth row) less in
    rw c.requires.below (counted_next c.loop-count.invariant (child_at c.args.depth c.args.rows.now c.loop-count.count row c.loop-count-test.true c.index-rows-count.is deep))
