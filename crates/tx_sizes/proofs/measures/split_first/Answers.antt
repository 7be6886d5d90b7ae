use Rattle.std.proofs.Common.{length, ap, arith}
use Rattle.tx_sizes.proofs.Counting.{counts_rest}
use Rattle.tx_sizes.proofs.lemmas.RowsBelow.{length-counts}
use Rattle.tx_sizes.proofs.measures.split_first.Goals as goal

pub counts_from-requires : goal.counts_from-requires
counts_from-requires c = omega (arith, c.requires.some, ap length c.requires.below, length-counts c.args.rows.now)

pub returns-clause-below : goal.returns-clause-below
returns-clause-below c = counts_rest c.args.rows.now c.args.below.now c.counts_from.result.now 1 c.requires.below c.counts_from.ensures
