use Rattle.std.proofs.Common.{length}
use Rattle.tx_sizes.proofs.measures.+measuring.Given as goal

abbrev pub decreases-measure : goal.decreases-measure
decreases-measure l = length l.rows.now

abbrev pub decreases-answer : goal.decreases-answer
decreases-answer l = length l.behind.now
