use Rattle.std.proofs.Common.{◌-◌, length}
use Rattle.tx_sizes.proofs.Counting.{Counted}
use Rattle.tx_sizes.proofs.counts.count_deeper.Given as goal

abbrev pub invariant-loop-count : goal.invariant-loop-count
invariant-loop-count l = Counted l.depth l.rows l.count

abbrev pub decreases-loop-count : goal.decreases-loop-count
decreases-loop-count l = length l.rows - l.count
