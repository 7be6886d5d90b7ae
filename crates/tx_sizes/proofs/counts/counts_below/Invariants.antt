use Rattle.std.proofs.Common.{◌≡◌, ◌≤◌, drop, length}
use Rattle.tx_sizes.specs.Counts.{counts}
use Rattle.tx_sizes.proofs.counts.counts_below.Given as goal

abbrev pub invariant-loop-at : goal.invariant-loop-at
invariant-loop-at l = record {
  done : drop l.at l.below.items ≡ counts (drop l.at l.rows);
  long : length l.below.items ≡ length l.rows;
  within : l.at ≤ length l.rows;
}

abbrev pub decreases-loop-at : goal.decreases-loop-at
decreases-loop-at l = l.at
