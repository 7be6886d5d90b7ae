use Rattle.std.proofs.Common.{◌≤◌, ◌-◌}
use Rattle.tx_grid.specs.Taken.{AreStarts}
use Rattle.tx_grid.proofs.taken.starts_of.Given as goal

-- the bits say where the first `count` of them are open
abbrev pub invariant-loop-count : goal.invariant-loop-count
invariant-loop-count l = record {
  least : 1 ≤ l.count;
  most : l.count ≤ l.width;
  starts : AreStarts l.row l.count l.starts;
}

abbrev pub decreases-loop-count : goal.decreases-loop-count
decreases-loop-count l = l.width - l.count
