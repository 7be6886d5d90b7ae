use Rattle.std.proofs.Common.{◌≤◌, ◌-◌, ◌*◌, length}
use Rattle.tx_grid.specs.Taken.{FitsInNoRowBefore}
use Rattle.tx_grid.proofs.search.first_open.Given as goal

-- the span fits in no row before this one
abbrev pub invariant-loop-row : goal.invariant-loop-row
invariant-loop-row l = record {
  closed : FitsInNoRowBefore l.columns l.rows l.taken l.span l.row;
  near : l.row ≤ 100 * 65537;
}

abbrev pub decreases-loop-row : goal.decreases-loop-row
decreases-loop-row l = length l.taken - l.row
