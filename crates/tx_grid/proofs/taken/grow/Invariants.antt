use Rattle.std.proofs.Common.{◌≡◌, ◌≤◌, ◌-◌, ℕ, max, length, slice_index}
use Rattle.tx_grid.proofs.taken.grow.Given as goal

-- empty rows were added
abbrev pub invariant-loop-taken : goal.invariant-loop-taken
invariant-loop-taken l = record {
  same : (y : ℕ) → slice_index l.taken.items y ≡ slice_index l.fn.taken.items y;
  short : length l.taken.items ≤ max (length l.fn.taken.items) l.rows;
}

abbrev pub decreases-loop-taken : goal.decreases-loop-taken
decreases-loop-taken l = l.rows - length l.taken.items
