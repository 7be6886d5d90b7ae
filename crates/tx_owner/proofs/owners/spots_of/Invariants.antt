use Rattle.std.proofs.Common.{◌≡◌, ℕ, drop}
use Rattle.tx_node_map.specs.Held.{held}
use Rattle.tx_owner.specs.Owner.{first_cell, is_entry_of}
use Rattle.tx_owner.proofs.owners.spots_of.Given as goal

abbrev pub invariant-loop-y : goal.invariant-loop-y
invariant-loop-y l = (n : ℕ) → held l.spots n ≡ first_cell (is_entry_of l.entries n) l.y (drop l.y l.lines)

abbrev pub decreases-loop-y : goal.decreases-loop-y
decreases-loop-y l = l.y
