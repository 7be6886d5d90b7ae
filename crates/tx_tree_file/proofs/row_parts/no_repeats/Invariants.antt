use Rattle.std.proofs.Common.{◌≡◌, ◌≤◌, ℕ, List, true, length, drop, bytes_eq}
use Rattle.std.specs.HashSet.{contains}
use Rattle.tx_tree.specs.Classes.{has_name}
use Rattle.tx_tree.specs.Spelled.{no_repeats}
use Rattle.tx_tree_file.proofs.row_parts.no_repeats.Given as goal

-- the names from this place on are kept, and none of them stands twice
abbrev pub invariant-loop-left : goal.invariant-loop-left
invariant-loop-left l = record {
  bound : l.left ≤ length l.names;
  apart : no_repeats (drop l.left l.names) ≡ true;
  known : (name : List ℕ) → contains bytes_eq l.later name ≡ has_name name (drop l.left l.names);
}

abbrev pub decreases-loop-left : goal.decreases-loop-left
decreases-loop-left l = l.left
