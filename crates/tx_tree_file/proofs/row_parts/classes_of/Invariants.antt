use Rattle.std.proofs.Common.{◌≡◌, ◌≤◌, ◌+◌, ◌-◌, length, option_map, ◌++◌}
use Rattle.tx_tree_file.specs.Parts.{classes_within}
use Rattle.tx_tree_file.proofs.row_parts.classes_of.Given as goal

-- the classes so far, before those that are read of the bytes that are left, are all
abbrev pub invariant-loop-behind : goal.invariant-loop-behind
invariant-loop-behind l = record {
  room : length l.rest + length l.classes.items ≤ length l.bytes;
  all : option_map (λ found. (l.classes.items ++ found.0, found.1)) (classes_within (length l.bytes - length l.classes.items) l.rest) ≡ classes_within (length l.bytes) l.bytes;
}

abbrev pub decreases-loop-behind : goal.decreases-loop-behind
decreases-loop-behind l = length l.rest
