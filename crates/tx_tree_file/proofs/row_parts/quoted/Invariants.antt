use Rattle.std.proofs.Common.{◌≡◌, drop, false, option_map, ◌++◌}
use Rattle.tx_tree_file.specs.Parts.{quoted}
use Rattle.tx_tree_file.proofs.row_parts.quoted.Given as goal

-- what was read, before what is read of the bytes that are left, is all
abbrev pub invariant-loop-i : goal.invariant-loop-i
invariant-loop-i l = option_map (λ found. (l.text.items ++ found.0, found.1)) (quoted l.escape (drop l.i l.bytes)) ≡ quoted false l.bytes
