use Rattle.std.proofs.Common.{◌≡◌}
use Rattle.tx_tree.specs.Rows.{first_row, after_of}
use Rattle.tx_tree.specs.Links.{slots, rows_of}
use Rattle.tx_tree.proofs.Lookups.{height_in}
use Rattle.tx_tree.proofs.tree.links.first_after.Given as goal

-- the row behind the subtree of the node is still the one that is wanted
abbrev pub invariant-loop-node : goal.invariant-loop-node
invariant-loop-node l = first_row (after_of l.here (rows_of (slots l.nodes))) ≡ first_row (after_of l.n (rows_of (slots l.nodes)))

abbrev pub decreases-loop-node : goal.decreases-loop-node
decreases-loop-node l = height_in (slots l.nodes l.here)
