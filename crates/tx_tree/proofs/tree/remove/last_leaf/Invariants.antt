use Rattle.std.proofs.Common.{◌≡◌, ◌≢◌, ◌-◌, is_some, true}
use Rattle.tx_tree.specs.Rows.{after_of}
use Rattle.tx_tree.specs.Links.{slots, rows_of, depth_in}
use Rattle.tx_tree.proofs.tree.remove.last_leaf.Given as goal

-- the same rows stand behind the subtree
abbrev pub invariant-loop-node : goal.invariant-loop-node
invariant-loop-node l = record {
  live : is_some (slots l.nodes l.leaf) ≡ true;
  last : after_of l.leaf (rows_of (slots l.nodes)) ≡ after_of l.n (rows_of (slots l.nodes));
  not_first : l.n ≢ 1 → l.leaf ≢ 1;
}

abbrev pub decreases-loop-node : goal.decreases-loop-node
decreases-loop-node l = 64 - depth_in (slots l.nodes l.leaf)
