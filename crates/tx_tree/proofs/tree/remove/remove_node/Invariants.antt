use Rattle.std.proofs.Common.{◌≡◌, ◌≢◌, is_some, true, length, []}
use Rattle.std.specs.HashMap.{get}
use Rattle.std.specs.Str.{bytes_eq}
use Rattle.tx_tree.specs.Rows.{removed, subtree_of, after_of}
use Rattle.tx_tree.specs.Links.{slots, rows_of, children_in, IsKept, KeepsRoom}
use Rattle.tx_tree.proofs.tree.remove.remove_node.Given as goal

-- the rows without the subtree are still those that are wanted
abbrev pub invariant-loop-leaf : goal.invariant-loop-leaf
invariant-loop-leaf l = record {
  kept : IsKept l.nodes.items l.behind.items (λ name. get bytes_eq l.ids name);
  live : is_some (slots l.nodes.items l.n) ≡ true;
  made : length l.nodes.items ≡ length l.initial.nodes.items;
  rows : removed l.n (rows_of (slots l.nodes.items)) ≡ removed l.n (rows_of (slots l.initial.nodes.items));
  room : KeepsRoom l.initial.nodes.items l.nodes.items;
  there : is_some (slots l.nodes.items l.leaf) ≡ true;
  bare : children_in (slots l.nodes.items l.leaf) ≡ [];
  last : after_of l.leaf (rows_of (slots l.nodes.items)) ≡ after_of l.n (rows_of (slots l.nodes.items));
  not_first : l.leaf ≢ 1;
}

abbrev pub decreases-loop-leaf : goal.decreases-loop-leaf
decreases-loop-leaf l = length (subtree_of l.n (rows_of (slots l.nodes.items)))
