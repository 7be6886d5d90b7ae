use Rattle.std.proofs.Common.{◌≡◌, drop, ◌++◌, length, All}
use Rattle.tx_layout.specs.Children.{IsChild, numbered}
use Rattle.tx_layout.proofs.layers.numbered_children.Given as goal

abbrev pub invariant-loop-index : goal.invariant-loop-index
invariant-loop-index l = record {
  done : numbered 0 l.styles ≡ l.children.items ++ numbered l.index (drop l.index l.styles);
  children : All (IsChild (length l.styles)) l.children.items;
  count : length l.children.items ≡ l.index;
}
