use Rattle.std.proofs.Common.{◌≡◌, drop, ◌≤◌, ◌++◌, length, All}
use Rattle.std.specs.List.{filter}
use Rattle.tx_layout.specs.Children.{IsChild}
use Rattle.tx_layout.specs.Room.{is_in}
use Rattle.tx_layout.proofs.layers.part_of.Given as goal

abbrev pub invariant-loop-child : goal.invariant-loop-child
invariant-loop-child l = record {
  done : filter (is_in l.part) l.initial.children ≡ l.chosen.items ++ filter (is_in l.part) (drop l.child-index l.children);
  children : All (IsChild l.count) l.chosen.items;
  count : length l.chosen.items ≤ l.child-index;
}
