use Rattle.std.proofs.Common.{◌≡◌, All, drop, length, ◌++◌}
use Rattle.tx_layout.specs.Children.{IsGap}
use Rattle.tx_layout.specs.Sides.{gaps_behind}
use Rattle.tx_layout.proofs.sides.gaps.Given as goal

abbrev pub invariant-loop-child : goal.invariant-loop-child
invariant-loop-child l = record {
  done : gaps_behind l.axis 0 l.initial.children ≡ l.gaps.items ++ gaps_behind l.axis l.margin (drop l.child-index l.children);
  narrow : All IsGap l.gaps.items;
  count : length l.gaps.items ≡ l.child-index;
}
