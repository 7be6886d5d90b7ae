use Rattle.std.proofs.Common.{◌≡◌, drop, length, ◌++◌}
use Rattle.tx_layout.specs.Sides.{areas}
use Rattle.tx_layout.proofs.sides.areas.Given as goal

abbrev pub invariant-loop-child : goal.invariant-loop-child
invariant-loop-child l = record {
  done : areas l.area l.initial.children ≡ l.areas.items ++ areas l.area (drop l.child-index l.children);
  count : length l.areas.items ≡ l.child-index;
}
