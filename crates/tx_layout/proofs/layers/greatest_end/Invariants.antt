use Rattle.std.proofs.Common.{◌≡◌, drop, ◌<◌, ◌^◌}
use Rattle.std.specs.Prelude.{map}
use Rattle.tx_layout.specs.Room.{outer_end}
use Rattle.tx_layout.proofs.Greatest.{greatest_from}
use Rattle.tx_layout.proofs.layers.greatest_end.Given as goal

abbrev pub invariant-loop-child : goal.invariant-loop-child
invariant-loop-child l = record {
  done : greatest_from 0 (map (outer_end l.axis) l.initial.children) ≡ greatest_from l.most (map (outer_end l.axis) (drop l.child-index l.children));
  bound : l.most < 2 ^ 42;
}
