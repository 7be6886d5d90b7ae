use Rattle.std.proofs.Common.{◌≡◌, drop, ◌<◌, ◌^◌, Some}
use Rattle.std.specs.Prelude.{map, unwrap_or}
use Rattle.std.specs.List.{last_or}
use Rattle.tx_layout.specs.Room.{outer_end}
use Rattle.tx_layout.proofs.layers.last_end.Given as goal

abbrev pub invariant-loop-child : goal.invariant-loop-child
invariant-loop-child l = record {
  done : unwrap_or (last_or (Some 0) (map (outer_end l.axis) l.initial.children)) 0 ≡ unwrap_or (last_or (Some l.end) (map (outer_end l.axis) (drop l.child-index l.children))) 0;
  bound : l.end < 2 ^ 42;
}
