use Rattle.std.proofs.Common.{◌≡◌, ◌+◌, ◌≤◌, drop}
use Rattle.tx_box.specs.Axis.{growing}
use Rattle.tx_box.proofs.rounds.count_growing.Given as goal

abbrev pub invariant-loop-part : goal.invariant-loop-part
invariant-loop-part l = record {
  done : l.count + growing (drop l.part-index l.parts) ≡ growing l.parts;
  bound : l.count ≤ l.part-index;
}
