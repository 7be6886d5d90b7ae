use Rattle.std.proofs.Common.{◌≡◌, drop}
use Rattle.tx_box.specs.Axis.{settled_sizes, less_each}
use Rattle.tx_box.proofs.rounds.room_beside.Given as goal

abbrev pub invariant-loop-part : goal.invariant-loop-part
invariant-loop-part l = less_each l.fn.room (settled_sizes l.parts) ≡ less_each l.left (settled_sizes (drop l.part-index l.parts))
