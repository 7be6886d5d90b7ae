use Rattle.std.proofs.Common.{◌≡◌}
use Rattle.std.specs.Prelude.{All}
use Rattle.tx_box.specs.Axis.{growing, last_round}
use Rattle.tx_box.specs.Shape.{IsPart}
use Rattle.tx_box.proofs.rounds.settle.Given as goal

abbrev pub invariant-loop-count : goal.invariant-loop-count
invariant-loop-count l = record {
  done : last_round (growing l.initial.parts) l.fn.room l.initial.parts ≡ last_round l.count l.left l.parts;
  count : l.count ≡ growing l.parts;
  parts : All IsPart l.parts;
}

abbrev pub decreases-loop-count : goal.decreases-loop-count
decreases-loop-count l = l.count
