use Rattle.std.proofs.Common.{◌≡◌, drop, take}
use Rattle.std.specs.Prelude.{All}
use Rattle.tx_box.specs.Axis.{round}
use Rattle.tx_box.specs.Shape.{IsPart}
use Rattle.tx_box.proofs.Passes.{round_so_far}
use Rattle.tx_box.proofs.rounds.play_round.Given as goal

abbrev pub invariant-loop-part : goal.invariant-loop-part
invariant-loop-part l = record {
  done : round l.unit l.initial.left l.initial.parts ≡ round_so_far l.unit l.left l.part-index l.parts;
  passed : All IsPart (take l.part-index l.parts);
  rest : All IsPart (drop l.part-index l.parts);
}
