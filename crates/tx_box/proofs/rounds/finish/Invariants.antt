use Rattle.std.proofs.Common.{◌≡◌, drop, take}
use Rattle.std.specs.Prelude.{All}
use Rattle.tx_box.specs.Axis.{each, final_size}
use Rattle.tx_box.specs.Shape.{IsPart, IsSettledPart}
use Rattle.tx_box.proofs.Passes.{sized_so_far}
use Rattle.tx_box.proofs.rounds.finish.Given as goal

abbrev pub invariant-loop-part : goal.invariant-loop-part
invariant-loop-part l = record {
  done : each (final_size l.unit) l.initial.parts ≡ sized_so_far l.unit l.part-index l.parts;
  settled : All IsSettledPart (take l.part-index l.parts);
  rest : All IsPart (drop l.part-index l.parts);
}
