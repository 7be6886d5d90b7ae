use Rattle.std.proofs.Common.{ap, ◌<◌, ◌∙◌, sym, length, arith}
use Rattle.tx_box.specs.Axis.{part_round}
use Rattle.tx_box.specs.Shape.{IsPart}
use Rattle.tx_box.proofs.Passes.{round_next, All-written, All-next}
use Rattle.tx_box.proofs.rounds.play_round.Goals as goal

pub loop-part-preserved : goal.loop-part-preserved
loop-part-preserved c =
    let i = c.loop-part.invariant in
    let e = c.in_ok-after.ensures {u = tt} in
    let within : c.loop-part.part-index < length c.loop-part.parts = omega arith in
    record {
      done = i.done ∙ round_next c.args.unit c.loop-part.left c.loop-part.part-index c.loop-part.parts c.part-item.result c.in_ok-after.after c.in_ok-after.rest within c.part-item.is (ap (part_round c.args.unit c.loop-part.left) c.part-item.is ∙ sym e.exact);
      passed = All-written IsPart c.loop-part.parts c.loop-part.part-index c.in_ok-after.after within i.passed e.part;
      rest = All-next IsPart c.loop-part.parts c.loop-part.part-index c.in_ok-after.after c.part-item.result within i.rest;
    }
