use Rattle.std.proofs.Common.{ap, ◌<◌, ◌∙◌, sym, length, arith}
use Rattle.tx_box.specs.declared.parts.Part.TheVariants.{Settled}
use Rattle.tx_box.specs.Axis.{final_size}
use Rattle.tx_box.specs.Shape.{IsPart, IsSettledPart}
use Rattle.tx_box.proofs.Passes.{sized_next, All-written, All-next}
use Rattle.tx_box.proofs.rounds.finish.Goals as goal

pub loop-part-preserved : goal.loop-part-preserved
loop-part-preserved c =
    let i = c.loop-part.invariant in
    let e = c.in_ok-last_size.ensures {u = tt} in
    let within : c.loop-part.part-index < length c.loop-part.parts = omega arith in
    record {
      done = i.done ∙ sized_next c.in_ok-unit.unit c.loop-part.part-index c.loop-part.parts c.part-item.result c.in_ok-last_size.field-0 within c.part-item.is (ap (final_size c.in_ok-unit.unit) c.part-item.is ∙ sym e.exact);
      settled = All-written IsSettledPart c.loop-part.parts c.loop-part.part-index (Settled c.in_ok-last_size.field-0) within i.settled e.count;
      rest = All-next IsPart c.loop-part.parts c.loop-part.part-index (Settled c.in_ok-last_size.field-0) c.part-item.result within i.rest;
    }
