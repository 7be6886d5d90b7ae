use Rattle.std.proofs.Common.{◌<◌, ◌∙◌, length, arith, ap}
use Rattle.std.proofs.lemmas.List.Elements.{All-set}
use Rattle.tx_layout.specs.Grid.{sized_in, IsFramed}
use Rattle.tx_layout.proofs.Lists.{written_next}
use Rattle.tx_layout.proofs.grids.all_sized_in.Goals as goal

pub loop-framed-preserved : goal.loop-framed-preserved
loop-framed-preserved g c =
    let i = c.loop-framed.invariant in
    let a = c.in_ok-framed.ensures {u = tt} in
    let x = c.framed-item.result in
    let y = c.in_ok-framed.field-0 in
    let fs = c.loop-framed.frames in
    let n = c.loop-framed.framed-index in
    let within : n < length fs = omega arith in
    record {
      done = λ meaning means. i.done meaning means ∙ written_next (sized_in meaning c.args.axis c.args.screen) fs n x y within c.framed-item.is (ap (sized_in meaning c.args.axis c.args.screen) c.framed-item.is ∙ a.exact meaning means);
      frames = All-set (IsFramed c.args.count) fs n y a.framed i.frames;
    }
