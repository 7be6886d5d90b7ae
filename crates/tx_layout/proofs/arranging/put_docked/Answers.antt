use Rattle.std.proofs.Common.{◌<◌, length, arith, ◌∙◌, ap, rules, Some}
use Rattle.std.specs.Prelude.{slice_set}
use Rattle.std.proofs.lemmas.List.{length-set}
use Rattle.tx_layout.specs.declared.children.Child.{Child}
use Rattle.tx_layout.specs.Arrangement.{docked_region}
use Rattle.tx_layout.proofs.Placed.{put_next}
use Rattle.tx_layout.proofs.Reaching.{within_set}
use Rattle.tx_layout.proofs.arranging.put_docked.Goals as goal

pub loop-child-preserved : goal.loop-child-preserved
loop-child-preserved c =
    let i = c.loop-child.invariant in
    let x = c.child-item.result in
    let cs = c.args.children.now in
    let within : c.loop-child.child-index < length cs = omega arith in
    let below : x.place < c.args.count = search rules in
    record {
      done = λ done is.
          ap (λ r. slice_set c.loop-child.placed x.place (Some r)) c.docked_region.ensures.exact
          ∙ put_next c.args.count (λ (d : Child). (d.place, docked_region c.args.area d)) cs c.loop-child.child-index x done c.loop-child.placed within c.child-item.is below (i.done done is);
      count = length-set c.loop-child.placed x.place (Some c.docked_region.result) ∙ i.count;
      near = within_set c.loop-child.placed x.place c.docked_region.result i.near c.docked_region.ensures.near;
    }
