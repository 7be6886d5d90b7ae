use Rattle.std.proofs.Common.{◌∙◌, ap, ℕ}
use Rattle.std.proofs.lemmas.List.Elements.{All-push}
use Rattle.tx_box.specs.Item.{IsSized}
use Rattle.tx_box.specs.Laws.{HasFractions}
use Rattle.tx_layout.specs.Grid.{track_at, track_item}
use Rattle.tx_layout.proofs.Lists.{pushed_length}
use Rattle.tx_layout.proofs.Ranges.{range_push}
use Rattle.tx_layout.proofs.tracks.track_items.Goals as goal

pub loop-place-preserved : goal.loop-place-preserved
loop-place-preserved c =
    let i = c.loop-place.invariant in
    let b = c.in_ok-push.ensures {u = tt} in
    let x = c.track_item.result in
    let a = c.track_item.ensures in
    record {
      done = rw b.items (range_push (λ (n : ℕ). track_item (track_at c.args.tracks.now n)) c.loop-place.place c.loop-place.items.items x i.done (a.exact ∙ ap track_item c.track_at.ensures.exact));
      sized = rw b.items (All-push IsSized c.loop-place.items.items x i.sized a.sized);
      fractions = rw b.items (All-push HasFractions c.loop-place.items.items x i.fractions a.fractions);
      count = rw b.items (pushed_length c.loop-place.items.items x c.loop-place.place i.count);
    }
