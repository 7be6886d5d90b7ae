use Rattle.std.proofs.lemmas.List.Elements.{All-push}
use Rattle.tx_layout.specs.Children.{IsGap}
use Rattle.tx_layout.specs.Grid.{track_gap}
use Rattle.tx_layout.proofs.Lists.{pushed_length}
use Rattle.tx_layout.proofs.Ranges.{range_push}
use Rattle.tx_layout.proofs.tracks.track_gaps.Goals as goal

pub loop-place-preserved : goal.loop-place-preserved
loop-place-preserved c =
    let i = c.loop-place.invariant in
    let b = c.in_ok-push.ensures {u = tt} in
    let x = c.track_gap.result in
    record {
      done = rw b.items (range_push (track_gap c.args.gutter c.args.count) c.loop-place.place c.loop-place.gaps.items x i.done c.track_gap.ensures.exact);
      narrow = rw b.items (All-push IsGap c.loop-place.gaps.items x i.narrow c.track_gap.ensures.narrow);
      count = rw b.items (pushed_length c.loop-place.gaps.items x c.loop-place.place i.count);
    }
