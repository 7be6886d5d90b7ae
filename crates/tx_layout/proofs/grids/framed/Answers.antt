use Rattle.std.proofs.Common.{◌∙◌, ◌<◌, length, arith}
use Rattle.std.proofs.lemmas.List.Elements.{All-push}
use Rattle.tx_layout.specs.Grid.{IsFramed}
use Rattle.tx_layout.proofs.Frames.{frame_next}
use Rattle.tx_layout.proofs.grids.framed.Goals as goal

pub loop-index-preserved : goal.loop-index-preserved
loop-index-preserved c =
    let i = c.loop-index.invariant in
    let b = c.in_ok-push.ensures {u = tt} in
    let n = c.loop-index.index in
    let within : n < length c.args.children.now = omega arith in
    let placed : n < length c.args.places.now = omega arith in
    let f = c.frame_of.result in
    record {
      done = rw b.items
          (i.done
          ∙ frame_next c.args.columns.now c.args.rows.now c.args.places.now c.args.children.now n c.index-children-index.result _ c.in-Some.cells f c.loop-index.frames.items within c.index-children-index.is placed c.in-Some.is c.frame_of.ensures.exact);
      frames = rw b.items (All-push (IsFramed c.args.count) c.loop-index.frames.items f i.frames c.frame_of.ensures.framed);
    }
