use Rattle.std.proofs.Common.{◌<◌, ◌∙◌, length, arith}
use Rattle.std.proofs.lemmas.List.Elements.{All-push}
use Rattle.tx_box.specs.Item.{IsSized}
use Rattle.tx_layout.specs.Sides.{measured}
use Rattle.tx_layout.proofs.Lists.{each_next, pushed_length}
use Rattle.tx_layout.proofs.sides.all_measured.Goals as goal

pub loop-child-preserved : goal.loop-child-preserved
loop-child-preserved g c =
    let i = c.loop-child.invariant in
    let b = c.in_ok-push.ensures {u = tt} in
    let a = c.in_ok-measured.ensures {u = tt} in
    let x = c.child-item.result in
    let y = c.in_ok-measured.field-0 in
    let within : c.loop-child.child-index < length c.args.children.now = omega arith in
    record {
      done = λ meaning means.
          rw b.items
          (i.done meaning means
          ∙ each_next (measured meaning c.args.axis c.args.setting.basis.area) c.args.children.now c.loop-child.child-index x y c.loop-child.items.items within c.child-item.is (a.exact meaning means));
      sized = rw b.items (All-push IsSized c.loop-child.items.items y i.sized a.sized);
      count = rw b.items (pushed_length c.loop-child.items.items y c.loop-child.child-index i.count);
    }
