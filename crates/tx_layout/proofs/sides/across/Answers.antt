use Rattle.std.proofs.Common.{◌<◌, ◌∙◌, length, arith, ap}
use Rattle.std.proofs.lemmas.List.{length-set}
use Rattle.std.proofs.lemmas.List.Elements.{All-set}
use Rattle.tx_layout.specs.Children.{IsChild}
use Rattle.tx_layout.specs.Sides.{across_one}
use Rattle.tx_layout.proofs.Lists.{written_next}
use Rattle.tx_layout.proofs.sides.across.Goals as goal

pub loop-child-preserved : goal.loop-child-preserved
loop-child-preserved g c =
    let i = c.loop-child.invariant in
    let a = c.in_ok-child.ensures {u = tt} in
    let x = c.child-item.result in
    let y = c.in_ok-child.field-0 in
    let xs = c.loop-child.children in
    let n = c.loop-child.child-index in
    let within : n < length xs = omega arith in
    record {
      done = λ meaning means. i.done meaning means ∙ written_next (across_one meaning c.args.axis c.args.setting.basis) xs n x y within c.child-item.is (ap (across_one meaning c.args.axis c.args.setting.basis) c.child-item.is ∙ a.exact meaning means);
      children = All-set (IsChild c.args.setting.count) xs n y a.child i.children;
      count = length-set xs n y ∙ i.count;
    }
