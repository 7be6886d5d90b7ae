-- A child is taken out and put in again.
use Rattle.std.proofs.Common.{◌≡◌, ap, ◌∙◌, arith}
use Rattle.tx_tree.specs.ChildLists.{times, without_child}
use Rattle.tx_tree.proofs.Numbers.{without-step, before-step, ahead-step}
use Rattle.tx_tree.proofs.tree.node.Children.move_before.Goals as goal

pub place_of-next_place-requires : goal.place_of-next_place-requires
place_of-next_place-requires c =
    let gone : c.remove.new.self.items ≡ without_child c.args.child c.args.self.now =
    without-step c.args.child c.args.self.now c.self.inside.items.items c.deref.result.now c.remove.new.self.items c.place_of-place.result
    c.self.view_is (c.deref.ensures.value ∙ c.self.view_is) c.place_of-place.ensures.place c.requires.child c.remove.ensures.items in
    let same : times c.args.other c.deref-3.result.now ≡ times c.args.other (without_child c.args.child c.args.self.now) = ap (times c.args.other) (c.deref-3.ensures.value ∙ gone) in
    let some = c.requires.other in
    omega (arith, same, some)

pub returns-clause-children : goal.returns-clause-children
returns-clause-children c =
    let gone : c.remove.new.self.items ≡ without_child c.args.child c.args.self.now =
    without-step c.args.child c.args.self.now c.self.inside.items.items c.deref.result.now c.remove.new.self.items c.place_of-place.result
    c.self.view_is (c.deref.ensures.value ∙ c.self.view_is) c.place_of-place.ensures.place c.requires.child c.remove.ensures.items in
    before-step c.args.child c.args.other _ c.remove.new.self.items c.deref-3.result.now c.insert.new.self.items c.place_of-next_place.result
    gone c.deref-3.ensures.value c.place_of-next_place.ensures.place c.requires.other c.in-Ok.ensures.items

pub returns-clause-ahead : goal.returns-clause-ahead
returns-clause-ahead c =
    ahead-step c.args.child c.args.self.now c.deref.result.now c.deref-2.result.now c.place_of-place.result c.child_ahead-ahead.result
    (c.deref.ensures.value ∙ c.self.view_is) (c.deref-2.ensures.value ∙ c.self.view_is) c.place_of-place.ensures.place c.child_ahead-ahead.ensures

pub returns-clause-ahead_of_other : goal.returns-clause-ahead_of_other
returns-clause-ahead_of_other c =
    let gone : c.remove.new.self.items ≡ without_child c.args.child c.args.self.now =
    without-step c.args.child c.args.self.now c.self.inside.items.items c.deref.result.now c.remove.new.self.items c.place_of-place.result
    c.self.view_is (c.deref.ensures.value ∙ c.self.view_is) c.place_of-place.ensures.place c.requires.child c.remove.ensures.items in
    ahead-step c.args.other _ c.deref-3.result.now c.deref-4.result.now c.place_of-next_place.result c.child_ahead-next_ahead.result
    (c.deref-3.ensures.value ∙ gone) (c.deref-4.ensures.value ∙ gone) c.place_of-next_place.ensures.place c.child_ahead-next_ahead.ensures
