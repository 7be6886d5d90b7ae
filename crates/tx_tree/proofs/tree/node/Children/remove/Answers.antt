-- The parts round the place.
use Rattle.std.proofs.Common.{◌∙◌, arith}
use Rattle.tx_tree.proofs.Numbers.{without-step, ahead-step}
use Rattle.tx_tree.proofs.tree.node.Children.remove.Goals as goal

pub returns-clause-children : goal.returns-clause-children
returns-clause-children c =
    without-step c.args.child c.args.self.now c.self.inside.items.items c.deref.result.now c.remove.new.self.items c.only_place_of-place.result
    c.self.view_is (c.deref.ensures.value ∙ c.self.view_is) c.only_place_of-place.ensures.place (omega arith) c.remove.ensures.items

pub returns-clause-ahead : goal.returns-clause-ahead
returns-clause-ahead c =
    ahead-step c.args.child c.args.self.now c.deref.result.now c.deref-2.result.now c.only_place_of-place.result c.child_ahead-ahead.result
    (c.deref.ensures.value ∙ c.self.view_is) (c.deref-2.ensures.value ∙ c.self.view_is) c.only_place_of-place.ensures.place c.child_ahead-ahead.ensures
