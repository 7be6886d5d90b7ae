-- The first place of a child, from place to place.
use Rattle.std.proofs.Common.{arith}
use Rattle.std.proofs.lemmas.List.{drop_more}
use Rattle.tx_tree.proofs.Numbers.{place-here}
use Rattle.tx_tree.proofs.tree.node.place_of.Goals as goal

pub returns-then-held-child-clause-place : goal.returns-then-held-child-clause-place
returns-then-held-child-clause-place c =
    place-here c.args.child c.loop-place.place c.args.children.now _ _
    (drop_more c.args.children.now c.loop-place.place 0 (omega arith)) c.if-held-child.true c.loop-place.invariant.0
