-- The sibling that is kept is the first row behind a subtree; without one it is the parent's.
use Rattle.std.proofs.Common.{arith, ap, sym, refl, ◌∙◌, option_map}
use Rattle.tx_tree.proofs.Lookups.{after_of-kept, after_of-none, height-up}
use Rattle.tx_tree.proofs.tree.links.first_after.Goals as goal

pub returns-then-sibling-ne0 : goal.returns-then-sibling-ne0
returns-then-sibling-ne0 c =
    let found = (after_of-kept c.requires.linked c.args.behind.now c.requires.next c.loop-node.here c.in-Some.node.now (sym c.in-Some.ensures) _ refl).0 in
    let apart = c.if-sibling-ne0.true in
    sym (found (omega arith)) ∙ ap (option_map (λ row. row.node)) c.loop-node.invariant

pub loop-node-smaller : goal.loop-node-smaller
loop-node-smaller c = height-up c.requires.linked c.loop-node.here c.in-Some.node.now (sym c.in-Some.ensures)

pub loop-node-preserved : goal.loop-node-preserved
loop-node-preserved c =
    let found = (after_of-kept c.requires.linked c.args.behind.now c.requires.next c.loop-node.here c.in-Some.node.now (sym c.in-Some.ensures) _ refl).1 in
    sym (found c.if-sibling-ne0.false) ∙ c.loop-node.invariant

pub returns : goal.returns
returns c =
    ap (option_map (λ row. row.node)) (sym (after_of-none c.requires.linked c.loop-node.here (sym c.in_default.ensures)) ∙ c.loop-node.invariant)
