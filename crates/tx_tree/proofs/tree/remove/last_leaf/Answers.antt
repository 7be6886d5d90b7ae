-- Down along the last children.
use Rattle.std.proofs.Common.{◌≡◌, arith, ap, sym, ◌∙◌, is_some}
use Rattle.tx_tree.specs.Links.{slots, children_in, depth_in}
use Rattle.tx_tree.proofs.LastLeaf.{bare, last_child}
use Rattle.tx_tree.proofs.tree.remove.last_leaf.Goals as goal

pub returns-then-child-eq0-clause-leaf : goal.returns-then-child-eq0-clause-leaf
returns-then-child-eq0-clause-leaf c =
    ap children_in (sym c.in-Some.ensures)
    ∙ bare c.requires.linked c.loop-node.leaf c.in-Some.node.now (sym c.in-Some.ensures) (sym c.last-child.ensures ∙ c.if-child-eq0.true)

pub loop-node-smaller : goal.loop-node-smaller
loop-node-smaller c =
    let (child, is, deep, same, ne) = last_child c.requires.linked c.loop-node.leaf c.in-Some.node.now (sym c.in-Some.ensures) c.last-child.result c.last-child.ensures c.if-child-eq0.false in
    let own = ap depth_in c.in-Some.ensures in
    let under : depth_in (slots c.args.nodes.now c.last-child.result) ≡ child.row.depth = ap depth_in is in
    let lt = (c.requires.linked.nodes c.loop-node.leaf c.in-Some.node.now (sym c.in-Some.ensures)).shallow in
    omega (arith, deep, own, under, lt)

pub loop-node-preserved : goal.loop-node-preserved
loop-node-preserved c =
    let (child, is, deep, same, ne) = last_child c.requires.linked c.loop-node.leaf c.in-Some.node.now (sym c.in-Some.ensures) c.last-child.result c.last-child.ensures c.if-child-eq0.false in
    record {
      live = ap is_some is;
      last = same ∙ c.loop-node.invariant.last;
      not_first = λ n1. ne;
    }
