-- A node without children goes.
use Rattle.tx_tree.proofs.DroppedNodes.{drop-steps, ahead-steps, once-steps}
use Rattle.tx_tree.proofs.tree.remove.remove_leaf.Goals as goal

pub remove_child-ahead-requires : goal.remove_child-ahead-requires
remove_child-ahead-requires c =
    once-steps c.args.nodes.now.items c.take_node-parent.new.nodes.items c.args.behind.now.items _ c.args.n c.take_node-parent.result.0
    c.requires.kept c.requires.live c.requires.not_first c.take_node-parent.ensures.parent c.take_node-parent.ensures.nodes

pub pass_next-requires-clause-to : goal.pass_next-requires-clause-to
pass_next-requires-clause-to c =
    ahead-steps c.args.nodes.now.items c.take_node-parent.new.nodes.items c.args.behind.now.items _ c.args.n c.take_node-parent.result.0 c.remove_child-ahead.result
    c.requires.kept c.requires.live c.requires.not_first c.take_node-parent.ensures.parent c.take_node-parent.ensures.nodes c.remove_child-ahead.ensures.ahead

pub returns-clause-kept : goal.returns-clause-kept
returns-clause-kept c =
    (drop-steps c.args.nodes.now.items c.take_node-parent.new.nodes.items c.remove_child-ahead.new.nodes.items c.args.behind.now.items _ _ _
    c.args.n c.take_node-parent.result.0 c.remove_child-ahead.result c.take_node-parent.result.1
    c.requires.kept c.requires.live c.requires.leaf c.requires.not_first c.take_node-parent.ensures.parent c.take_node-parent.ensures.id
    c.take_node-parent.ensures.nodes c.remove_child-ahead.ensures.nodes c.remove_child-ahead.ensures.ahead c.pass_next.ensures c.forget_id.ensures).0

pub returns-clause-rows : goal.returns-clause-rows
returns-clause-rows c =
    (drop-steps c.args.nodes.now.items c.take_node-parent.new.nodes.items c.remove_child-ahead.new.nodes.items c.args.behind.now.items _ _ _
    c.args.n c.take_node-parent.result.0 c.remove_child-ahead.result c.take_node-parent.result.1
    c.requires.kept c.requires.live c.requires.leaf c.requires.not_first c.take_node-parent.ensures.parent c.take_node-parent.ensures.id
    c.take_node-parent.ensures.nodes c.remove_child-ahead.ensures.nodes c.remove_child-ahead.ensures.ahead c.pass_next.ensures c.forget_id.ensures).1
