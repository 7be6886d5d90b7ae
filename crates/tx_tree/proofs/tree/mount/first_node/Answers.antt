-- The slots of a Screen alone.
use Rattle.tx_tree.proofs.FirstNode.{kept-alone, rows-alone, first-nodes, first-behind, first-ids}
use Rattle.tx_tree.proofs.tree.mount.first_node.Goals as goal

pub returns-clause-kept : goal.returns-clause-kept
returns-clause-kept c =
    kept-alone c.args.row c.placed-row.result c.placed-row.ensures c.requires.screen c.put_node.new.nodes.items c.put_node.new.behind.items _
    (first-nodes c.args.nodes.now.items c.push.new.self.items c.make_room.new.nodes.items c.put_node.new.nodes.items c.placed-row.result c.new-children.result
    c.requires.no_nodes c.in_ok-push.ensures.items c.make_room.ensures.nodes c.new-children.ensures c.put_node.ensures.nodes)
    (first-behind _ c.push-2.new.self.items c.make_room.new.behind.items c.put_node.new.behind.items c.args.row c.placed-row.result c.placed-row.ensures
    c.requires.none_behind c.in_ok-push-2.ensures.items c.make_room.ensures.behind c.put_node.ensures.behind)
    (first-ids _ _ _ c.args.row c.placed-row.result c.placed-row.ensures c.requires.no_ids c.make_room.ensures.ids c.put_node.ensures.ids)

pub returns-clause-rows : goal.returns-clause-rows
returns-clause-rows c =
    rows-alone c.args.row c.placed-row.result c.placed-row.ensures c.requires.screen c.put_node.new.nodes.items
    (first-nodes c.args.nodes.now.items c.push.new.self.items c.make_room.new.nodes.items c.put_node.new.nodes.items c.placed-row.result c.new-children.result
    c.requires.no_nodes c.in_ok-push.ensures.items c.make_room.ensures.nodes c.new-children.ensures c.put_node.ensures.nodes)
