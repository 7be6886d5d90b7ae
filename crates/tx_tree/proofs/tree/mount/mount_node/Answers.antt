-- A mount of one node keeps what is kept.
use Rattle.std.proofs.Common.{◌≡◌, ap, ◌∙◌, arith, Option, is_some, List, length}
use Rattle.tx_tree.specs.Links.{slots, children_in, depth_in, last_or_zero}
use Rattle.tx_tree.specs.declared.tree.node.Node.{Node}
use Rattle.tx_tree.proofs.MountedNodes.{allowed, kept-same, last_in_bounds, mount-steps}
use Rattle.tx_tree.proofs.tree.mount.mount_node.Goals as goal

pub returns-in_err-make_room-clause-kept : goal.returns-in_err-make_room-clause-kept
returns-in_err-make_room-clause-kept c =
    kept-same _ _ _ _ _ _ c.requires.kept c.make_room.ensures.nodes c.make_room.ensures.behind c.make_room.ensures.ids

pub add_child-requires : goal.add_child-requires
add_child-requires c =
    let (above, a) = allowed c.args.nodes.now.items c.args.parent c.args.row c.requires.kept.linked c.requires.allowed in
    ap (λ (z : List (Option Node)). is_some (slots z c.args.parent)) c.make_room.ensures.nodes ∙ ap is_some a.is

pub returns-in_err-depth-clause-kept : goal.returns-in_err-depth-clause-kept
returns-in_err-depth-clause-kept c =
    kept-same _ _ _ _ _ _ c.requires.kept (c.in_err-depth.ensures.err ∙ c.make_room.ensures.nodes) c.make_room.ensures.behind c.make_room.ensures.ids

pub overflow_add-depth : goal.overflow_add-depth
overflow_add-depth c =
    let (above, a) = allowed c.args.nodes.now.items c.args.parent c.args.row c.requires.kept.linked c.requires.allowed in
    let depth : c.in_ok-depth.depth ≡ above.row.depth =
    c.in_ok-depth.ensures.depth ∙ (ap (λ (z : List (Option Node)). depth_in (slots z c.args.parent)) c.make_room.ensures.nodes ∙ ap depth_in a.is) in
    let shallow = (c.requires.kept.linked.nodes c.args.parent above a.is).shallow in
    omega (arith, depth, shallow)

pub put_node-requires-clause-sibling : goal.put_node-requires-clause-sibling
put_node-requires-clause-sibling c =
    let (above, a) = allowed c.args.nodes.now.items c.args.parent c.args.row c.requires.kept.linked c.requires.allowed in
    let last : c.in_ok-depth.last ≡ last_or_zero (children_in (slots c.args.nodes.now.items c.args.parent)) =
    c.in_ok-depth.ensures.last ∙ ap (λ (z : List (Option Node)). last_or_zero (children_in (slots z c.args.parent))) c.make_room.ensures.nodes in
    let lt = last_in_bounds c.args.nodes.now.items c.requires.kept.linked c.args.parent above a.is in
    let long : length c.make_room.new.behind.items ≡ length c.args.nodes.now.items = ap length c.make_room.ensures.behind ∙ c.requires.kept.as_long in
    omega (arith, last, lt, long)

pub slot_count-n-requires : goal.slot_count-n-requires
slot_count-n-requires c = rw (c.deref.ensures.value, c.make_room.ensures.nodes) c.requires.kept.few

pub returns-clause-kept : goal.returns-clause-kept
returns-clause-kept c =
    (mount-steps c.args.nodes.now.items c.make_room.new.nodes.items c.add_child.new.nodes.items c.put_node.new.nodes.items _ _ _ _ _ _
    c.args.parent c.args.row c.placed-row.result c.slot_count-n.result c.in_ok-depth.depth c.in_ok-depth.last c.new-children.result
    c.requires.kept c.requires.allowed c.make_room.ensures.nodes c.make_room.ensures.behind c.make_room.ensures.ids
    (c.slot_count-n.ensures ∙ ap length c.deref.ensures.value) c.in_ok-depth.ensures.ok c.in_ok-depth.ensures.depth c.in_ok-depth.ensures.last
    c.new-children.ensures c.placed-row.ensures c.put_node.ensures.nodes c.put_node.ensures.behind c.put_node.ensures.ids).0

pub returns-clause-rows : goal.returns-clause-rows
returns-clause-rows c =
    (mount-steps c.args.nodes.now.items c.make_room.new.nodes.items c.add_child.new.nodes.items c.put_node.new.nodes.items _ _ _ _ _ _
    c.args.parent c.args.row c.placed-row.result c.slot_count-n.result c.in_ok-depth.depth c.in_ok-depth.last c.new-children.result
    c.requires.kept c.requires.allowed c.make_room.ensures.nodes c.make_room.ensures.behind c.make_room.ensures.ids
    (c.slot_count-n.ensures ∙ ap length c.deref.ensures.value) c.in_ok-depth.ensures.ok c.in_ok-depth.ensures.depth c.in_ok-depth.ensures.last
    c.new-children.ensures c.placed-row.ensures c.put_node.ensures.nodes c.put_node.ensures.behind c.put_node.ensures.ids).1

pub returns-clause-room : goal.returns-clause-room
returns-clause-room c =
    (mount-steps c.args.nodes.now.items c.make_room.new.nodes.items c.add_child.new.nodes.items c.put_node.new.nodes.items _ _ _ _ _ _
    c.args.parent c.args.row c.placed-row.result c.slot_count-n.result c.in_ok-depth.depth c.in_ok-depth.last c.new-children.result
    c.requires.kept c.requires.allowed c.make_room.ensures.nodes c.make_room.ensures.behind c.make_room.ensures.ids
    (c.slot_count-n.ensures ∙ ap length c.deref.ensures.value) c.in_ok-depth.ensures.ok c.in_ok-depth.ensures.depth c.in_ok-depth.ensures.last
    c.new-children.ensures c.placed-row.ensures c.put_node.ensures.nodes c.put_node.ensures.behind c.put_node.ensures.ids).2
