-- The classes in the slot are those of its node.
use Rattle.std.proofs.Common.{◌≡◌, sym, ◌∙◌, Some, None}
use Rattle.std.proofs.lemmas.List.{get_or_read}
use Rattle.tx_tree.specs.Links.{slots}
use Rattle.tx_tree.proofs.MountedNodes.{in_bounds}
use Rattle.tx_tree.proofs.DroppedNodes.{live_node}
use Rattle.tx_tree.proofs.tree.set.add_class.Goals as goal

pub returns-clause-added : goal.returns-clause-added
returns-clause-added c =
    let (node, there) = live_node (slots c.args.nodes.now.items c.args.n) c.requires in
    let read = get_or_read c.args.nodes.now.items c.args.n c.index_mut-slot.result.now (in_bounds c.args.nodes.now.items c.args.n node there) c.index_mut-slot.ensures.value None in
    let is : slots c.args.nodes.now.items c.args.n ≡ Some c.in-Some.node = sym (c.in-Some.ensures.value ∙ read) in
    rw is c.add-added.ensures.added
