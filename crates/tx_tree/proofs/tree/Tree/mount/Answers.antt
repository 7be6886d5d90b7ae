-- A mount is refused as its test says, and else gives the rows of the nodes.
use Rattle.std.proofs.Common.{ap, refl, ◌∙◌}
use Rattle.tx_tree.specs.Mount.{mount_refusal}
use Rattle.tx_tree.specs.TreeValue.{TreeValue}
use Rattle.tx_tree.proofs.Refusals.{passed_on, not_refused, by_memory, succeeds}
use Rattle.tx_tree.proofs.Rooms.{keeps_spares}
use Rattle.tx_tree.proofs.tree.Tree.mount.Goals as goal

pub returns-in_err-may_mount-clause-refusal : goal.returns-in_err-may_mount-clause-refusal
returns-in_err-may_mount-clause-refusal c = passed_on _ _ c.from_residual.result _ refl c.in_err-may_mount.ensures c.from_residual.ensures.1

pub mount_node-requires-clause-allowed : goal.mount_node-requires-clause-allowed
mount_node-requires-clause-allowed c =
    ap (λ (t : TreeValue). mount_refusal t.rows t.made c.args.parent.0 c.args.row) c.self.view_is
    ∙ not_refused _ c.in_ok-may_mount.field-0 c.in_ok-may_mount.ensures

pub returns-in_err-n-clause-refusal : goal.returns-in_err-n-clause-refusal
returns-in_err-n-clause-refusal c = by_memory _ c.from_residual-in_err-n.result (not_refused _ c.in_ok-may_mount.field-0 c.in_ok-may_mount.ensures) c.from_residual-in_err-n.ensures.1

pub returns-clause-refusal : goal.returns-clause-refusal
returns-clause-refusal c = succeeds _ _ (not_refused _ c.in_ok-may_mount.field-0 c.in_ok-may_mount.ensures)

pub returns-clause-spares : goal.returns-clause-spares
returns-clause-spares c = λ n live. rw (← c.self.view_is) (keeps_spares c.self.inside.nodes.items c.mount_node.new.nodes.items c.in_ok-n.ensures.kept.linked c.in_ok-n.ensures.room n live)
