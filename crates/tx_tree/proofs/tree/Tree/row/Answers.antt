-- The row is that of the node in the slot.
use Rattle.std.proofs.Common.{ap, sym, ◌∙◌, Some, None, option_map}
use Rattle.tx_tree.specs.Row.{plain}
use Rattle.tx_tree.specs.Rows.{row_at}
use Rattle.tx_tree.specs.TreeValue.{TreeValue}
use Rattle.tx_tree.specs.Links.{slots}
use Rattle.tx_tree.proofs.Lookups.{row_at-slot}
use Rattle.tx_tree.proofs.tree.Tree.row.Goals as goal

pub returns-in_err-node_at : goal.returns-in_err-node_at
returns-in_err-node_at c =
    ap (option_map (λ row. plain row.now)) c.from_residual.ensures
    ∙ (sym (row_at-slot c.self.invariant.linked c.args.node.0 None (ap (λ nodes. slots nodes c.args.node.0) (sym c.deref.ensures.value) ∙ sym c.in_err-node_at.ensures))
    ∙ ap (λ (t : TreeValue). row_at c.args.node.0 t.rows) c.self.view_is)

pub returns : goal.returns
returns c =
    sym (row_at-slot c.self.invariant.linked c.args.node.0 (Some c.in_ok-node_at.field-0.now) (ap (λ nodes. slots nodes c.args.node.0) (sym c.deref.ensures.value) ∙ sym c.in_ok-node_at.ensures))
    ∙ ap (λ (t : TreeValue). row_at c.args.node.0 t.rows) c.self.view_is
