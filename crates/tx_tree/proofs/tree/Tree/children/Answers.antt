-- The children by the rows are those of the node.
use Rattle.std.proofs.Common.{map, ap, sym, ◌∙◌}
use Rattle.tx_tree.specs.Rows.{children_of}
use Rattle.tx_tree.specs.Edits.{edit_refusal}
use Rattle.tx_tree.specs.TreeValue.{TreeValue}
use Rattle.tx_tree.specs.Links.{slots, node_id}
use Rattle.tx_tree.proofs.EditRefusals.{edit-missing, edit-there}
use Rattle.tx_tree.proofs.Listings.{children_of-node}
use Rattle.tx_tree.proofs.Refusals.{refused, succeeds, by_memory}
use Rattle.tx_tree.proofs.tree.Tree.children.Goals as goal

pub returns-in_default-clause-refusal : goal.returns-in_default-clause-refusal
returns-in_default-clause-refusal c =
    refused _ _ _ (ap (λ (t : TreeValue). edit_refusal t.rows c.args.node.0) (sym c.self.view_is)
    ∙ edit-missing c.self.invariant.linked c.args.node.0 (ap (λ nodes. slots nodes c.args.node.0) (sym c.deref.ensures.value) ∙ sym c.in_default.ensures))

pub returns-clause-refusal : goal.returns-clause-refusal
returns-clause-refusal c =
    succeeds _ _ (ap (λ (t : TreeValue). edit_refusal t.rows c.args.node.0) (sym c.self.view_is)
    ∙ edit-there c.self.invariant.linked c.args.node.0 c.in-Some.kept.now (ap (λ nodes. slots nodes c.args.node.0) (sym c.deref.ensures.value) ∙ sym c.in-Some.ensures))

pub returns-in_err-nodes-clause-refusal : goal.returns-in_err-nodes-clause-refusal
returns-in_err-nodes-clause-refusal c =
    by_memory _ c.from_residual.result (ap (λ (t : TreeValue). edit_refusal t.rows c.args.node.0) (sym c.self.view_is)
    ∙ edit-there c.self.invariant.linked c.args.node.0 c.in-Some.kept.now (ap (λ nodes. slots nodes c.args.node.0) (sym c.deref.ensures.value) ∙ sym c.in-Some.ensures)) c.from_residual.ensures.1

pub returns-clause-children : goal.returns-clause-children
returns-clause-children c =
    c.in_ok-nodes.ensures
    ∙ (ap (map node_id) c.as_slice.ensures
    ∙ (sym (children_of-node c.self.invariant.linked c.args.node.0 c.in-Some.kept.now (ap (λ nodes. slots nodes c.args.node.0) (sym c.deref.ensures.value) ∙ sym c.in-Some.ensures))
    ∙ ap (λ (t : TreeValue). map (λ row. row.node) (children_of c.args.node.0 t.rows)) c.self.view_is))
