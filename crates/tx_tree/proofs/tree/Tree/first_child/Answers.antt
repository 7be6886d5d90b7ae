-- The first child is the node's first.
use Rattle.std.proofs.Common.{ℕ, List, sym, ap, ◌∙◌, option_map}
use Rattle.std.specs.Prelude.{slice_get}
use Rattle.tx_tree.specs.Rows.{first_row, children_of}
use Rattle.tx_tree.specs.TreeValue.{TreeValue}
use Rattle.tx_tree.specs.Links.{slots, node_id}
use Rattle.tx_tree.proofs.Walks.{first_child-none, first_child-node}
use Rattle.tx_tree.proofs.tree.Tree.first_child.Goals as goal

pub returns-in_err-node_at : goal.returns-in_err-node_at
returns-in_err-node_at c =
    c.from_residual.ensures
    ∙ (ap (option_map (λ row. row.node)) (sym (first_child-none c.self.invariant.linked c.args.node.0 (ap (λ nodes. slots nodes c.args.node.0) (sym c.deref.ensures.value) ∙ sym c.in_err-node_at.ensures)))
    ∙ ap (λ (t : TreeValue). option_map (λ row. row.node) (first_row (children_of c.args.node.0 t.rows))) c.self.view_is)

pub returns-in_err-child : goal.returns-in_err-child
returns-in_err-child c =
    c.from_residual-in_err-child.ensures
    ∙ (ap (option_map node_id) (c.in_err-child.ensures.value ∙ ap (λ (ks : List ℕ). slice_get ks 0) c.as_slice.ensures)
    ∙ (first_child-node c.self.invariant.linked c.args.node.0 c.in_ok-node_at.field-0.now (ap (λ nodes. slots nodes c.args.node.0) (sym c.deref.ensures.value) ∙ sym c.in_ok-node_at.ensures)
    ∙ ap (λ (t : TreeValue). option_map (λ row. row.node) (first_row (children_of c.args.node.0 t.rows))) c.self.view_is))

pub returns : goal.returns
returns c =
    ap (option_map node_id) (c.in_ok-child.ensures.value ∙ ap (λ (ks : List ℕ). slice_get ks 0) c.as_slice.ensures)
    ∙ (first_child-node c.self.invariant.linked c.args.node.0 c.in_ok-node_at.field-0.now (ap (λ nodes. slots nodes c.args.node.0) (sym c.deref.ensures.value) ∙ sym c.in_ok-node_at.ensures)
    ∙ ap (λ (t : TreeValue). option_map (λ row. row.node) (first_row (children_of c.args.node.0 t.rows))) c.self.view_is)
