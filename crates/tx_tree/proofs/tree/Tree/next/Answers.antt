-- The next row is the first child, or else the first row behind the subtree.
use Rattle.std.proofs.Common.{ap, sym, ◌∙◌, ℕ, List, Option, option_map}
use Rattle.std.specs.Prelude.{slice_get}
use Rattle.tx_tree.specs.Rows.{next_of, first_row, after_of}
use Rattle.tx_tree.specs.TreeValue.{TreeValue}
use Rattle.tx_tree.specs.Links.{slots, rows_of}
use Rattle.tx_tree.specs.declared.tree.node.Node.{Node}
use Rattle.tx_tree.proofs.Lookups.{next_of-none, next_of-first, next_of-past}
use Rattle.tx_tree.proofs.tree.Tree.next.Goals as goal

pub returns-in_err-node_at : goal.returns-in_err-node_at
returns-in_err-node_at c =
    c.from_residual.ensures
    ∙ (ap (option_map (λ row. row.node)) (sym (next_of-none c.self.invariant.linked c.args.node.0 (ap (λ nodes. slots nodes c.args.node.0) (sym c.deref.ensures.value) ∙ sym c.in_err-node_at.ensures)))
    ∙ ap (λ (t : TreeValue). option_map (λ row. row.node) (next_of c.args.node.0 t.rows)) c.self.view_is)

pub returns-in-Some : goal.returns-in-Some
returns-in-Some c =
    next_of-first c.self.invariant.linked c.args.node.0 c.in_ok-node_at.field-0.now
    (ap (λ nodes. slots nodes c.args.node.0) (sym c.deref.ensures.value) ∙ sym c.in_ok-node_at.ensures)
    c.in-Some.child.now (c.in-Some.ensures.value ∙ ap (λ (ks : List ℕ). slice_get ks 0) c.as_slice.ensures)
    ∙ ap (λ (t : TreeValue). option_map (λ row. row.node) (next_of c.args.node.0 t.rows)) c.self.view_is

pub returns-in-None : goal.returns-in-None
returns-in-None c =
    c.first_after.ensures
    ∙ (ap (λ (nodes : List (Option Node)). option_map (λ row. row.node) (first_row (after_of c.args.node.0 (rows_of (slots nodes))))) c.deref-in-None.ensures.value
    ∙ (ap (option_map (λ row. row.node)) (next_of-past c.self.invariant.linked c.args.node.0 c.in_ok-node_at.field-0.now
    (ap (λ nodes. slots nodes c.args.node.0) (sym c.deref.ensures.value) ∙ sym c.in_ok-node_at.ensures)
    (c.in-None.ensures.value ∙ ap (λ (ks : List ℕ). slice_get ks 0) c.as_slice.ensures))
    ∙ ap (λ (t : TreeValue). option_map (λ row. row.node) (next_of c.args.node.0 t.rows)) c.self.view_is))
