-- The sibling that is kept.
use Rattle.std.proofs.Common.{ℕ, List, Bool, Some, None, cond, sym, ap, ◌∙◌, option_map}
use Rattle.std.specs.Prelude.{slice_index}
use Rattle.std.proofs.lemmas.Bool.{eq-eqb, ne_eqb}
use Rattle.tx_tree.specs.Rows.{next_sibling_of}
use Rattle.tx_tree.specs.TreeValue.{TreeValue}
use Rattle.tx_tree.specs.Links.{slots}
use Rattle.tx_tree.proofs.Walks.{next_sibling-none, next_sibling-kept}
use Rattle.tx_tree.proofs.tree.Tree.next_sibling.Goals as goal

pub returns-in_err-node_at : goal.returns-in_err-node_at
returns-in_err-node_at c =
    c.from_residual.ensures
    ∙ (ap (option_map (λ row. row.node)) (sym (next_sibling-none c.self.invariant.linked c.args.node.0 (ap (λ nodes. slots nodes c.args.node.0) (sym c.deref.ensures.value) ∙ sym c.in_err-node_at.ensures)))
    ∙ ap (λ (t : TreeValue). option_map (λ row. row.node) (next_sibling_of c.args.node.0 t.rows)) c.self.view_is)

pub returns-then-sibling-eq0 : goal.returns-then-sibling-eq0
returns-then-sibling-eq0 c =
    ap (λ (b : Bool). cond b None (Some (record { 0 = slice_index c.as_slice-behind.result.now c.args.node.0 }))) (sym (eq-eqb _ _ c.if-sibling-eq0.true))
    ∙ (next_sibling-kept c.self.invariant.linked c.self.inside.behind.items c.self.invariant.next c.args.node.0 c.in_ok-node_at.field-0.now
    (ap (λ nodes. slots nodes c.args.node.0) (sym c.deref.ensures.value) ∙ sym c.in_ok-node_at.ensures) _ (ap (λ (ks : List ℕ). slice_index ks c.args.node.0) c.as_slice-behind.ensures.value)
    ∙ ap (λ (t : TreeValue). option_map (λ row. row.node) (next_sibling_of c.args.node.0 t.rows)) c.self.view_is)

pub returns : goal.returns
returns c =
    ap (λ (b : Bool). cond b None (Some (record { 0 = slice_index c.as_slice-behind.result.now c.args.node.0 }))) (sym (ne_eqb _ _ c.if-sibling-eq0.false))
    ∙ (next_sibling-kept c.self.invariant.linked c.self.inside.behind.items c.self.invariant.next c.args.node.0 c.in_ok-node_at.field-0.now
    (ap (λ nodes. slots nodes c.args.node.0) (sym c.deref.ensures.value) ∙ sym c.in_ok-node_at.ensures) _ (ap (λ (ks : List ℕ). slice_index ks c.args.node.0) c.as_slice-behind.ensures.value)
    ∙ ap (λ (t : TreeValue). option_map (λ row. row.node) (next_sibling_of c.args.node.0 t.rows)) c.self.view_is)
