-- The parent by the rows is the one that the node is linked to.
use Rattle.std.proofs.Common.{ap, sym, ◌∙◌, Some, None, option_map, cond, Bool}
use Rattle.std.proofs.lemmas.Bool.{eq-eqb, ne_eqb}
use Rattle.tx_tree.specs.Rows.{parent_of}
use Rattle.tx_tree.specs.TreeValue.{TreeValue}
use Rattle.tx_tree.specs.Links.{slots}
use Rattle.tx_tree.proofs.Lookups.{parent_of-slot}
use Rattle.tx_tree.proofs.tree.Tree.parent.Goals as goal

pub returns-in_err-parent : goal.returns-in_err-parent
returns-in_err-parent c =
    c.from_residual.ensures
    ∙ (parent_of-slot c.self.invariant.linked c.args.node.0 None (ap (λ nodes. slots nodes c.args.node.0) (sym c.deref.ensures.value) ∙ sym c.in_err-parent.ensures)
    ∙ ap (λ (t : TreeValue). option_map (λ row. row.node) (parent_of c.args.node.0 t.rows)) c.self.view_is)

pub returns-then-parent-eq0 : goal.returns-then-parent-eq0
returns-then-parent-eq0 c =
    ap (λ (b : Bool). cond b None (Some (record { 0 = c.in_ok-parent.field-0.now.parent }))) (sym (eq-eqb _ _ c.if-parent-eq0.true))
    ∙ (parent_of-slot c.self.invariant.linked c.args.node.0 (Some c.in_ok-parent.field-0.now) (ap (λ nodes. slots nodes c.args.node.0) (sym c.deref.ensures.value) ∙ sym c.in_ok-parent.ensures)
    ∙ ap (λ (t : TreeValue). option_map (λ row. row.node) (parent_of c.args.node.0 t.rows)) c.self.view_is)

pub returns : goal.returns
returns c =
    ap (λ (b : Bool). cond b None (Some (record { 0 = c.in_ok-parent.field-0.now.parent }))) (sym (ne_eqb _ _ c.if-parent-eq0.false))
    ∙ (parent_of-slot c.self.invariant.linked c.args.node.0 (Some c.in_ok-parent.field-0.now) (ap (λ nodes. slots nodes c.args.node.0) (sym c.deref.ensures.value) ∙ sym c.in_ok-parent.ensures)
    ∙ ap (λ (t : TreeValue). option_map (λ row. row.node) (parent_of c.args.node.0 t.rows)) c.self.view_is)
