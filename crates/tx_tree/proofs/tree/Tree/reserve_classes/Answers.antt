-- Room for classes changes no row.
use Rattle.std.proofs.Common.{ℕ, ap, sym, refl, ◌∙◌, is_some, length, ◌-◌}
use Rattle.std.proofs.lemmas.List.{length-set}
use Rattle.tx_tree.specs.Edits.{edit_refusal, with_classes}
use Rattle.tx_tree.specs.TreeValue.{TreeValue}
use Rattle.tx_tree.specs.Links.{slots, classes_in}
use Rattle.tx_tree.proofs.EditRefusals.{edit-missing, edit-there}
use Rattle.tx_tree.proofs.Refusals.{refused, succeeds, by_memory}
use Rattle.tx_tree.proofs.Rooms.{keeps_spares}
use Rattle.tx_tree.proofs.ChangedRow.{classes-done, changed-same, room-classes}
use Rattle.tx_tree.proofs.tree.Tree.reserve_classes.Goals as goal

pub returns-in_default-clause-refusal : goal.returns-in_default-clause-refusal
returns-in_default-clause-refusal c = refused _ _ _ (ap (λ (t : TreeValue). edit_refusal t.rows c.args.node.0) (sym c.self.view_is)
    ∙ edit-missing c.self.invariant.linked c.args.node.0 (ap (λ nodes. slots nodes c.args.node.0) (sym c.deref.ensures.value) ∙ sym c.in_default.ensures))

pub returns-clause-refusal : goal.returns-clause-refusal
returns-clause-refusal c = succeeds _ _ (ap (λ (t : TreeValue). edit_refusal t.rows c.args.node.0) (sym c.self.view_is)
    ∙ edit-there c.self.invariant.linked c.args.node.0 c.in-Some.field-0.now (ap (λ nodes. slots nodes c.args.node.0) (sym c.deref.ensures.value) ∙ sym c.in-Some.ensures))

pub returns-in_err-reserve_classes-clause-refusal : goal.returns-in_err-reserve_classes-clause-refusal
returns-in_err-reserve_classes-clause-refusal c = by_memory _ c.from_residual.result (ap (λ (t : TreeValue). edit_refusal t.rows c.args.node.0) (sym c.self.view_is)
    ∙ edit-there c.self.invariant.linked c.args.node.0 c.in-Some.field-0.now (ap (λ nodes. slots nodes c.args.node.0) (sym c.deref.ensures.value) ∙ sym c.in-Some.ensures)) c.from_residual.ensures.1

pub invariant_of-self : goal.invariant_of-self
invariant_of-self c =
    (classes-done c.self.inside.nodes.items c.reserve_classes.new.nodes.items _ _ c.args.node.0 (classes_in (slots c.reserve_classes.new.nodes.items c.args.node.0)) (λ names. names) c.self.invariant
    (ap is_some (ap (λ nodes. slots nodes c.args.node.0) (sym c.deref.ensures.value) ∙ sym c.in-Some.ensures)) c.reserve_classes.ensures.nodes c.reserve_classes.ensures.names).0

pub returns-in_err-reserve_classes-clause-unchanged : goal.returns-in_err-reserve_classes-clause-unchanged
returns-in_err-reserve_classes-clause-unchanged c =
    let r = classes-done c.self.inside.nodes.items c.reserve_classes.new.nodes.items _ _ c.args.node.0 (classes_in (slots c.reserve_classes.new.nodes.items c.args.node.0)) (λ names. names) c.self.invariant
    (ap is_some (ap (λ nodes. slots nodes c.args.node.0) (sym c.deref.ensures.value) ∙ sym c.in-Some.ensures)) c.reserve_classes.ensures.nodes c.reserve_classes.ensures.names in
    record {
      rows = r.1 ∙ (changed-same c.args.node.0 (with_classes (λ names. names)) (λ row. refl) _ ∙ ap (λ (t : TreeValue). t.rows) c.self.view_is);
      made = ap (λ (z : ℕ). z - 1) (ap length c.reserve_classes.ensures.nodes ∙ length-set c.self.inside.nodes.items c.args.node.0 _) ∙ ap (λ (t : TreeValue). t.made) c.self.view_is;
    }

pub returns-in_err-reserve_classes-clause-spares : goal.returns-in_err-reserve_classes-clause-spares
returns-in_err-reserve_classes-clause-spares c = λ n live.
    let r = classes-done c.self.inside.nodes.items c.reserve_classes.new.nodes.items _ _ c.args.node.0 (classes_in (slots c.reserve_classes.new.nodes.items c.args.node.0)) (λ names. names) c.self.invariant
    (ap is_some (ap (λ nodes. slots nodes c.args.node.0) (sym c.deref.ensures.value) ∙ sym c.in-Some.ensures)) c.reserve_classes.ensures.nodes c.reserve_classes.ensures.names in
    rw (← c.self.view_is) (keeps_spares c.self.inside.nodes.items c.reserve_classes.new.nodes.items r.0.linked
    (room-classes _ _ c.args.node.0 _ r.2 r.3 r.4 c.reserve_classes.ensures.kept) n live)

pub invariant_of-self-2 : goal.invariant_of-self-2
invariant_of-self-2 c =
    (classes-done c.self.inside.nodes.items c.reserve_classes.new.nodes.items _ _ c.args.node.0 (classes_in (slots c.reserve_classes.new.nodes.items c.args.node.0)) (λ names. names) c.self.invariant
    (ap is_some (ap (λ nodes. slots nodes c.args.node.0) (sym c.deref.ensures.value) ∙ sym c.in-Some.ensures)) c.reserve_classes.ensures.nodes c.reserve_classes.ensures.names).0

pub returns-clause-unchanged : goal.returns-clause-unchanged
returns-clause-unchanged c =
    let r = classes-done c.self.inside.nodes.items c.reserve_classes.new.nodes.items _ _ c.args.node.0 (classes_in (slots c.reserve_classes.new.nodes.items c.args.node.0)) (λ names. names) c.self.invariant
    (ap is_some (ap (λ nodes. slots nodes c.args.node.0) (sym c.deref.ensures.value) ∙ sym c.in-Some.ensures)) c.reserve_classes.ensures.nodes c.reserve_classes.ensures.names in
    record {
      rows = r.1 ∙ (changed-same c.args.node.0 (with_classes (λ names. names)) (λ row. refl) _ ∙ ap (λ (t : TreeValue). t.rows) c.self.view_is);
      made = ap (λ (z : ℕ). z - 1) (ap length c.reserve_classes.ensures.nodes ∙ length-set c.self.inside.nodes.items c.args.node.0 _) ∙ ap (λ (t : TreeValue). t.made) c.self.view_is;
    }

pub returns-clause-spares : goal.returns-clause-spares
returns-clause-spares c = λ n live.
    let r = classes-done c.self.inside.nodes.items c.reserve_classes.new.nodes.items _ _ c.args.node.0 (classes_in (slots c.reserve_classes.new.nodes.items c.args.node.0)) (λ names. names) c.self.invariant
    (ap is_some (ap (λ nodes. slots nodes c.args.node.0) (sym c.deref.ensures.value) ∙ sym c.in-Some.ensures)) c.reserve_classes.ensures.nodes c.reserve_classes.ensures.names in
    rw (← c.self.view_is) (keeps_spares c.self.inside.nodes.items c.reserve_classes.new.nodes.items r.0.linked
    (room-classes _ _ c.args.node.0 _ r.2 r.3 r.4 c.reserve_classes.ensures.kept) n live)
