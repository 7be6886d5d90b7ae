-- A class is added where it is absent.
use Rattle.std.proofs.Common.{◌-◌, ℕ, List, not, ap, sym, refl, ◌∙◌, is_some, length, arith}
use Rattle.std.proofs.lemmas.List.{length-set}
use Rattle.tx_tree.specs.Classes.{has_name, with_name}
use Rattle.tx_tree.specs.Edits.{edit_refusal, changed_at, with_classes, classes_of}
use Rattle.tx_tree.specs.TreeValue.{TreeValue, spare_of}
use Rattle.tx_tree.specs.Links.{slots, classes_in}
use Rattle.tx_tree.proofs.EditRefusals.{edit-missing, edit-there}
use Rattle.tx_tree.proofs.Refusals.{refused, refused_at_once, succeeds, succeeds_at_once, by_memory, on_err}
use Rattle.tx_tree.proofs.Rooms.{lowers_one, spare-slot}
use Rattle.tx_tree.proofs.ChangedRow.{classes-done, classes_of-slot, changed-same, room-lowers}
use Rattle.tx_tree.proofs.tree.Tree.add_class.Goals as goal

pub returns-in_default-clause-refusal : goal.returns-in_default-clause-refusal
returns-in_default-clause-refusal c = refused _ _ _ (ap (λ (t : TreeValue). edit_refusal t.rows c.args.node.0) (sym c.self.view_is)
    ∙ edit-missing c.self.invariant.linked c.args.node.0 (ap (λ nodes. slots nodes c.args.node.0) (sym c.deref.ensures.value) ∙ sym c.in_default.ensures))

pub returns-in_default-clause-with_room : goal.returns-in_default-clause-with_room
returns-in_default-clause-with_room c = λ room. refused_at_once _ _ _ (ap (λ (t : TreeValue). edit_refusal t.rows c.args.node.0) (sym c.self.view_is)
    ∙ edit-missing c.self.invariant.linked c.args.node.0 (ap (λ nodes. slots nodes c.args.node.0) (sym c.deref.ensures.value) ∙ sym c.in_default.ensures))

pub returns-in_err-added-clause-refusal : goal.returns-in_err-added-clause-refusal
returns-in_err-added-clause-refusal c = by_memory _ c.from_residual.result (ap (λ (t : TreeValue). edit_refusal t.rows c.args.node.0) (sym c.self.view_is)
    ∙ edit-there c.self.invariant.linked c.args.node.0 c.in-Some.field-0.now (ap (λ nodes. slots nodes c.args.node.0) (sym c.deref.ensures.value) ∙ sym c.in-Some.ensures)) c.from_residual.ensures.1

pub returns-in_err-added-clause-with_room : goal.returns-in_err-added-clause-with_room
returns-in_err-added-clause-with_room c = λ room.
    let r = classes-done c.self.inside.nodes.items c.add_class.new.nodes.items _ _ c.args.node.0 (classes_in (slots c.add_class.new.nodes.items c.args.node.0)) (λ names. names) c.self.invariant
    (ap is_some (ap (λ nodes. slots nodes c.args.node.0) (sym c.deref.ensures.value) ∙ sym c.in-Some.ensures)) c.add_class.ensures.nodes c.in_err-added.ensures.err in
    let full = c.in_err-added.ensures.full in
    let was = ap (λ (t : TreeValue). spare_of t c.args.node.0) (sym c.self.view_is) ∙ spare-slot c.self.inside.nodes.items c.args.node.0 in
    let own = r.3 in
    absurd (omega (arith, room, full, was, own))

pub returns-clause-refusal : goal.returns-clause-refusal
returns-clause-refusal c = succeeds _ _ (ap (λ (t : TreeValue). edit_refusal t.rows c.args.node.0) (sym c.self.view_is)
    ∙ edit-there c.self.invariant.linked c.args.node.0 c.in-Some.field-0.now (ap (λ nodes. slots nodes c.args.node.0) (sym c.deref.ensures.value) ∙ sym c.in-Some.ensures))

pub returns-clause-with_room : goal.returns-clause-with_room
returns-clause-with_room c = λ room. succeeds_at_once _ _ (ap (λ (t : TreeValue). edit_refusal t.rows c.args.node.0) (sym c.self.view_is)
    ∙ edit-there c.self.invariant.linked c.args.node.0 c.in-Some.field-0.now (ap (λ nodes. slots nodes c.args.node.0) (sym c.deref.ensures.value) ∙ sym c.in-Some.ensures))

pub returns-clause-added : goal.returns-clause-added
returns-clause-added c =
    c.in_ok-added.ensures.added
    ∙ (ap (λ (names : List (List ℕ)). not (has_name c.args.name names)) (sym (classes_of-slot c.self.invariant.linked c.args.node.0 _ refl))
    ∙ ap (λ (t : TreeValue). not (has_name c.args.name (classes_of c.args.node.0 t.rows))) c.self.view_is)

pub returns-clause-rows : goal.returns-clause-rows
returns-clause-rows c =
    (classes-done c.self.inside.nodes.items c.add_class.new.nodes.items _ _ c.args.node.0 (classes_in (slots c.add_class.new.nodes.items c.args.node.0)) (with_name c.args.name) c.self.invariant
    (ap is_some (ap (λ nodes. slots nodes c.args.node.0) (sym c.deref.ensures.value) ∙ sym c.in-Some.ensures)) c.add_class.ensures.nodes c.in_ok-added.ensures.names).1
    ∙ ap (λ (t : TreeValue). changed_at c.args.node.0 (with_classes (with_name c.args.name)) t.rows) c.self.view_is

pub returns-in_err-added-clause-unchanged : goal.returns-in_err-added-clause-unchanged
returns-in_err-added-clause-unchanged c =
    let r = classes-done c.self.inside.nodes.items c.add_class.new.nodes.items _ _ c.args.node.0 (classes_in (slots c.add_class.new.nodes.items c.args.node.0)) (λ names. names) c.self.invariant
    (ap is_some (ap (λ nodes. slots nodes c.args.node.0) (sym c.deref.ensures.value) ∙ sym c.in-Some.ensures)) c.add_class.ensures.nodes c.in_err-added.ensures.err in
    on_err c.from_residual.result _ (record {
      rows = r.1 ∙ (changed-same c.args.node.0 (with_classes (λ names. names)) (λ row. refl) _ ∙ ap (λ (t : TreeValue). t.rows) c.self.view_is);
      made = ap (λ (z : ℕ). z - 1) (ap length c.add_class.ensures.nodes ∙ length-set c.self.inside.nodes.items c.args.node.0 _) ∙ ap (λ (t : TreeValue). t.made) c.self.view_is;
    })

pub invariant_of-self : goal.invariant_of-self
invariant_of-self c = (classes-done c.self.inside.nodes.items c.add_class.new.nodes.items _ _ c.args.node.0 (classes_in (slots c.add_class.new.nodes.items c.args.node.0)) (λ names. names) c.self.invariant
    (ap is_some (ap (λ nodes. slots nodes c.args.node.0) (sym c.deref.ensures.value) ∙ sym c.in-Some.ensures)) c.add_class.ensures.nodes c.in_err-added.ensures.err).0

pub invariant_of-self-2 : goal.invariant_of-self-2
invariant_of-self-2 c = (classes-done c.self.inside.nodes.items c.add_class.new.nodes.items _ _ c.args.node.0 (classes_in (slots c.add_class.new.nodes.items c.args.node.0)) (with_name c.args.name) c.self.invariant
    (ap is_some (ap (λ nodes. slots nodes c.args.node.0) (sym c.deref.ensures.value) ∙ sym c.in-Some.ensures)) c.add_class.ensures.nodes c.in_ok-added.ensures.names).0

pub returns-in_err-added-clause-spares : goal.returns-in_err-added-clause-spares
returns-in_err-added-clause-spares c = λ n live.
    let r = classes-done c.self.inside.nodes.items c.add_class.new.nodes.items _ _ c.args.node.0 (classes_in (slots c.add_class.new.nodes.items c.args.node.0)) (λ names. names) c.self.invariant
    (ap is_some (ap (λ nodes. slots nodes c.args.node.0) (sym c.deref.ensures.value) ∙ sym c.in-Some.ensures)) c.add_class.ensures.nodes c.in_err-added.ensures.err in
    rw (← c.self.view_is) (lowers_one c.self.inside.nodes.items c.add_class.new.nodes.items c.args.node.0 r.0.linked
    (room-lowers _ _ c.args.node.0 _ r.2 r.3 r.4 c.add_class.ensures.lower) n live)

pub returns-clause-spares : goal.returns-clause-spares
returns-clause-spares c = λ n live.
    let r = classes-done c.self.inside.nodes.items c.add_class.new.nodes.items _ _ c.args.node.0 (classes_in (slots c.add_class.new.nodes.items c.args.node.0)) (with_name c.args.name) c.self.invariant
    (ap is_some (ap (λ nodes. slots nodes c.args.node.0) (sym c.deref.ensures.value) ∙ sym c.in-Some.ensures)) c.add_class.ensures.nodes c.in_ok-added.ensures.names in
    rw (← c.self.view_is) (lowers_one c.self.inside.nodes.items c.add_class.new.nodes.items c.args.node.0 r.0.linked
    (room-lowers _ _ c.args.node.0 _ r.2 r.3 r.4 c.add_class.ensures.lower) n live)
