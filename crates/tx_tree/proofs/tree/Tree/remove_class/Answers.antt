-- Every place of a class goes.
use Rattle.std.proofs.Common.{ap, sym, refl, ◌∙◌, is_some}
use Rattle.tx_tree.specs.Classes.{without, has_name}
use Rattle.tx_tree.specs.Edits.{edit_refusal, changed_at, with_classes, classes_of}
use Rattle.tx_tree.specs.TreeValue.{TreeValue}
use Rattle.tx_tree.specs.Links.{slots, classes_in}
use Rattle.tx_tree.proofs.EditRefusals.{edit-missing, edit-there}
use Rattle.tx_tree.proofs.Refusals.{refused_at_once, succeeds_at_once}
use Rattle.tx_tree.proofs.Rooms.{keeps_spares}
use Rattle.tx_tree.proofs.ChangedRow.{classes-done, classes_of-slot, room-classes}
use Rattle.tx_tree.proofs.tree.Tree.remove_class.Goals as goal

pub returns-in_default-clause-refusal : goal.returns-in_default-clause-refusal
returns-in_default-clause-refusal c = refused_at_once _ _ _ (ap (λ (t : TreeValue). edit_refusal t.rows c.args.node.0) (sym c.self.view_is)
    ∙ edit-missing c.self.invariant.linked c.args.node.0 (ap (λ nodes. slots nodes c.args.node.0) (sym c.deref.ensures.value) ∙ sym c.in_default.ensures))

pub returns-clause-refusal : goal.returns-clause-refusal
returns-clause-refusal c = succeeds_at_once _ _ (ap (λ (t : TreeValue). edit_refusal t.rows c.args.node.0) (sym c.self.view_is)
    ∙ edit-there c.self.invariant.linked c.args.node.0 c.in-Some.field-0.now (ap (λ nodes. slots nodes c.args.node.0) (sym c.deref.ensures.value) ∙ sym c.in-Some.ensures))

pub returns-clause-removed : goal.returns-clause-removed
returns-clause-removed c =
    c.remove_class-removed.ensures.removed
    ∙ (ap (has_name c.args.name.now) (sym (classes_of-slot c.self.invariant.linked c.args.node.0 _ refl))
    ∙ ap (λ (t : TreeValue). has_name c.args.name.now (classes_of c.args.node.0 t.rows)) c.self.view_is)

pub invariant_of-self : goal.invariant_of-self
invariant_of-self c =
    (classes-done c.self.inside.nodes.items c.remove_class-removed.new.nodes.items _ _ c.args.node.0 (classes_in (slots c.remove_class-removed.new.nodes.items c.args.node.0)) (without c.args.name.now) c.self.invariant
    (ap is_some (ap (λ nodes. slots nodes c.args.node.0) (sym c.deref.ensures.value) ∙ sym c.in-Some.ensures)) c.remove_class-removed.ensures.nodes c.remove_class-removed.ensures.names).0

pub returns-clause-rows : goal.returns-clause-rows
returns-clause-rows c =
    (classes-done c.self.inside.nodes.items c.remove_class-removed.new.nodes.items _ _ c.args.node.0 (classes_in (slots c.remove_class-removed.new.nodes.items c.args.node.0)) (without c.args.name.now) c.self.invariant
    (ap is_some (ap (λ nodes. slots nodes c.args.node.0) (sym c.deref.ensures.value) ∙ sym c.in-Some.ensures)) c.remove_class-removed.ensures.nodes c.remove_class-removed.ensures.names).1
    ∙ ap (λ (t : TreeValue). changed_at c.args.node.0 (with_classes (without c.args.name.now)) t.rows) c.self.view_is

pub returns-clause-spares : goal.returns-clause-spares
returns-clause-spares c = λ n live.
    let r = classes-done c.self.inside.nodes.items c.remove_class-removed.new.nodes.items _ _ c.args.node.0 (classes_in (slots c.remove_class-removed.new.nodes.items c.args.node.0)) (without c.args.name.now) c.self.invariant
    (ap is_some (ap (λ nodes. slots nodes c.args.node.0) (sym c.deref.ensures.value) ∙ sym c.in-Some.ensures)) c.remove_class-removed.ensures.nodes c.remove_class-removed.ensures.names in
    rw (← c.self.view_is) (keeps_spares c.self.inside.nodes.items c.remove_class-removed.new.nodes.items r.0.linked
    (room-classes _ _ c.args.node.0 _ r.2 r.3 r.4 c.remove_class-removed.ensures.kept) n live)
