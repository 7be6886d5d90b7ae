-- One row changes.
use Rattle.std.proofs.Common.{ap, sym, ◌∙◌, is_some}
use Rattle.tx_tree.specs.Edits.{edit_refusal, changed_at}
use Rattle.tx_tree.specs.Changes.{changed_by}
use Rattle.tx_tree.specs.TreeValue.{TreeValue}
use Rattle.tx_tree.specs.Links.{slots}
use Rattle.tx_tree.proofs.EditRefusals.{edit-missing, edit-there}
use Rattle.tx_tree.proofs.Refusals.{refused_at_once, succeeds_at_once}
use Rattle.tx_tree.proofs.Rooms.{keeps_spares}
use Rattle.tx_tree.proofs.ChangedRow.{change-done}
use Rattle.tx_tree.proofs.tree.Tree.change.Goals as goal

pub returns-in_default-clause-refusal : goal.returns-in_default-clause-refusal
returns-in_default-clause-refusal c =
    refused_at_once _ _ _
    (ap (λ (t : TreeValue). edit_refusal t.rows c.args.node.0) (sym c.self.view_is)
    ∙ edit-missing c.self.invariant.linked c.args.node.0 (ap (λ nodes. slots nodes c.args.node.0) (sym c.deref.ensures.value) ∙ sym c.in_default.ensures))

pub returns-clause-refusal : goal.returns-clause-refusal
returns-clause-refusal c =
    succeeds_at_once _ _
    (ap (λ (t : TreeValue). edit_refusal t.rows c.args.node.0) (sym c.self.view_is)
    ∙ edit-there c.self.invariant.linked c.args.node.0 c.in-Some.field-0.now (ap (λ nodes. slots nodes c.args.node.0) (sym c.deref.ensures.value) ∙ sym c.in-Some.ensures))

pub invariant_of-self : goal.invariant_of-self
invariant_of-self c =
    (change-done c.self.inside.nodes.items c.change_row.new.nodes.items _ _ c.args.node.0 c.args.change c.self.invariant
    (ap is_some (ap (λ nodes. slots nodes c.args.node.0) (sym c.deref.ensures.value) ∙ sym c.in-Some.ensures)) c.change_row.ensures).0

pub returns-clause-rows : goal.returns-clause-rows
returns-clause-rows c =
    (change-done c.self.inside.nodes.items c.change_row.new.nodes.items _ _ c.args.node.0 c.args.change c.self.invariant
    (ap is_some (ap (λ nodes. slots nodes c.args.node.0) (sym c.deref.ensures.value) ∙ sym c.in-Some.ensures)) c.change_row.ensures).1
    ∙ ap (λ (t : TreeValue). changed_at c.args.node.0 (changed_by c.args.change) t.rows) c.self.view_is

pub returns-clause-spares : goal.returns-clause-spares
returns-clause-spares c = λ n live.
    let r = change-done c.self.inside.nodes.items c.change_row.new.nodes.items _ _ c.args.node.0 c.args.change c.self.invariant
    (ap is_some (ap (λ nodes. slots nodes c.args.node.0) (sym c.deref.ensures.value) ∙ sym c.in-Some.ensures)) c.change_row.ensures in
    rw (← c.self.view_is) (keeps_spares c.self.inside.nodes.items c.change_row.new.nodes.items r.0.linked r.2 n live)
