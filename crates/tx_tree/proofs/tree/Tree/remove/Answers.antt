-- A removal is refused by the rows, and else leaves the rows of the nodes.
use Rattle.std.proofs.Common.{ap, sym, ◌∙◌}
use Rattle.tx_tree.specs.Edits.{remove_refusal}
use Rattle.tx_tree.specs.TreeValue.{TreeValue}
use Rattle.tx_tree.specs.Links.{slots}
use Rattle.tx_tree.proofs.EditRefusals.{remove-missing, remove-first, remove-there}
use Rattle.tx_tree.proofs.Refusals.{refused_at_once, succeeds_at_once}
use Rattle.tx_tree.proofs.Rooms.{keeps_spares}
use Rattle.tx_tree.proofs.tree.Tree.remove.Goals as goal

pub returns-in_default-clause-refusal : goal.returns-in_default-clause-refusal
returns-in_default-clause-refusal c =
    refused_at_once _ _ _
    (ap (λ (t : TreeValue). remove_refusal t.rows c.args.node.0) (sym c.self.view_is)
    ∙ remove-missing c.self.invariant.linked c.args.node.0 (ap (λ nodes. slots nodes c.args.node.0) (sym c.deref.ensures.value) ∙ sym c.in_default.ensures))

pub returns-then-node-eq1-clause-refusal : goal.returns-then-node-eq1-clause-refusal
returns-then-node-eq1-clause-refusal c =
    refused_at_once _ _ _
    (ap (λ (t : TreeValue). remove_refusal t.rows c.args.node.0) (sym c.self.view_is)
    ∙ remove-first c.self.invariant.linked c.args.node.0 c.in-Some.field-0.now (ap (λ nodes. slots nodes c.args.node.0) (sym c.deref.ensures.value) ∙ sym c.in-Some.ensures) c.if-node-eq1.true)

pub returns-clause-refusal : goal.returns-clause-refusal
returns-clause-refusal c =
    succeeds_at_once _ _
    (ap (λ (t : TreeValue). remove_refusal t.rows c.args.node.0) (sym c.self.view_is)
    ∙ remove-there c.self.invariant.linked c.args.node.0 c.in-Some.field-0.now (ap (λ nodes. slots nodes c.args.node.0) (sym c.deref.ensures.value) ∙ sym c.in-Some.ensures) c.if-node-eq1.false)

pub returns-clause-spares : goal.returns-clause-spares
returns-clause-spares c = λ n live. rw (← c.self.view_is) (keeps_spares c.self.inside.nodes.items c.remove_node.new.nodes.items c.remove_node.ensures.kept.linked c.remove_node.ensures.room n live)
