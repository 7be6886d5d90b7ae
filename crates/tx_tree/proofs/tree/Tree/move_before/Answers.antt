-- A move is refused by the rows, and else leaves the rows of the nodes.
use Rattle.std.proofs.Common.{ℕ, ap, sym, ◌∙◌, arith}
use Rattle.tx_tree.specs.Edits.{move_refusal}
use Rattle.tx_tree.specs.TreeValue.{TreeValue}
use Rattle.tx_tree.specs.Links.{slots, times, children_in}
use Rattle.tx_tree.proofs.EditRefusals.{move-missing, move-missing-other, move-same, move-apart, move-there, child-there}
use Rattle.tx_tree.proofs.Refusals.{refused_at_once, succeeds_at_once}
use Rattle.tx_tree.proofs.Rooms.{keeps_spares}
use Rattle.tx_tree.proofs.MovedNodes.{kept-ids}
use Rattle.tx_tree.proofs.tree.Tree.move_before.Goals as goal

pub returns-in_default-clause-refusal : goal.returns-in_default-clause-refusal
returns-in_default-clause-refusal c =
    refused_at_once _ _ _
    (ap (λ (t : TreeValue). move_refusal t.rows c.args.node.0 c.args.before.0) (sym c.self.view_is)
    ∙ move-missing c.self.invariant.linked c.args.node.0 c.args.before.0 (ap (λ nodes. slots nodes c.args.node.0) (sym c.deref.ensures.value) ∙ sym c.in_default.ensures))

pub returns-in_default-node_at-clause-refusal : goal.returns-in_default-node_at-clause-refusal
returns-in_default-node_at-clause-refusal c =
    refused_at_once _ _ _
    (ap (λ (t : TreeValue). move_refusal t.rows c.args.node.0 c.args.before.0) (sym c.self.view_is)
    ∙ move-missing-other c.self.invariant.linked c.args.node.0 c.args.before.0 c.in-Some.moving.now
    (ap (λ nodes. slots nodes c.args.node.0) (sym c.deref.ensures.value) ∙ sym c.in-Some.ensures)
    (ap (λ nodes. slots nodes c.args.before.0) (sym c.deref-2.ensures.value) ∙ sym c.in_default-node_at.ensures))

pub returns-then-node-before-clause-refusal : goal.returns-then-node-before-clause-refusal
returns-then-node-before-clause-refusal c =
    refused_at_once _ _ _
    (ap (λ (t : TreeValue). move_refusal t.rows c.args.node.0 c.args.before.0) (sym c.self.view_is)
    ∙ move-same c.self.invariant.linked c.args.node.0 c.args.before.0 c.in-Some.moving.now c.in-Some-node_at.other.now
    (ap (λ nodes. slots nodes c.args.node.0) (sym c.deref.ensures.value) ∙ sym c.in-Some.ensures)
    (ap (λ nodes. slots nodes c.args.before.0) (sym c.deref-2.ensures.value) ∙ sym c.in-Some-node_at.ensures) c.if-node-before.true)

pub returns-then-parent-other-clause-refusal : goal.returns-then-parent-other-clause-refusal
returns-then-parent-other-clause-refusal c =
    refused_at_once _ _ _
    (ap (λ (t : TreeValue). move_refusal t.rows c.args.node.0 c.args.before.0) (sym c.self.view_is)
    ∙ move-apart c.self.invariant.linked c.args.node.0 c.args.before.0 c.in-Some.moving.now c.in-Some-node_at.other.now
    (ap (λ nodes. slots nodes c.args.node.0) (sym c.deref.ensures.value) ∙ sym c.in-Some.ensures)
    (ap (λ nodes. slots nodes c.args.before.0) (sym c.deref-2.ensures.value) ∙ sym c.in-Some-node_at.ensures) c.if-node-before.false c.if-parent-other.true)

pub move_node-requires-clause-child : goal.move_node-requires-clause-child
move_node-requires-clause-child c =
    child-there c.self.invariant.linked c.args.node.0 c.args.before.0 c.in-Some.moving.now c.in-Some-node_at.other.now
    (ap (λ nodes. slots nodes c.args.node.0) (sym c.deref.ensures.value) ∙ sym c.in-Some.ensures)
    (ap (λ nodes. slots nodes c.args.before.0) (sym c.deref-2.ensures.value) ∙ sym c.in-Some-node_at.ensures) c.if-node-before.false c.if-parent-other.false

pub move_node-requires-clause-other : goal.move_node-requires-clause-other
move_node-requires-clause-other c =
    let stands = child-there c.self.invariant.linked c.args.before.0 c.args.node.0 c.in-Some-node_at.other.now c.in-Some.moving.now
    (ap (λ nodes. slots nodes c.args.before.0) (sym c.deref-2.ensures.value) ∙ sym c.in-Some-node_at.ensures)
    (ap (λ nodes. slots nodes c.args.node.0) (sym c.deref.ensures.value) ∙ sym c.in-Some.ensures) (λ e. c.if-node-before.false (sym e)) (sym c.if-parent-other.false) in
    let same = ap (λ (z : ℕ). times c.args.before.0 (children_in (slots c.self.inside.nodes.items z))) c.if-parent-other.false in
    omega (arith, stands, same)

pub invariant_of-self : goal.invariant_of-self
invariant_of-self c =
    kept-ids c.self.inside.nodes.items c.move_node.new.nodes.items c.self.inside.behind.items c.move_node.new.behind.items _ c.self.invariant
    c.move_node.ensures.linked c.move_node.ensures.next c.move_node.ensures.as_long c.move_node.ensures.made c.move_node.ensures.ids

pub returns-clause-refusal : goal.returns-clause-refusal
returns-clause-refusal c =
    succeeds_at_once _ _
    (ap (λ (t : TreeValue). move_refusal t.rows c.args.node.0 c.args.before.0) (sym c.self.view_is)
    ∙ move-there c.self.invariant.linked c.args.node.0 c.args.before.0 c.in-Some.moving.now c.in-Some-node_at.other.now
    (ap (λ nodes. slots nodes c.args.node.0) (sym c.deref.ensures.value) ∙ sym c.in-Some.ensures)
    (ap (λ nodes. slots nodes c.args.before.0) (sym c.deref-2.ensures.value) ∙ sym c.in-Some-node_at.ensures) c.if-node-before.false c.if-parent-other.false)

pub returns-clause-spares : goal.returns-clause-spares
returns-clause-spares c = λ n live. rw (← c.self.view_is) (keeps_spares c.self.inside.nodes.items c.move_node.new.nodes.items c.move_node.ensures.linked c.move_node.ensures.room n live)
