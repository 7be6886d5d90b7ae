-- Which parts of what is shown an event changes, as edits.
use Rattle.std.specs.Prelude.{ℕ, ◌+◌, ◌==◌, ◌&&◌, Bool, true, false, List, [], ◌∷◌, ◌++◌, Option, Some, None, bytes_eq, nat_lt, if◌then◌else◌}
use Rattle.std.specs.Bool.{beq}
use Rattle.std.specs.Option.{option_eq}
use Rattle.tx_cascade.specs.declared.edit.Edit.{Edit}
use Rattle.tx_cascade.specs.declared.edit.Edit.TheVariants.{Class, Mounted, Removed, Moved, Text, Inline, Disabled, State as Reacted, Scrolled, Focus, Pointed, Dark, Resized}
use Rattle.tx_route.specs.declared.deliveries.Deliveries.{Deliveries}
use Rattle.tx_route.specs.declared.deliveries.Why.{Why}
use Rattle.tx_route.specs.declared.input.Input.{Input}
use Rattle.tx_route.specs.declared.input.Input.TheVariants.{Resize, AddClass, RemoveClass, SetText, SetInline, Disable, Enable, Mount, Remove, Before}
use Rattle.tx_tree.specs.Classes.{has_name}
use Rattle.tx_tree.specs.Edits.{changed_at, classes_of, with_state}
use Rattle.tx_tree.specs.Rows.{parent_of, row_at}
use Rattle.tx_tree.specs.declared.bind.Action.{Action}
use Rattle.tx_tree.specs.declared.kind.Private.{Private}
use Rattle.tx_tree.specs.declared.kind.Private.TheVariants.{Plain, Cursor, On, Chosen, Bar}
use Rattle.tx_tree.specs.declared.row.NodeId.{NodeId}
use Rattle.tx_tree.specs.declared.row.Row.{Row}
use Rattle.tx_widgets.specs.Reaction.{effect_of}
use Rattle.tx_widgets.specs.declared.reactions.held.Reaction.{Reaction}
use Rattle.tx_widgets.specs.declared.reactions.message.Effect.{Effect}
use Rattle.tx_widgets.specs.declared.reactions.message.Effect.TheVariants.{Scroll, ToggleClass}
use Rattle.tx_core.specs.Arrive.{deliveries_in, delivered_to, changed_by, missed_for, pointed_to}
use Rattle.tx_core.specs.Effects.{applied}
use Rattle.tx_core.specs.History.{Event, Arrives, Serves, Refreshes}
use Rattle.tx_core.specs.Serve.{reaction_of, with_mail}
use Rattle.tx_core.specs.State.{State, Waiting, with_rows}

-- ---- the pseudo state

abbrev pub is_same_node : Option NodeId → Option NodeId → Bool
is_same_node one other = option_eq (λ a b. a.0 == b.0) one other

-- another row is focused, or another one pointed at, or the theme turned
abbrev pub focus_changes : State → State → List Edit
focus_changes before after =
    if is_same_node before.pseudo.focused after.pseudo.focused then [] else Focus before.pseudo.focused after.pseudo.focused ∷ []

abbrev pub pointed_changes : State → State → List Edit
pointed_changes before after =
    if is_same_node before.pseudo.pointed after.pseudo.pointed then [] else Pointed before.pseudo.pointed after.pseudo.pointed ∷ []

abbrev pub dark_changes : State → State → List Edit
dark_changes before after = if beq before.pseudo.dark after.pseudo.dark then [] else Dark ∷ []

abbrev pub pseudo_changes : State → State → List Edit
pseudo_changes before after = focus_changes before after ++ (pointed_changes before after ++ dark_changes before after)

-- ---- effects

-- a row is scrolled to another place
abbrev pub is_same_scroll : ℕ × ℕ → ℕ × ℕ → Bool
is_same_scroll one other = (one.0 == other.0) && (one.1 == other.1)

abbrev pub scroll_changes : NodeId → State → State → List Edit
scroll_changes node before after = if is_same_scroll (before.scrolls node.0) (after.scrolls node.0) then [] else Scrolled node ∷ []

-- what an effect changes beside the pseudo state
abbrev pub other_changes : NodeId → Effect → State → List Edit
other_changes node (Scroll jump) state = scroll_changes node state (applied node (Scroll jump) state)
other_changes node (ToggleClass name) state = Class node name ∷ []
other_changes node _ state = []

abbrev pub effect_changes : NodeId → Effect → State → List Edit
effect_changes node effect state = other_changes node effect state ++ pseudo_changes state (applied node effect state)

-- each in the state that those before it leave
abbrev pub effects_changes : NodeId → List Effect → State → List Edit
effects_changes node [] state = []
effects_changes node (effect ∷ effects) state = effect_changes node effect state ++ effects_changes node effects (applied node effect state)

-- ---- a served row

abbrev pub is_same_private : Private → Private → Bool
is_same_private Plain Plain = true
is_same_private (Cursor one) (Cursor other) = one == other
is_same_private (On one) (On other) = beq one other
is_same_private (Chosen one) (Chosen other) = one == other
is_same_private (Bar done total) (Bar other_done other_total) = (done == other_done) && (total == other_total)
is_same_private _ _ = false

-- its text or its private state is another
abbrev pub own_changes : NodeId → Row → Reaction → List Edit
own_changes node row made = if bytes_eq row.text made.text && is_same_private row.private made.private then [] else Reacted node ∷ []

abbrev pub served_changes : NodeId → State → Option Row → List Waiting → List Edit
served_changes node state None mail = []
served_changes node state (Some row) [] = []
served_changes node state (Some row) (front ∷ rest) =
    let made = reaction_of state row front.message in
    own_changes node row made
    ++ effects_changes node made.effects (with_rows (changed_at node.0 (with_state made.text made.private) state.rows) (with_mail node rest state))

-- ---- an input

-- a class came, or went
abbrev pub class_changes : Bool → NodeId → List ℕ → State → List Edit
class_changes had node name state = if beq (has_name name (classes_of node.0 state.rows)) had then Class node name ∷ [] else []

-- a row with its parent
abbrev pub below : (NodeId → Edit) → Option Row → List Edit
below edit None = []
below edit (Some parent) = edit parent.node ∷ []

-- the change of the row that is meant, in the state before it
abbrev pub row_changes : Input → NodeId → State → List Edit
row_changes (AddClass target name) node state = class_changes false node name state
row_changes (RemoveClass target name) node state = class_changes true node name state
row_changes (SetText target text) node state = Text node ∷ []
row_changes (SetInline target text) node state = Inline node ∷ []
row_changes (Disable target) node state = Disabled node ∷ []
row_changes (Enable target) node state = Disabled node ∷ []
row_changes (Mount target row) node state = Mounted (record { 0 = state.made + 1 }) node ∷ []
row_changes (Remove target) node state = below (λ parent. Removed node parent) (parent_of node.0 state.rows)
row_changes (Before target other) node state = below (λ parent. Moved node parent) (parent_of node.0 state.rows)
row_changes _ node state = []

abbrev pub input_changes : Input → Option NodeId → State → List Edit
input_changes (Resize size) target state = Resized ∷ []
input_changes input None state = []
input_changes input (Some node) state = row_changes input node state

-- the action of a priority binding
abbrev pub action_changes : Option (NodeId × Action) → State → List Edit
action_changes None state = []
action_changes (Some at) state = effect_changes at.0 (effect_of at.1) state

-- the pointed row, then the action, then the change and what it does to the pseudo state
abbrev pub delivered_changes : ℕ → Input → Deliveries → State → List Edit
delivered_changes sender input deliveries state =
    let pointed = pointed_to deliveries.pointed state in
    let before = delivered_to sender deliveries state in
    pointed_changes state pointed
    ++ (action_changes deliveries.action pointed
    ++ (input_changes input deliveries.target before ++ pseudo_changes before (changed_by input deliveries before)))

abbrev pub arrived_changes : ℕ → Input → State → Deliveries → Option Why → List Edit
arrived_changes sender input state deliveries (Some why) = []
arrived_changes sender input state deliveries None = delivered_changes sender input deliveries state

-- ---- events

-- What an event that happens changes. A refresh names no edit: those after it count from what it showed, in which all scrolls are in range.
abbrev pub changes_of : State → Event → List Edit
changes_of state (Arrives sender input) =
    let deliveries = deliveries_in state input in
    if nat_lt sender state.senders then arrived_changes sender input state deliveries (missed_for state input deliveries) else []
changes_of state (Serves node) = served_changes node state (row_at node.0 state.rows) (state.mail node.0)
changes_of state (Refreshes wanting fails) = []
