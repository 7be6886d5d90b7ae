-- What an input from outside does.
use Rattle.std.specs.Prelude.{ℕ, ◌+◌, Bool, true, false, nat_lt, max, min, List, [], ◌∷◌, ◌++◌, Option, Some, None, find, map, option_map, bytes_eq, if◌then◌else◌}
use Rattle.std.specs.List.{list_any}
use Rattle.std.specs.Option.{option_and_then, option_map_or, option_or}
use Rattle.tx_cell.specs.Cell.{blank}
use Rattle.tx_cell.specs.Grid.{filled}
use Rattle.tx_cell.specs.Pen.{white_on_black}
use Rattle.tx_geom.specs.declared.places.Size.{Size}
use Rattle.tx_node_map.specs.Held.{with_at}
use Rattle.tx_route.specs.Routing.{delivered, other_of, target_of}
use Rattle.tx_route.specs.declared.deliveries.Deliveries.{Deliveries}
use Rattle.tx_route.specs.declared.deliveries.Why.{Why}
use Rattle.tx_route.specs.declared.deliveries.Why.TheVariants.{NoCustom, CustomTaken}
use Rattle.tx_route.specs.declared.input.Input.{Input}
use Rattle.tx_route.specs.declared.input.Input.TheVariants.{Resize, AddClass, RemoveClass, SetText, SetInline, Disable, Enable, Mount, Remove, Before, Theme}
use Rattle.tx_select.specs.Climb.{is_match}
use Rattle.tx_select.specs.SelectorValue.{SelectorValue}
use Rattle.tx_select.specs.declared.value.Pseudo.{Pseudo}
use Rattle.tx_tree.specs.Classes.{with_name, without}
use Rattle.tx_tree.specs.Edits.{changed_at, with_classes, with_disabled, with_inline, with_text}
use Rattle.tx_tree.specs.Mount.{mounted}
use Rattle.tx_tree.specs.Row.{has_number, number}
use Rattle.tx_tree.specs.Rows.{moved, removed, subtree_of}
use Rattle.tx_tree.specs.declared.bind.Action.{Action}
use Rattle.tx_tree.specs.declared.kind.Kind.{Kind}
use Rattle.tx_tree.specs.declared.kind.Kind.TheVariants.{Handed}
use Rattle.tx_tree.specs.declared.row.NewRow.{NewRow}
use Rattle.tx_tree.specs.declared.row.NodeId.{NodeId}
use Rattle.tx_tree.specs.declared.row.Row.{Row}
use Rattle.tx_widgets.specs.Reaction.{effect_of}
use Rattle.tx_widgets.specs.declared.reactions.message.Message.{Message}
use Rattle.tx_core.specs.Effects.{applied}
use Rattle.tx_core.specs.Outcome.{Outcome, happened, impossible}
use Rattle.tx_core.specs.State.{HandedIn, State, Waiting, frame_in, tree_of, with_dark, with_focus, with_one, with_pointed, with_rows}
use Rattle.tx_core.specs.Waiting.{put}
use Rattle.tx_core.specs.declared.entry.Entry.{Entry}
use Rattle.tx_core.specs.declared.entry.Entry.TheVariants.{Arrive, Missed, Dropped}
use Rattle.tx_core.specs.declared.entry.Sender.{Sender}
use Rattle.tx_core.specs.declared.entry.Sender.TheVariants.{Outside}

-- ---- to whom it goes

-- the first row in document order that a selector matches
abbrev pub matched : Pseudo → List Row → SelectorValue → Option NodeId
matched pseudo rows selector = option_map (λ row. row.node) (find (λ row. is_match pseudo rows selector.compounds (number row)) rows)

-- the rows that an input means
unfoldable pub target_in : State → Input → Option NodeId
target_in state input = option_and_then (matched state.pseudo state.rows) (target_of input)

unfoldable pub other_in : State → Input → Option NodeId
other_in state input = option_and_then (matched state.pseudo state.rows) (other_of input)

-- what it comes to
abbrev pub deliveries_in : State → Input → Deliveries
deliveries_in state input = delivered (tree_of state) state.pseudo.focused (frame_in state) input (target_in state input) (other_in state input)

-- ---- when it is missed

-- why no row can be made of a name: nothing was handed in under it, or a node has or had it
abbrev pub name_refusal : Option HandedIn → Option Why
name_refusal None = Some NoCustom
name_refusal (Some custom) = if custom.taken then Some CustomTaken else None

abbrev pub custom_named : List HandedIn → List ℕ → Option HandedIn
custom_named handed name = find (λ custom. bytes_eq name custom.name) handed

abbrev pub kind_refusal : List HandedIn → Kind → Option Why
kind_refusal handed (Handed name) = name_refusal (custom_named handed name)
kind_refusal handed _ = None

abbrev pub custom_refusal : List HandedIn → Input → Option Why
custom_refusal handed (Mount target row) = kind_refusal handed row.kind
custom_refusal handed _ = None

-- by its deliveries first, and then by what was handed in
abbrev pub missed_for : State → Input → Deliveries → Option Why
missed_for state input deliveries = option_or deliveries.missed (custom_refusal state.handed input)

-- ---- changes of the tree

-- whether a node is that of one of some rows
abbrev pub is_of : List Row → ℕ → Bool
is_of rows n = list_any (has_number n) rows

-- a node, unless it is one of these rows
abbrev pub unless_of : List Row → Option NodeId → Option NodeId
unless_of rows node = option_and_then (λ one. if is_of rows one.0 then None else Some one) node

-- the focus is taken away from these rows
abbrev pub unfocused : List Row → State → State
unfocused rows state = with_focus (unless_of rows state.pseudo.focused) state

-- a row is disabled, and none below it stays focused
abbrev pub disabled_at : NodeId → State → State
disabled_at node state = with_rows (changed_at node.0 (with_disabled true) state.rows) (unfocused (subtree_of node.0 state.rows) state)

-- what was handed in under a name has a node now
abbrev pub taken_by : List ℕ → HandedIn → HandedIn
taken_by name custom = if bytes_eq name custom.name then record custom { taken = true } else custom

abbrev pub with_object : ℕ → Kind → State → State
with_object n (Handed name) state = record state {
  objects = with_at state.objects n (option_map (λ custom. custom.numbers) (custom_named state.handed name));
  handed = map (taken_by name) state.handed;
}
with_object n _ state = state

-- a new row becomes the last child of a row, and has the next node
abbrev pub mounted_at : NodeId → NewRow → State → State
mounted_at node row state =
    with_object (state.made + 1) row.kind (record state { rows = mounted node.0 (state.made + 1) row state.rows; made = state.made + 1 })

-- one mailbox after another is emptied
abbrev pub emptied : List Row → (ℕ → List Waiting) → ℕ → List Waiting
emptied [] mail = mail
emptied (row ∷ rows) mail = emptied rows (with_one mail (number row) [])

-- These rows go: nothing of them is focused or pointed at, they are scrolled no more, nothing waits there, and their objects are dropped.
abbrev pub without_rows : List Row → State → State
without_rows gone state = record (with_pointed (unless_of gone state.pseudo.pointed) (unfocused gone state)) {
  scrolls = λ n. if is_of gone n then (0, 0) else state.scrolls n;
  mail = emptied gone state.mail;
  objects = λ n. if is_of gone n then None else state.objects n;
}

abbrev pub removed_at : NodeId → State → State
removed_at node state = with_rows (removed node.0 state.rows) (without_rows (subtree_of node.0 state.rows) state)

-- a change of the row that is meant
abbrev pub changed_with : Input → NodeId → State → State
changed_with (AddClass target name) node state = with_rows (changed_at node.0 (with_classes (with_name name)) state.rows) state
changed_with (RemoveClass target name) node state = with_rows (changed_at node.0 (with_classes (without name)) state.rows) state
changed_with (SetText target text) node state = with_rows (changed_at node.0 (with_text text) state.rows) state
changed_with (SetInline target text) node state = with_rows (changed_at node.0 (with_inline text) state.rows) state
changed_with (Disable target) node state = disabled_at node state
changed_with (Enable target) node state = with_rows (changed_at node.0 (with_disabled false) state.rows) state
changed_with (Mount target row) node state = mounted_at node row state
changed_with (Remove target) node state = removed_at node state
changed_with _ node state = state

-- a row is moved before another one, where both are meant
abbrev pub moved_with : Option NodeId → Option NodeId → State → State
moved_with (Some node) (Some other) state = with_rows (moved node.0 other.0 state.rows) state
moved_with _ _ state = state

-- ---- the screen

-- a number brought into a range
abbrev pub within : ℕ → ℕ → ℕ → ℕ
within low high n = max low (min high n)

-- the nearest size that a screen may have
abbrev pub nearest : Size → Size
nearest size = record { width = within 1 1024 size.width; height = within 1 512 size.height }

-- the screen has another size: blanks of white on black count as shown, and the next update is whole
abbrev pub resized : Size → State → State
resized size state = record state { size = size; shown = filled size (blank white_on_black); whole = true }

-- ---- what it does

-- the change that it asks for
abbrev pub changed_by : Input → Deliveries → State → State
changed_by (Resize size) deliveries state = resized (nearest size) state
changed_by (Theme dark) deliveries state = with_dark dark state
changed_by (Before target other) deliveries state = moved_with deliveries.target deliveries.other state
changed_by input deliveries state = option_map_or (λ node. changed_with input node state) deliveries.target state

-- its message comes into a mailbox
abbrev pub put_by : Sender → Option (NodeId × Message) → State → State
put_by sender None state = state
put_by sender (Some to) state = put to.0 sender to.1 state

-- the action of a priority binding is applied, with its row as the node
abbrev pub acted : Option (NodeId × Action) → State → State
acted None state = state
acted (Some at) state = applied at.0 (effect_of at.1) state

-- the pointed row is another
abbrev pub pointed_to : Option NodeId → State → State
pointed_to None state = state
pointed_to (Some node) state = with_pointed (Some node) state

-- all that comes before the change
abbrev pub delivered_to : ℕ → Deliveries → State → State
delivered_to sender deliveries state = put_by (Outside sender) deliveries.put (acted deliveries.action (pointed_to deliveries.pointed state))

-- ---- the event

-- the next input of this sender has the number after
abbrev pub counted : ℕ → State → State
counted sender state = record state { next_input = with_one state.next_input sender (state.next_input sender + 1) }

-- each message that waits at one of these rows is dropped, in the order of the rows
abbrev pub drops : List Row → (ℕ → List Waiting) → List Entry
drops [] mail = []
drops (row ∷ rows) mail = map (λ waiting. Dropped row.node waiting.number) (mail (number row)) ++ drops rows (with_one mail (number row) [])

-- those of a Remove
abbrev pub dropped_by : Input → Option NodeId → State → List Entry
dropped_by (Remove target) (Some node) state = drops (subtree_of node.0 state.rows) state.mail
dropped_by _ _ state = []

-- what it changes, after the deliveries
abbrev pub changing : ℕ → Input → Deliveries → ℕ → State → Outcome
changing sender input deliveries number state =
    happened (Arrive sender number input ∷ dropped_by input deliveries.target state) (changed_by input deliveries state)

-- an input that is missed changes nothing but its sender's next number
abbrev pub arrived_or : ℕ → Input → State → Deliveries → Option Why → Outcome
arrived_or sender input state deliveries (Some why) =
    happened (Arrive sender (state.next_input sender) input ∷ Missed sender (state.next_input sender) why ∷ []) (counted sender state)
arrived_or sender input state deliveries None =
    changing sender input deliveries (state.next_input sender) (delivered_to sender deliveries (counted sender state))

-- one of no sender can't arrive
abbrev pub arrived_if : Bool → ℕ → Input → State → Outcome
arrived_if false sender input state = impossible state
arrived_if true sender input state =
    let deliveries = deliveries_in state input in
    arrived_or sender input state deliveries (missed_for state input deliveries)

unfoldable pub arrived : ℕ → Input → State → Outcome
arrived sender input state = arrived_if (nat_lt sender state.senders) sender input state
