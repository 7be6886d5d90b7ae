-- What a row does with the first message of its mailbox.
use Rattle.std.specs.Prelude.{Bool, true, false, List, [], ◌∷◌, Option, Some, None}
use Rattle.tx_route.specs.Bindings.{action_on}
use Rattle.tx_select.specs.Holds.{is_disabled}
use Rattle.tx_tree.specs.Edits.{changed_at, with_state}
use Rattle.tx_tree.specs.Rows.{row_at}
use Rattle.tx_tree.specs.declared.bind.Action.{Action}
use Rattle.tx_tree.specs.declared.bind.Bind.{Bind}
use Rattle.tx_tree.specs.declared.row.NodeId.{NodeId}
use Rattle.tx_tree.specs.declared.row.Row.{Row}
use Rattle.tx_widgets.specs.Reaction.{reaction}
use Rattle.tx_widgets.specs.declared.reactions.held.Held.{Held}
use Rattle.tx_widgets.specs.declared.reactions.held.Reaction.{Reaction}
use Rattle.tx_widgets.specs.declared.reactions.message.Message.{Message}
use Rattle.tx_widgets.specs.declared.reactions.message.Message.TheVariants.{Key}
use Rattle.tx_core.specs.Effects.{all_applied}
use Rattle.tx_core.specs.Outcome.{Outcome, happened, impossible}
use Rattle.tx_core.specs.State.{State, Waiting, with_one, with_rows}
use Rattle.tx_core.specs.Waiting.{put_above}
use Rattle.tx_core.specs.declared.entry.Entry.TheVariants.{Serve}

-- the action of a row's first binding on a key that has no priority
abbrev pub bound_to : List Bind → Message → Option Action
bound_to binds (Key key) = action_on key false binds
bound_to binds _ = None

-- what a row's reaction is made from
abbrev pub held_by : List Row → Row → Message → Held
held_by rows row message = record {
  kind = row.kind;
  disabled = is_disabled rows row;
  action = bound_to row.binds message;
  text = row.text;
  private = row.private;
}

-- the reaction of a row to a message
abbrev pub reaction_of : State → Row → Message → Reaction
reaction_of state row message = reaction (held_by state.rows row message) message

-- a mailbox keeps these messages alone
abbrev pub with_mail : NodeId → List Waiting → State → State
with_mail node rest state = record state { mail = with_one state.mail node.0 rest }

-- a message that isn't stopped goes on to the parent
abbrev pub passed : Bool → NodeId → Message → State → State
passed true node message state = state
passed false node message state = put_above node message state

-- The front leaves the mailbox; the row has the reaction's text and private state; the effects are applied in their order; and the message goes
-- on where it isn't stopped.
abbrev pub reacted : NodeId → Message → List Waiting → Reaction → State → State
reacted node message rest made state =
    passed made.stopped node message
    (all_applied node made.effects (with_rows (changed_at node.0 (with_state made.text made.private) state.rows) (with_mail node rest state)))

-- ---- the event

-- a row is served the front of its mailbox
abbrev pub served_front : NodeId → State → Row → Waiting → List Waiting → Outcome
served_front node state row front rest =
    let made = reaction_of state row front.message in
    happened (Serve node front.number made.effects made.stopped ∷ []) (reacted node front.message rest made state)

-- where the node is gone or nothing waits there, it can't be served
abbrev pub served_by : NodeId → State → Option Row → List Waiting → Outcome
served_by node state None mail = impossible state
served_by node state (Some row) [] = impossible state
served_by node state (Some row) (front ∷ rest) = served_front node state row front rest

unfoldable pub served : NodeId → State → Outcome
served node state = served_by node state (row_at node.0 state.rows) (state.mail node.0)
