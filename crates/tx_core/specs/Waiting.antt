-- Mailboxes: how messages come in, and which rows have one to be served.
use Rattle.std.specs.Prelude.{ℕ, ◌+◌, Bool, true, false, nat_le, not, List, [], ◌∷◌, ◌++◌, Option, Some, None, find, option_map}
use Rattle.std.specs.List.{list_all}
use Rattle.tx_route.specs.Focus.{rows_behind}
use Rattle.tx_tree.specs.Row.{number}
use Rattle.tx_tree.specs.Rows.{parent_of}
use Rattle.tx_tree.specs.declared.row.NodeId.{NodeId}
use Rattle.tx_tree.specs.declared.row.Row.{Row}
use Rattle.tx_widgets.specs.declared.reactions.message.Message.{Message}
use Rattle.tx_core.specs.State.{State, Waiting, with_one}
use Rattle.tx_core.specs.declared.entry.Sender.{Sender}
use Rattle.tx_core.specs.declared.entry.Sender.TheVariants.{Node}

-- ---- puts

-- a message comes last in the mailbox of a node, and has the next number
abbrev pub put : NodeId → Sender → Message → State → State
put node sender message state = record state {
  mail = with_one state.mail node.0 (state.mail node.0 ++ record { number = state.next_message; sender = sender; message = message } ∷ []);
  next_message = state.next_message + 1;
}

-- a message of a row comes into the mailbox of its parent: at the Screen, which has none, it is put nowhere
abbrev pub put_at : NodeId → Message → Option Row → State → State
put_at node message None state = state
put_at node message (Some parent) state = put parent.node (Node node) message state

abbrev pub put_above : NodeId → Message → State → State
put_above node message state = put_at node message (parent_of node.0 state.rows) state

-- ---- what waits

-- whether messages wait
abbrev pub is_waiting : List Waiting → Bool
is_waiting [] = false
is_waiting (front ∷ rest) = true

-- whether one waits at a row
abbrev pub has_mail : State → Row → Bool
has_mail state row = is_waiting (state.mail (number row))

-- whether nothing waits anywhere
unfoldable pub is_quiet : State → Bool
is_quiet state = list_all (λ row. not (has_mail state row)) state.rows

-- the rows after a node in document order, or all of them
abbrev pub rows_after : Option NodeId → List Row → List Row
rows_after None rows = rows
rows_after (Some node) rows = rows_behind (Some node) rows

-- the first row with a message, after a node where one is given
unfoldable pub ready : State → Option NodeId → Option NodeId
ready state after = option_map (λ row. row.node) (find (has_mail state) (rows_after after state.rows))

-- whether the first message of a mailbox, if it has one, isn't older than a number
abbrev pub is_newer : ℕ → List Waiting → Bool
is_newer number [] = true
is_newer number (front ∷ rest) = nat_le number front.number

-- whether the first message of a mailbox is older than the first ones of all others
abbrev pub is_first : State → List Waiting → Bool
is_first state [] = false
is_first state (front ∷ rest) = list_all (λ row. is_newer front.number (state.mail (number row))) state.rows

-- the row whose first message has the least number
unfoldable pub oldest : State → Option NodeId
oldest state = option_map (λ row. row.node) (find (λ row. is_first state (state.mail (number row))) state.rows)
