-- What an application has between two events.
use Rattle.std.specs.Prelude.{ℕ, ◌==◌, Bool, List, [], Option, if◌then◌else◌}
use Rattle.std.specs.Option.{option_and_then, option_map_or}
use Rattle.tx_cell.specs.Grid.{GridValue}
use Rattle.tx_compose.specs.Frame.{no_frame}
use Rattle.tx_geom.specs.declared.places.Size.{Size}
use Rattle.tx_parse.specs.Values.{SheetValue}
use Rattle.tx_select.specs.declared.value.Pseudo.{Pseudo}
use Rattle.tx_tree.specs.TreeValue.{TreeValue}
use Rattle.tx_tree.specs.declared.row.NodeId.{NodeId}
use Rattle.tx_tree.specs.declared.row.Row.{Row}
use Rattle.tx_widgets.specs.Frame.{FrameValue}
use Rattle.tx_widgets.specs.declared.reactions.message.Message.{Message}
use Rattle.tx_core.specs.declared.entry.Sender.{Sender}

-- a message that waits in a mailbox
pub record Waiting : Type 0 where
  pub number : ℕ
  pub sender : Sender
  pub message : Message

-- what was handed in under a name: the numbers that its object holds as long as no node has it, and whether a node ever had it
pub record HandedIn : Type 0 where
  pub name : List ℕ
  pub numbers : List ℕ
  pub taken : Bool

-- what is kept of the last accepted refresh: its frame, and the viewports of the rows there
pub record Kept : Type 0 where
  pub frame : FrameValue
  pub viewport : NodeId → Option Size

-- The sheet in force; the rows of the tree and how many nodes were made; the focused and the pointed row and whether the theme is dark; by
-- the number of its node how far each row is scrolled, what waits in its mailbox, the oldest message first, and the numbers that its object
-- holds, if it has one; what was handed in; what is kept of the last accepted refresh, if there was one; the size of the screen, the cells
-- that are shown, and whether the next update is to be whole; the number of the next message, how many senders there are outside, and the
-- number of the next input of each.
pub record State : Type 0 where
  pub sheet : SheetValue
  pub rows : List Row
  pub made : ℕ
  pub pseudo : Pseudo
  pub scrolls : ℕ → ℕ × ℕ
  pub mail : ℕ → List Waiting
  pub objects : ℕ → Option (List ℕ)
  pub handed : List HandedIn
  pub kept : Option Kept
  pub size : Size
  pub shown : GridValue
  pub whole : Bool
  pub next_message : ℕ
  pub senders : ℕ
  pub next_input : ℕ → ℕ

-- the tree, where it counts not how much room its rows have
abbrev pub tree_of : State → TreeValue
tree_of state = record { rows = state.rows; made = state.made; spares = [] }

-- the frame of the last accepted refresh: where there was none, it shows nothing
abbrev pub frame_in : State → FrameValue
frame_in state = option_map_or (λ kept. kept.frame) state.kept no_frame

-- the room for the children of a row there
abbrev pub viewport_in : State → NodeId → Option Size
viewport_in state node = option_and_then (λ kept. kept.viewport node) state.kept

-- the same at all numbers but one
abbrev pub with_one : {A : Type 0} → (ℕ → A) → ℕ → A → ℕ → A
with_one at n value m = if m == n then value else at m

-- another row is focused, or none
abbrev pub with_focus : Option NodeId → State → State
with_focus node state = record state { pseudo = record state.pseudo { focused = node } }

-- another row is pointed at, or none
abbrev pub with_pointed : Option NodeId → State → State
with_pointed node state = record state { pseudo = record state.pseudo { pointed = node } }

-- the theme is dark, or light
abbrev pub with_dark : Bool → State → State
with_dark dark state = record state { pseudo = record state.pseudo { dark = dark } }

-- the rows are others
abbrev pub with_rows : List Row → State → State
with_rows rows state = record state { rows = rows }
