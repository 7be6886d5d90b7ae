-- Histories: what events come to, one after another, which journals are legal, and which are paced.
use Rattle.std.specs.Prelude.{◌≡◌, ℕ, ◌&&◌, Bool, true, false, not, List, [], ◌∷◌, ◌++◌, Option, Some, None}
use Rattle.std.specs.Bool.{beq}
use Rattle.tx_route.specs.declared.input.Input.{Input}
use Rattle.tx_tree.specs.declared.row.NodeId.{NodeId}
use Rattle.tx_core.specs.Arrive.{arrived}
use Rattle.tx_core.specs.Outcome.{Outcome, impossible}
use Rattle.tx_core.specs.Refresh.{refreshed}
use Rattle.tx_core.specs.Serve.{served}
use Rattle.tx_core.specs.State.{State}
use Rattle.tx_core.specs.Waiting.{is_quiet}
use Rattle.tx_core.specs.declared.entry.Entry.{Entry}
use Rattle.tx_core.specs.declared.entry.Entry.TheVariants.{Arrive, Missed, Dropped, Serve, Refresh}
use Rattle.tx_core.specs.declared.entry.Refreshed.{Refreshed}
use Rattle.tx_core.specs.declared.entry.Refreshed.TheVariants.{Accepted, Fraction, SinkFault, NoMemory}

-- ---- events

-- What is free in an event: who sends which input; which node is served; of a refresh whether memory runs out, and after how many bytes the
-- sink fails, if it does. All else follows.
pub data Event : Type 0 where
  Arrives : (sender : ℕ) → (input : Input) → Event
  Serves : (node : NodeId) → Event
  Refreshes : (wanting : Bool) → (fails : Option ℕ) → Event

-- what an event comes to
abbrev pub step : State → Event → Outcome
step state (Arrives sender input) = arrived sender input state
step state (Serves node) = served node state
step state (Refreshes wanting fails) = refreshed wanting fails state

-- the same after what came before it
abbrev pub behind : Outcome → Outcome → Outcome
behind first second = record { entries = first.entries ++ second.entries; state = second.state; bytes = first.bytes ++ second.bytes }

-- what events come to, one after another
abbrev pub run : State → List Event → Outcome
run state [] = impossible state
run state (event ∷ events) = behind (step state event) (run (step state event).state events)

-- ---- legal journals

-- the refresh that ended so, after so many bytes
abbrev pub refresh_of : Refreshed → ℕ → Event
refresh_of Accepted sent = Refreshes false None
refresh_of (Fraction node axis) sent = Refreshes false None
refresh_of SinkFault sent = Refreshes false (Some sent)
refresh_of NoMemory sent = Refreshes true None

-- the events that a journal records
abbrev pub events_of : List Entry → List Event
events_of [] = []
events_of (Arrive sender number input ∷ entries) = Arrives sender input ∷ events_of entries
events_of (Missed sender number why ∷ entries) = events_of entries
events_of (Dropped node message ∷ entries) = events_of entries
events_of (Serve node message effects stopped ∷ entries) = Serves node ∷ events_of entries
events_of (Refresh result sent faults ∷ entries) = refresh_of result sent ∷ events_of entries

-- A journal is legal from an opening state where the events that it records come to it, entry by entry. It leads to a state, and these bytes
-- were sent.
pub record Legal (opening : State) (journal : List Entry) (state : State) (bytes : List ℕ) : Type 0 where
  pub is : run opening (events_of journal) ≡ record { entries = journal; state = state; bytes = bytes }

-- ---- pace

abbrev pub is_refresh : Event → Bool
is_refresh (Refreshes wanting fails) = true
is_refresh _ = false

-- whether a refresh is due after an event: one that isn't a refresh and leaves all mailboxes empty
abbrev pub is_due_after : Event → State → Bool
is_due_after event after = not (is_refresh event) && is_quiet after

-- whether from a state on a refresh stands where one is due and nowhere else. At the end none may be due.
abbrev pub keeps_pace : Bool → State → List Event → Bool
keeps_pace due state [] = not due
keeps_pace due state (event ∷ events) =
    beq (is_refresh event) due && keeps_pace (is_due_after event (step state event).state) (step state event).state events

-- Events are paced from an opening state where there are none, or where the first one is a refresh, and after that a refresh stands directly after
-- each other event that leaves all mailboxes empty, and nowhere else.
abbrev pub is_paced : State → List Event → Bool
is_paced opening [] = true
is_paced opening (event ∷ events) = keeps_pace true opening (event ∷ events)

-- So is the journal that records them. It is meant of legal journals, whose events all happen.
abbrev pub Paced : State → List Entry → Type 0
Paced opening journal = is_paced opening (events_of journal) ≡ true
