-- What holds of every history.
use Rattle.std.specs.Prelude.{◌≡◌, ℕ, Bool, true, false, List, [], ◌∷◌, ◌++◌, Option, if◌then◌else◌}
use Rattle.tx_geom.specs.declared.places.Size.{Size}
use Rattle.tx_parse.specs.Values.{SheetValue}
use Rattle.tx_tree.specs.TreeValue.{TreeValue}
use Rattle.tx_core.specs.History.{Event, Refreshes, Legal, behind, is_paced, is_refresh, run, step}
use Rattle.tx_core.specs.Opening.{opened}
use Rattle.tx_core.specs.Order.{CountsOn, arrivals}
use Rattle.tx_core.specs.State.{State}
use Rattle.tx_core.specs.Waiting.{is_quiet}
use Rattle.tx_core.specs.declared.entry.Entry.{Entry}

-- Events that follow others go on from the state that those leave.
abbrev pub EventsFollow : Type 0
EventsFollow = (state : State) (first second : List Event) → run state (first ++ second) ≡ behind (run state first) (run (run state first).state second)

-- From the opening on the inputs of each sender are numbered 1, 2, 3 and so on.
abbrev pub ArrivalsAreNumbered : Type 0
ArrivalsAreNumbered =
    (tree : TreeValue) (sheet : SheetValue) (size : Size) (senders : ℕ) (journal : List Entry) (state : State) (bytes : List ℕ)
    → Legal (opened tree sheet size senders) journal state bytes → (sender : ℕ) → CountsOn 1 (arrivals sender journal) (state.next_input sender)

-- Paced events that aren't empty, one more event that isn't a refresh, and a refresh exactly where nothing waits then: these are paced.
abbrev pub PacedGoesOn : Type 0
PacedGoesOn =
    (opening : State) (first : Event) (events : List Event) (event : Event) (wanting : Bool) (fails : Option ℕ)
    → is_paced opening (first ∷ events) ≡ true → is_refresh event ≡ false
    → is_paced opening ((first ∷ events) ++ (event ∷ (if is_quiet (step (run opening (first ∷ events)).state event).state then Refreshes wanting fails ∷ [] else []))) ≡ true
