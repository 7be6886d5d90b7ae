-- What an event comes to.
use Rattle.std.specs.Prelude.{ℕ, List, []}
use Rattle.tx_core.specs.State.{State}
use Rattle.tx_core.specs.declared.entry.Entry.{Entry}

-- the entries that it adds to the journal, the state after it, and the bytes that the sink took
pub record Outcome : Type 0 where
  pub entries : List Entry
  pub state : State
  pub bytes : List ℕ

-- it can't happen: it adds no entry
abbrev pub impossible : State → Outcome
impossible state = record { entries = []; state = state; bytes = [] }

-- it happens, and nothing is sent
abbrev pub happened : List Entry → State → Outcome
happened entries state = record { entries = entries; state = state; bytes = [] }
