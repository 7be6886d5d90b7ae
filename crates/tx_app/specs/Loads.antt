-- What the load of a file gives, and the cause of one that gives nothing.
use Rattle.std.specs.Prelude.{◌≡◌, ◌≤◌, ℕ, List, [], ◌∷◌, length, Result, Ok, Err, IfSome, Vec}
use Rattle.std.specs.declared.alloc.Global.{Global}
use Rattle.tx_io.specs.declared.files.LoadFault.{LoadFault}
use Rattle.tx_io.specs.declared.files.LoadFault.TheVariants.{Failed, TooLong as PastLimit, NoMemory as NoRoom}
use Rattle.tx_io.specs.Loading.{FilesSeen, load_of, after_loads}
use Rattle.tx_io.specs.Store.{Answer, LoadGives}
use Rattle.tx_app.specs.Openings.{Stops, ComesTo}
use Rattle.tx_app.specs.declared.causes.Cause.{Cause}
use Rattle.tx_app.specs.declared.causes.Cause.TheVariants.{Refused, ReadFault, NoMemory}
use Rattle.tx_app.specs.declared.causes.Refusal.TheVariants.{TooLong}

-- the most bytes of a tree file or a sheet: 4 MiB
abbrev pub file_limit : ℕ
file_limit = 4194304

-- why a load gave no bytes
abbrev pub load_cause : List ℕ → LoadFault → Cause
load_cause name Failed = ReadFault 1
load_cause name PastLimit = Refused name 0 0 TooLong
load_cause name NoRoom = NoMemory

-- the bytes that were loaded, or the cause, or that memory ran out for that
abbrev pub GivesLoaded : List ℕ → Answer → Result (Vec ℕ Global) Cause → Type 0
GivesLoaded name (Ok bytes) (Ok read) = (read.items ≡ bytes) × (length bytes ≤ file_limit)
GivesLoaded name (Ok bytes) (Err cause) = ⊥
GivesLoaded name (Err fault) (Ok read) = ⊥
GivesLoaded name (Err fault) (Err cause) = ComesTo (Stops (load_cause name fault)) (Stops cause)

-- a load, with the answer that it had
pub record Loads (before after : FilesSeen) (name : List ℕ) (result : Result (Vec ℕ Global) Cause) : Type 0 where
  pub answer : Answer
  pub of_files : IfSome before.contents (λ told. LoadGives (told name) file_limit answer)
  pub loads : after ≡ after_loads before (load_of name file_limit answer ∷ [])
  pub gives : GivesLoaded name answer result
