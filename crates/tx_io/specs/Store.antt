-- What files hold, and what a load of one of them answers.
use Rattle.std.specs.Prelude.{◌≡◌, ◌≤◌, ◌<◌, ℕ, List, [], ◌∷◌, length, if◌then◌else◌, None, Some, Ok, Err, Option, Result, Vec, bytes_eq}
use Rattle.std.specs.declared.alloc.Global.{Global}
use Rattle.tx_io.specs.declared.files.LoadFault.{LoadFault}
use Rattle.tx_io.specs.declared.files.LoadFault.TheVariants.{Failed, TooLong, NoMemory}

-- What a load answered: the bytes of the file, or why there are none.
abbrev pub Answer : Type 0
Answer = Result (List ℕ) LoadFault

abbrev pub answer_of : Result (Vec ℕ Global) LoadFault → Answer
answer_of (Ok bytes) = Ok bytes.items
answer_of (Err fault) = Err fault

-- What a load may answer for a file with this content, or for a name without a file: the whole
-- content where it is at most the limit, `TooLong` where it is longer, `Failed` or `NoMemory`.
-- Without a file it fails, or memory is wanting.
abbrev pub LoadGives : Option (List ℕ) → ℕ → Answer → Type 0
LoadGives (Some content) limit (Ok bytes) = (bytes ≡ content) × (length content ≤ limit)
LoadGives (Some content) limit (Err TooLong) = limit < length content
LoadGives None limit (Ok bytes) = ⊥
LoadGives None limit (Err TooLong) = ⊥
LoadGives content limit (Err Failed) = Unit {0}
LoadGives content limit (Err NoMemory) = Unit {0}

-- How many failures an answer counts for.
abbrev pub failures_of : Answer → ℕ
failures_of (Ok bytes) = 0
failures_of (Err Failed) = 1
failures_of (Err TooLong) = 0
failures_of (Err NoMemory) = 0

-- What stands under a name. Of several entries of one name the first counts.
abbrev pub look_up : List (List ℕ × List ℕ) → List ℕ → Option (List ℕ)
look_up [] name = None
look_up (entry ∷ entries) name = if bytes_eq entry.0 name then Some entry.1 else look_up entries name
