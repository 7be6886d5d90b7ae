-- What a call answers, said once for all calls.
use Rattle.std.specs.Prelude.{◌≡◌, Option, Some, None, Result, Ok, Err}

-- A refusal tells what is meant, where it tells something. Want of memory tells nothing.
abbrev pub Tells : {A K : Type 0} → Option K → Result A K → Type 0
Tells None meant = Unit {0}
Tells (Some kind) meant = meant ≡ Err kind

-- What a call returned, seen so, is what is meant, unless memory was wanting. `told` says what a fault tells, and is
-- None for out of memory alone.
abbrev pub Gives : {R E A K : Type 0} → (R → A) → (E → Option K) → Result R E → Result A K → Type 0
Gives view told (Ok value) meant = meant ≡ Ok (view value)
Gives view told (Err fault) meant = Tells (told fault) meant

-- The same of a call that takes no memory: it never wants it.
abbrev pub GivesAtOnce : {R E A K : Type 0} → (R → A) → (E → K) → Result R E → Result A K → Type 0
GivesAtOnce view told (Ok value) meant = meant ≡ Ok (view value)
GivesAtOnce view told (Err fault) meant = meant ≡ Err (told fault)

-- The same of a call whose only fault is out of memory: the value, seen so, is what is meant.
abbrev pub GivesValue : {R E A : Type 0} → (R → A) → Result R E → A → Type 0
GivesValue view (Ok value) meant = meant ≡ view value
GivesValue view (Err fault) meant = Unit {0}

-- a value that there may be, or the refusal where there is none
abbrev pub or_refused : {A K : Type 0} → K → Option A → Result A K
or_refused kind (Some value) = Ok value
or_refused kind None = Err kind
