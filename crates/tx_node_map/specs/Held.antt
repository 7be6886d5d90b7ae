-- What a map by node holds, as a function of the node's number.
use Rattle.std.specs.Prelude.{ℕ, ◌==◌, ◌<◌, List, length, Option, None, slice_index_or, if◌then◌else◌}

-- what stands at each number
abbrev pub held : {V : Type 0} → List (Option V) → ℕ → Option V
held places n = slice_index_or places n None

-- nothing at any number
abbrev pub nothing : {V : Type 0} → ℕ → Option V
nothing n = None

-- the same with this at one number
abbrev pub with_at : {V : Type 0} → (ℕ → Option V) → ℕ → Option V → ℕ → Option V
with_at at n value m = if m == n then value else at m

-- a place was taken for this number
abbrev pub HasPlace : {V : Type 0} → List (Option V) → ℕ → Type 0
HasPlace places n = n < length places

-- each number that had a place has one
abbrev pub KeepsPlaces : {V : Type 0} → List (Option V) → List (Option V) → Type 0
KeepsPlaces old new = (n : ℕ) → HasPlace old n → HasPlace new n
