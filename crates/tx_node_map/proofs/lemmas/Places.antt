-- What a map holds once a place was added or written.
use Rattle.std.proofs.Common.{◌≡◌, ℕ, zero, suc, ◌+◌, ◌<◌, ◌≤◌, ◌==◌, List, [], ◌∷◌, ◌++◌, length, Option, Some, None, cond, refl, slice_set, arith}
use Rattle.std.proofs.Math.Dec.{eqb-suc-zero, eqb-zero-suc, eqb-suc-suc}
use Rattle.tx_node_map.specs.Held.{held, with_at}

-- an empty place at the end holds nothing
held_grown_at : {V : Type 0} (places : List (Option V)) (n : ℕ) → held (places ++ (None ∷ [])) n ≡ held places n
held_grown_at [] zero = refl
held_grown_at [] (suc n) = refl
held_grown_at (place ∷ places) zero = refl
held_grown_at (place ∷ places) (suc n) = held_grown_at places n

pub held_grown : {V : Type 0} (places : List (Option V)) → held (places ++ (None ∷ [])) ≡ held places
held_grown places = λ i n. held_grown_at places n i

-- where a place is written, that number holds what was written, and the others what they held
held_set_at : {V : Type 0} (places : List (Option V)) (k : ℕ) (value : Option V) → k < length places → (n : ℕ) → held (slice_set places k value) n ≡ with_at (held places) k value n
held_set_at [] k value within n = absurd (omega arith)
held_set_at (place ∷ places) zero value within zero = refl
held_set_at (place ∷ places) zero value within (suc n) = rw (eqb-suc-zero n) refl
held_set_at (place ∷ places) (suc k) value within zero = rw (eqb-zero-suc k) refl
held_set_at (place ∷ places) (suc k) value within (suc n) = rw (eqb-suc-suc n k) (held_set_at places k value (omega arith) n)

pub held_set : {V : Type 0} (places : List (Option V)) (k : ℕ) (value : Option V) → k < length places → held (slice_set places k value) ≡ with_at (held places) k value
held_set places k value within = λ i n. held_set_at places k value within n i

-- where a number has no place, nothing there is as it was
held_none_at : {V : Type 0} (places : List (Option V)) (k : ℕ) → length places ≤ k → (n : ℕ) → held places n ≡ with_at (held places) k None n
held_none_at [] zero beyond zero = refl
held_none_at [] zero beyond (suc n) = rw (eqb-suc-zero n) refl
held_none_at [] (suc k) beyond zero = rw (eqb-zero-suc k) refl
held_none_at {V = V} [] (suc k) beyond (suc n) = rw (eqb-suc-suc n k) (held_none_at {V = V} [] k (omega arith) n)
held_none_at (place ∷ places) zero beyond n = absurd (omega arith)
held_none_at (place ∷ places) (suc k) beyond zero = rw (eqb-zero-suc k) refl
held_none_at (place ∷ places) (suc k) beyond (suc n) = rw (eqb-suc-suc n k) (held_none_at places k (omega arith) n)

pub held_none : {V : Type 0} (places : List (Option V)) (k : ℕ) → length places ≤ k → held places ≡ with_at (held places) k None
held_none places k beyond = λ i n. held_none_at places k beyond n i
