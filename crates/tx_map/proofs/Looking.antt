-- Entries that are looked up by their node.
use Rattle.std.proofs.Common.{◌≡◌, ℕ, suc, ◌+◌, ◌<◌, ◌≤◌, Bool, true, false, cond, List, [], ◌∷◌, length, drop, get_or, Option, Some, None, ◌∙◌, refl, sym, ap, drop-cons, arith}
use Rattle.std.proofs.Math.ListN.{drop_of_length-le}
use Rattle.std.specs.Prelude.{◌==◌, option_map, option_and_then, slice_get, find}
use Rattle.std.specs.List.{position_from}
use Rattle.tx_map.specs.Lookup.{AreFound, entry_of, is_of}
use Rattle.tx_map.specs.declared.entry.Entry.{Entry}
use Rattle.tx_node_map.specs.Held.{nothing, with_at}

-- a place that is counted from a later number on
later_at : (i : ℕ) (first later : Option ℕ) → later ≡ option_map suc first → (b : Bool) → cond b (Some (i + 1)) later ≡ option_map suc (cond b (Some i) first)
later_at i first later is true = ap (λ n. Some n) (let e : i + 1 ≡ suc i = omega arith in e)
later_at i first later is false = is

later_by : {X : Type 0} (t : X → Bool) (i : ℕ) (xs : List X) → position_from t (i + 1) xs ≡ option_map suc (position_from t i xs)
later_by t i [] = refl
later_by t i (x ∷ xs) = later_at i (position_from t (i + 1) xs) (position_from t (i + 1 + 1) xs) (later_by t (i + 1) xs) (t x)

found_behind : {X : Type 0} (x : X) (xs : List X) (place : Option ℕ) → option_and_then (slice_get (x ∷ xs)) (option_map suc place) ≡ option_and_then (slice_get xs) place
found_behind x xs None = refl
found_behind x xs (Some n) = refl

found_at : {X : Type 0} (x : X) (xs : List X) (place : Option ℕ) (first : Option X) → option_and_then (slice_get (x ∷ xs)) place ≡ first
    → (b : Bool) → option_and_then (slice_get (x ∷ xs)) (cond b (Some 0) place) ≡ cond b (Some x) first
found_at x xs place first is true = refl
found_at x xs place first is false = is

-- what stands at the first place at which a test passes is the first one that passes it
pub found_there : {X : Type 0} (t : X → Bool) (xs : List X) → option_and_then (slice_get xs) (position_from t 0 xs) ≡ find t xs
found_there t [] = refl
found_there t (x ∷ xs) = found_at x xs _ (find t xs) (ap (option_and_then (slice_get (x ∷ xs))) (later_by t 0 xs) ∙ found_behind x xs (position_from t 0 xs) ∙ found_there t xs) (t x)

-- ---- where entries stand

pub found_none : (places : ℕ → Option ℕ) (entries : List Entry) (at : ℕ) → places ≡ nothing → length entries ≤ at → AreFound places at (drop at entries)
found_none places entries at none h = λ n. ap (λ (p : ℕ → Option ℕ). p n) none ∙ ap (position_from (is_of n) at) (sym (drop_of_length-le entries h))

-- with one entry more in front
pub found_next : (old new : ℕ → Option ℕ) (entries : List Entry) (i at : ℕ) (entry : Entry) → at ≡ i + 1 → i < length entries → entry ≡ get_or entries i entry
    → new ≡ with_at old entry.node.0 (Some i) → AreFound old at (drop at entries) → AreFound new i (drop i entries)
found_next old new entries i at entry step h here set found = λ n.
    let next : suc i ≡ at = omega (arith, step) in
    let front : drop i entries ≡ entry ∷ drop at entries = drop-cons entries i entry h ∙ ap (λ (e : Entry). e ∷ drop (suc i) entries) (sym here) ∙ ap (λ k. entry ∷ drop k entries) next in
    ap (λ (p : ℕ → Option ℕ). p n) set
    ∙ ap (λ (o : Option ℕ). cond (n == entry.node.0) (Some i) o) (found n ∙ ap (λ k. position_from (is_of n) k (drop at entries)) step)
    ∙ ap (position_from (is_of n) i) (sym front)

pub looked_up : (places : ℕ → Option ℕ) (entries : List Entry) (n at : ℕ) → AreFound places 0 entries → Some at ≡ places n → slice_get entries at ≡ entry_of n entries
looked_up places entries n at found is = ap (option_and_then (slice_get entries)) (is ∙ found n) ∙ found_there (is_of n) entries

pub not_there : (places : ℕ → Option ℕ) (entries : List Entry) (n : ℕ) → AreFound places 0 entries → None ≡ places n → None ≡ entry_of n entries
not_there places entries n found is = ap (option_and_then (slice_get entries)) (is ∙ found n) ∙ found_there (is_of n) entries
