-- A name is found among those of its length.
use Rattle.std.proofs.Common.{◌≡◌, ℕ, zero, suc, ◌+◌, ◌≤◌, Bool, true, false, nat_eq, nat_lt, List, [], ◌∷◌, length, filter, slice_get, map, None, bytes_eq, refl, ap, arith}
use Rattle.std.specs.List.{list_all}
use Rattle.std.proofs.lemmas.Bool.{false_from_ne_true}
use Rattle.std.proofs.lemmas.Bool.Decides.{nat_tests}
use Rattle.std.proofs.lemmas.Slice.Eq.{bytes_eq-Decides}
use Rattle.tx_read.specs.Words.{entry}
use Rattle.tx_value.specs.Names.{entry_in, meaning_of, all_names}
use Rattle.tx_value.specs.declared.property.Named.{Named}
use Rattle.tx_value.specs.declared.tables.TheConstants.{NAMES}

-- the names of one length
abbrev pub of_length : {A : Type 0} → ℕ → List (List ℕ × A) → List (List ℕ × A)
of_length n rows = filter (λ row. nat_eq (length row.0) n) rows

-- those of each length from a number on
abbrev pub by_length : {A : Type 0} → ℕ → ℕ → List (List ℕ × A) → List (List (List ℕ × A))
by_length n zero rows = []
by_length {A = A} n (suc count) rows = of_length {A = A} n rows ∷ by_length {A = A} (n + 1) count rows

-- each name is shorter than this
abbrev pub all_below : {A : Type 0} → ℕ → List (List ℕ × A) → Bool
all_below n rows = list_all (λ row. nat_lt (length row.0) n) rows

-- names of two lengths differ
pub other_name : (xs ys : List ℕ) → (length xs ≡ length ys → ⊥) → bytes_eq xs ys ≡ false
other_name xs ys differs = false_from_ne_true _ (λ same. differs (ap length ((bytes_eq-Decides xs ys).0 same)))

pub in_length : {A : Type 0} → (n : ℕ) (rows : List (List ℕ × A)) (name : List ℕ) → length name ≡ n → entry (of_length n rows) name ≡ entry rows name
in_length n [] name long = refl
in_length {A = A} n (row ∷ rows) name long = grind (arith, nat_tests, other_name row.0 name, in_length {A = A} n rows name long)

pub too_long : {A : Type 0} → (n : ℕ) (rows : List (List ℕ × A)) (name : List ℕ) → all_below n rows ≡ true → n ≤ length name → entry rows name ≡ None
too_long n [] name all long = refl
too_long {A = A} n (row ∷ rows) name all long = grind (arith, nat_tests, other_name row.0 name, too_long {A = A} n rows name)

pub found_by_length : {A : Type 0} → (n count i : ℕ) (rows : List (List ℕ × A)) (name : List ℕ)
    → all_below (n + count) rows ≡ true → length name ≡ n + i → entry_in (slice_get (by_length n count rows) i) name ≡ entry rows name
found_by_length n zero i rows name all long = grind (arith, too_long n rows name)
found_by_length n (suc count) zero rows name all long = in_length n rows name (omega (arith, long))
found_by_length {A = A} n (suc count) (suc i) rows name all long = found_by_length {A = A} (n + 1) count i rows name (rw (let h : n + 1 + count ≡ n + suc count = omega arith in h) all) (omega (arith, long))

-- the code's tables
abbrev pub tables : List (List (List ℕ × Named))
tables = map (λ table. map (λ row. (row.0.now, row.1)) table.now) NAMES

tables_by_length : tables ≡ by_length 0 25 all_names
unfolding all_names
tables_by_length = refl

pub named : (name : List ℕ) → entry_in (slice_get tables (length name)) name ≡ meaning_of name
unfolding all_names
named name = rw tables_by_length (found_by_length 0 25 (length name) all_names name refl (omega arith))
