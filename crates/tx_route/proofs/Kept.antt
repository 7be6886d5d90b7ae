-- Lists of the rows that pass a test, cut at the row with a number.
use Rattle.std.proofs.Common.{◌≡◌, ℕ, ◌<◌, ◌≤◌, Bool, true, false, List, [], ◌∷◌, ◌++◌, None, refl, ap, arith, inl, inr}
use Rattle.std.specs.Prelude.{filter, find}
use Rattle.std.specs.Option.{option_map_or}
use Rattle.std.proofs.lemmas.Bool.{cases_Bool}
use Rattle.tx_select.specs.Match.{last_row}
use Rattle.tx_tree.specs.Row.{has_number}
use Rattle.tx_tree.specs.Rows.{row_at, before_of, from_of, first_row, count_of}
use Rattle.tx_tree.specs.declared.row.Row.{Row}
use Rattle.tx_route.proofs.Counted.{count-filter}

-- a list is its two parts
pub split : (n : ℕ) (rows : List Row) → before_of n rows ++ from_of n rows ≡ rows
split n [] = refl
split n (row ∷ rows) = elim (cases_Bool (has_number n row)) [
  | inl same ↦ rw same refl
  | inr other ↦ rw other (ap (λ (rs : List Row). row ∷ rs) (split n rows))
]

-- without the number all rows are before it, and none is from it on
pub before-none : (n : ℕ) (rows : List Row) → count_of n rows ≡ 0 → before_of n rows ≡ rows
before-none n [] none = refl
before-none n (row ∷ rows) none = elim (cases_Bool (has_number n row)) [
  | inl same ↦ let was = rw same at none in absurd (omega (arith, was))
  | inr other ↦ let was = rw other at none in rw other (ap (λ (rs : List Row). row ∷ rs) (before-none n rows (omega (arith, was))))
]

pub from-none : (n : ℕ) (rows : List Row) → count_of n rows ≡ 0 → from_of n rows ≡ []
from-none n [] none = refl
from-none n (row ∷ rows) none = elim (cases_Bool (has_number n row)) [
  | inl same ↦ let was = rw same at none in absurd (omega (arith, was))
  | inr other ↦ let was = rw other at none in rw other (from-none n rows (omega (arith, was)))
]

module _ (test : Row → Bool) where
  pub filter-append : (xs ys : List Row) → filter test (xs ++ ys) ≡ filter test xs ++ filter test ys
  filter-append [] ys = refl
  filter-append (row ∷ xs) ys = elim (cases_Bool (test row)) [
    | inl passes ↦ rw passes (ap (λ (rs : List Row). row ∷ rs) (filter-append xs ys))
    | inr fails ↦ rw fails (filter-append xs ys)
  ]

  -- the first that passes
  pub first-kept : (rows : List Row) → find test rows ≡ first_row (filter test rows)
  first-kept [] = refl
  first-kept (row ∷ rows) = elim (cases_Bool (test row)) [
    | inl passes ↦ rw passes refl
    | inr fails ↦ rw fails (first-kept rows)
  ]

  -- rows that pass are cut where all are, at a row that passes
  pub from-kept : (n : ℕ) (rows : List Row) → option_map_or test (row_at n rows) false ≡ true → from_of n (filter test rows) ≡ filter test (from_of n rows)
  from-kept n [] passes = refl
  from-kept n (row ∷ rows) passes = elim (cases_Bool (has_number n row)) [
    | inl same ↦
        let own = rw same at passes in
        rw (own, same, own) refl
    | inr other ↦
        let rest = rw other at passes in
        elim (cases_Bool (test row)) [
          | inl kept ↦ rw (kept, other) (from-kept n rows rest)
          | inr dropped ↦ rw (dropped, other) (from-kept n rows rest)
        ]
  ]

  pub before-kept : (n : ℕ) (rows : List Row) → option_map_or test (row_at n rows) false ≡ true → before_of n (filter test rows) ≡ filter test (before_of n rows)
  before-kept n [] passes = refl
  before-kept n (row ∷ rows) passes = elim (cases_Bool (has_number n row)) [
    | inl same ↦
        let own = rw same at passes in
        rw (own, same) refl
    | inr other ↦
        let rest = rw other at passes in
        elim (cases_Bool (test row)) [
          | inl kept ↦ rw (kept, other, kept) (ap (λ (rs : List Row). row ∷ rs) (before-kept n rows rest))
          | inr dropped ↦ rw (dropped, other, dropped) (before-kept n rows rest)
        ]
  ]

  -- a row that doesn't pass isn't kept
  pub dropped-out : (n : ℕ) (rows : List Row) → count_of n rows ≤ 1 → option_map_or test (row_at n rows) false ≡ false → count_of n (filter test rows) ≡ 0
  dropped-out n [] once fails = refl
  dropped-out n (row ∷ rows) once fails = elim (cases_Bool (has_number n row)) [
    | inl same ↦
        let own = rw same at fails in
        let one = rw same at once in
        rw own (omega (arith, one, count-filter test n rows))
    | inr other ↦
        let rest = rw other at fails in
        let less = rw other at once in
        elim (cases_Bool (test row)) [
          | inl kept ↦ rw (kept, other) (omega (arith, dropped-out n rows (omega (arith, less)) rest))
          | inr dropped ↦ rw dropped (dropped-out n rows (omega (arith, less)) rest)
        ]
  ]

  -- a number that stands among the rows that pass is that of one that does
  pub kept-in : (n : ℕ) (rows : List Row) → count_of n rows ≤ 1 → 0 < count_of n (filter test rows) → option_map_or test (row_at n rows) false ≡ true
  kept-in n rows once some = elim (cases_Bool (option_map_or test (row_at n rows) false)) [
    | inl passes ↦ passes
    | inr fails ↦ absurd (omega (arith, some, dropped-out n rows once fails))
  ]

-- the last row of a list that ends in another one
pub last-append : (xs : List Row) (row : Row) (ys : List Row) → last_row (xs ++ (row ∷ ys)) ≡ last_row (row ∷ ys)
last-append [] row ys = refl
last-append (x ∷ []) row ys = refl
last-append (x ∷ next ∷ xs) row ys = last-append (next ∷ xs) row ys

pub last-none : (rows : List Row) → last_row rows ≡ None → rows ≡ []
last-none [] none = refl
last-none (row ∷ []) none = cc
last-none (row ∷ next ∷ rows) none = let was : next ∷ rows ≡ [] = last-none (next ∷ rows) none in cc

pub first-none : (rows : List Row) → first_row rows ≡ None → rows ≡ []
first-none [] none = refl
first-none (row ∷ rows) none = cc
