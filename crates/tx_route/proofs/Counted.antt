-- Which numbers stand in parts of a list of rows.
use Rattle.std.proofs.Common.{◌≡◌, ℕ, ◌+◌, ◌<◌, ◌≤◌, ◌⊎◌, ◌==◌, Bool, true, cond, List, [], ◌∷◌, Option, Some, None, is_some, drop, refl, sym, ap, ◌∙◌, arith, inl, inr}
use Rattle.std.specs.Prelude.{filter, unwrap_or, option_and_then}
use Rattle.std.proofs.lemmas.Bool.{cases_Bool, eq-eqb, eqb-true}
use Rattle.tx_select.specs.Match.{last_row}
use Rattle.tx_tree.specs.Row.{number, has_number}
use Rattle.tx_tree.specs.Rows.{row_at, before_of, from_of, first_row, last_above, parent_of, count_of}
use Rattle.tx_tree.specs.declared.row.NodeId.{NodeId}
use Rattle.tx_tree.specs.declared.row.Row.{Row}

-- a row stands at its own number
pub own-number : (row : Row) → has_number (number row) row ≡ true
own-number row = eq-eqb row.node.0 row.node.0 refl

pub head-counted : (row : Row) (rows : List Row) → 0 < count_of (number row) (row ∷ rows)
head-counted row rows = let own = own-number row in rw own (omega arith)

pub tail-counted : (n : ℕ) (row : Row) (rows : List Row) → 0 < count_of n rows → 0 < count_of n (row ∷ rows)
tail-counted n row rows some = omega (arith, some)

-- a number that stands in the rows has a row there
pub counted-there : (n : ℕ) (rows : List Row) → 0 < count_of n rows → is_some (row_at n rows) ≡ true
counted-there n [] some = absurd (omega (arith, some))
counted-there n (row ∷ rows) some = elim (cases_Bool (has_number n row)) [
  | inl same ↦ rw same refl
  | inr other ↦ let rest = rw other at some in rw other (counted-there n rows (omega (arith, rest)))
]

pub there-counted : (n : ℕ) (rows : List Row) (row : Row) → row_at n rows ≡ Some row → 0 < count_of n rows
there-counted n [] row is = cc
there-counted n (first ∷ rows) row is = elim (cases_Bool (has_number n first)) [
  | inl same ↦ rw same (omega arith)
  | inr other ↦ let was = rw other at is in tail-counted n first rows (there-counted n rows row was)
]

pub not-there : (n : ℕ) (rows : List Row) → row_at n rows ≡ None → count_of n rows ≡ 0
not-there n [] none = refl
not-there n (row ∷ rows) none = elim (cases_Bool (has_number n row)) [
  | inl same ↦ let was = rw same at none in cc
  | inr other ↦ let was = rw other at none in rw other (omega (arith, not-there n rows was))
]

-- a row that is found by a number has it
pub row-number : (n : ℕ) (rows : List Row) (row : Row) → row_at n rows ≡ Some row → number row ≡ n
row-number n [] row is = cc
row-number n (first ∷ rows) row is = elim (cases_Bool (has_number n first)) [
  | inl same ↦
      let was = rw same at is in
      let e : first ≡ row = ap (λ (o : Option Row). unwrap_or o first) was in
      ap number (sym e) ∙ eqb-true first.node.0 n same
  | inr other ↦ let was = rw other at is in row-number n rows row was
]

pub row-node : (node : NodeId) (rows : List Row) (row : Row) → row_at node.0 rows ≡ Some row → row.node ≡ node
row-node node rows row is = ap (λ (k : ℕ). let made : NodeId = record { 0 = k } in made) (row-number node.0 rows row is)

-- parts of a list have fewer
pub count-before : (n m : ℕ) (rows : List Row) → count_of n (before_of m rows) ≤ count_of n rows
count-before n m [] = omega arith
count-before n m (row ∷ rows) = elim (cases_Bool (has_number m row)) [
  | inl same ↦ rw same (omega arith)
  | inr other ↦ rw other (omega (arith, count-before n m rows))
]

pub count-from : (n m : ℕ) (rows : List Row) → count_of n (from_of m rows) ≤ count_of n rows
count-from n m [] = omega arith
count-from n m (row ∷ rows) = elim (cases_Bool (has_number m row)) [
  | inl same ↦ rw same (omega arith)
  | inr other ↦ rw other (omega (arith, count-from n m rows))
]

pub count-behind : (n : ℕ) (rows : List Row) → count_of n (drop 1 rows) ≤ count_of n rows
count-behind n [] = omega arith
count-behind n (row ∷ rows) = omega arith

pub count-filter : (test : Row → Bool) (n : ℕ) (rows : List Row) → count_of n (filter test rows) ≤ count_of n rows
count-filter test n [] = omega arith
count-filter test n (row ∷ rows) = elim (cases_Bool (test row)) [
  | inl passes ↦ rw passes (omega (arith, count-filter test n rows))
  | inr fails ↦ rw fails (omega (arith, count-filter test n rows))
]

-- ends of a list stand in it
pub first-counted : (rows : List Row) (row : Row) → first_row rows ≡ Some row → 0 < count_of (number row) rows
first-counted [] row is = cc
first-counted (first ∷ rows) row is =
    let e : first ≡ row = ap (λ (o : Option Row). unwrap_or o first) is in
    let own : has_number (number row) first ≡ true = eq-eqb _ _ (ap number e) in
    rw own (omega arith)

pub last-counted : (rows : List Row) (row : Row) → last_row rows ≡ Some row → 0 < count_of (number row) rows
last-counted [] row is = cc
last-counted (first ∷ []) row is =
    let e : first ≡ row = ap (λ (o : Option Row). unwrap_or o first) is in
    let own : has_number (number row) first ≡ true = eq-eqb _ _ (ap number e) in
    rw own (omega arith)
last-counted (first ∷ next ∷ rows) row is = tail-counted (number row) first (next ∷ rows) (last-counted (next ∷ rows) row is)

-- a parent stands before its child
above-counted : (depth : ℕ) (found : Option Row) (rows : List Row) (row : Row) → last_above depth found rows ≡ Some row
    → (found ≡ Some row) ⊎ (0 < count_of (number row) rows)
above-counted depth found [] row is = inl is
above-counted depth found (first ∷ rows) row is =
    elim (above-counted depth (cond (first.depth + 1 == depth) (Some first) found) rows row is) [
      | inl here ↦ elim (cases_Bool (first.depth + 1 == depth)) [
        | inl deep ↦
            let was = rw deep at here in
            inr (first-counted (first ∷ rows) row was)
        | inr other ↦ let was = rw other at here in inl was
      ]
      | inr more ↦ inr (tail-counted (number row) first rows more)
    ]

pub parent-counted : (n : ℕ) (rows : List Row) (parent : Row) → parent_of n rows ≡ Some parent → 0 < count_of (number parent) (before_of n rows)
parent-counted n rows parent is = by (row_at n rows) is
  where
    by : (at : Option Row) → option_and_then (λ row. last_above row.depth None (before_of n rows)) at ≡ Some parent → 0 < count_of (number parent) (before_of n rows)
    by None none = cc
    by (Some row) some = elim (above-counted row.depth None (before_of n rows) parent some) [
      | inl none ↦ cc
      | inr more ↦ more
    ]
