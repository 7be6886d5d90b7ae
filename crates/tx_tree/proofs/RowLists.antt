-- Lists of rows, cut at the row with a number.
use Rattle.std.proofs.Common.{◌≡◌, ℕ, ◌+◌, ◌<◌, ◌≤◌, Bool, true, false, cond, nat_lt, List, [], ◌∷◌, ◌++◌, Some, refl, ap, ◌∙◌, arith, append-nil}
use Rattle.std.proofs.lemmas.Bool.{eq-eqb, lt-ltb}
use Rattle.tx_tree.proofs.Counting.{none-head, none-tail}
use Rattle.tx_tree.proofs.lemmas.NumbersAndIds.{count_of-append, row_at-skip}
use Rattle.tx_tree.specs.Row.{has_number}
use Rattle.tx_tree.specs.Rows.{row_at, before_of, from_of, deeper, past, subtree_of, after_of, count_of}
use Rattle.tx_tree.specs.declared.row.Row.{Row}

-- rows without the number are passed over
pub before_of-skip : (n : ℕ) (xs ys : List Row) → count_of n xs ≡ 0 → before_of n (xs ++ ys) ≡ xs ++ before_of n ys
before_of-skip n [] ys h = refl
before_of-skip n (row ∷ xs) ys h =
    let test : has_number n row ≡ false = none-head _ _ h in
    rw test (ap (λ (z : List Row). row ∷ z) (before_of-skip n xs ys (none-tail _ _ h)))

pub from_of-skip : (n : ℕ) (xs ys : List Row) → count_of n xs ≡ 0 → from_of n (xs ++ ys) ≡ from_of n ys
from_of-skip n [] ys h = refl
from_of-skip n (row ∷ xs) ys h =
    let test : has_number n row ≡ false = none-head _ _ h in
    rw test (from_of-skip n xs ys (none-tail _ _ h))

-- all rows are deeper than a depth
abbrev pub AllDeeper : ℕ → List Row → Type 0
AllDeeper depth [] = Unit {0}
AllDeeper depth (row ∷ rows) = (depth < row.depth) × AllDeeper depth rows

pub AllDeeper-append : (depth : ℕ) (xs ys : List Row) → AllDeeper depth xs → AllDeeper depth ys → AllDeeper depth (xs ++ ys)
AllDeeper-append depth [] ys h k = k
AllDeeper-append depth (row ∷ xs) ys h k = (h.0, AllDeeper-append depth xs ys h.1 k)

pub AllDeeper-less : (less depth : ℕ) (xs : List Row) → less ≤ depth → AllDeeper depth xs → AllDeeper less xs
AllDeeper-less less depth [] le h = tt
AllDeeper-less less depth (row ∷ xs) le h = (omega (arith, h.0), AllDeeper-less less depth xs le h.1)

-- the deeper rows at the front, and what is past them
pub deeper-append : (depth : ℕ) (xs ys : List Row) → AllDeeper depth xs → deeper depth ys ≡ [] → deeper depth (xs ++ ys) ≡ xs
deeper-append depth [] ys h end = end
deeper-append depth (row ∷ xs) ys h end =
    let test : nat_lt depth row.depth ≡ true = lt-ltb _ _ h.0 in
    rw test (ap (λ (z : List Row). row ∷ z) (deeper-append depth xs ys h.1 end))

-- no row is deeper, so all are past
past-none : (depth : ℕ) (b : Bool) (row : Row) (rows : List Row) (zs : List Row)
    → cond b (row ∷ deeper depth rows) [] ≡ [] → cond b zs (row ∷ rows) ≡ row ∷ rows
past-none depth true row rows zs h = cc
past-none depth false row rows zs h = refl

pub past-append : (depth : ℕ) (xs ys : List Row) → AllDeeper depth xs → deeper depth ys ≡ [] → past depth (xs ++ ys) ≡ ys
past-append depth [] [] h end = refl
past-append depth [] (row ∷ ys) h end = past-none depth _ row ys _ end
past-append depth (row ∷ xs) ys h end =
    let test : nat_lt depth row.depth ≡ true = lt-ltb _ _ h.0 in
    rw test (past-append depth xs ys h.1 end)

-- rows that are cut at the row with a number: the rows before it, the row, the rows below it and
-- the rows after those
pub record Splits (n : ℕ) (rows before : List Row) (row : Row) (below after : List Row) : Type 0 where
  pub whole : rows ≡ before ++ (row ∷ (below ++ after))
  pub here : row.node.0 ≡ n
  pub apart : count_of n before ≡ 0
  pub deep : AllDeeper row.depth below
  pub end : deeper row.depth after ≡ []

module _ {n : ℕ} {rows before : List Row} {row : Row} {below after : List Row} (s : Splits n rows before row below after) where
  test : has_number n row ≡ true
  test = eq-eqb row.node.0 n s.here

  pub before_of-split : before_of n rows ≡ before
  before_of-split = rw s.whole (before_of-skip n before _ s.apart ∙ rw test (append-nil before))

  pub from_of-split : from_of n rows ≡ row ∷ (below ++ after)
  from_of-split = rw s.whole (from_of-skip n before _ s.apart ∙ rw test refl)

  pub row_at-split : row_at n rows ≡ Some row
  row_at-split = rw s.whole (row_at-skip n before _ s.apart ∙ rw test refl)

  pub subtree_of-split : subtree_of n rows ≡ row ∷ below
  subtree_of-split = rw from_of-split (ap (λ (z : List Row). row ∷ z) (deeper-append row.depth below after s.deep s.end))

  pub after_of-split : after_of n rows ≡ after
  after_of-split = rw from_of-split (past-append row.depth below after s.deep s.end)

  -- a number that is counted nowhere is counted in no part
  pub split-none : (j : ℕ) → count_of j rows ≡ 0 → (count_of j before ≡ 0) × (count_of j below ≡ 0) × (count_of j after ≡ 0)
  split-none j h =
      let all : count_of j (before ++ (row ∷ (below ++ after))) ≡ 0 = rw (← s.whole) h in
      let front = count_of-append j before (row ∷ (below ++ after)) in
      let back = count_of-append j below after in
      (omega (arith, all, front), omega (arith, all, front, back), omega (arith, all, front, back))

  -- the number of the cut is counted in no other part, where it is counted once
  pub split-once : count_of n rows ≤ 1 → (count_of n below ≡ 0) × (count_of n after ≡ 0)
  split-once h =
      let all : count_of n (before ++ (row ∷ (below ++ after))) ≤ 1 = rw (← s.whole) h in
      let own : count_of n (row ∷ (below ++ after)) ≡ 1 + count_of n (below ++ after) = rw test refl in
      let front = count_of-append n before (row ∷ (below ++ after)) in
      let back = count_of-append n below after in
      (omega (arith, all, front, back, own), omega (arith, all, front, back, own))
