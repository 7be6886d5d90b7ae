-- Rows that stand among others, and the others without them.
use Rattle.std.proofs.Common.{◌≡◌, ℕ, ◌+◌, ◌<◌, ◌≤◌, ◌==◌, Bool, true, false, cond, nat_lt, List, [], ◌∷◌, ◌++◌, Option, Some, None, refl, sym, ap, ◌∙◌, arith, inl, inr, ◌⊎◌}
use Rattle.std.specs.List.{list_any}
use Rattle.std.specs.Prelude.{option_and_then, unwrap_or}
use Rattle.std.proofs.Math.Arith.{lt_of_le-ne}
use Rattle.std.proofs.lemmas.Bool.{cases_Bool, eqb-true, eqb-false, ne_eqb, ltb-true, ltb-false}
use Rattle.tx_tree.specs.Row.{has_number}
use Rattle.tx_tree.specs.Rows.{row_at, before_of, from_of, last_above, parent_of, deeper, past, count_of}
use Rattle.tx_tree.specs.WellFormed.{MayAllFollow, IsPreorder}
use Rattle.tx_tree.specs.declared.row.Row.{Row}

-- ---- how deep rows are

-- the first row is at most so deep, and each other one at most one deeper than the row before it
abbrev pub Climbs : ℕ → List Row → Type 0
Climbs most [] = Unit {0}
Climbs most (row ∷ rows) = (row.depth ≤ most) × Climbs (row.depth + 1) rows

-- all rows are at least so deep
abbrev pub AreAsDeep : ℕ → List Row → Type 0
AreAsDeep depth [] = Unit {0}
AreAsDeep depth (row ∷ rows) = (depth ≤ row.depth) × AreAsDeep depth rows

pub climbs-more : (most more : ℕ) (rows : List Row) → most ≤ more → Climbs most rows → Climbs more rows
climbs-more most more [] le climbs = tt
climbs-more most more (row ∷ rows) le climbs = (omega (arith, le, climbs.0), climbs.1)

follow-climbs : (last : Row) (rows : List Row) → MayAllFollow last rows → Climbs (last.depth + 1) rows
follow-climbs last [] follow = tt
follow-climbs last (row ∷ rows) follow = (follow.0.step, follow-climbs row rows follow.1)

pub tree-climbs : (rows : List Row) → IsPreorder rows → Climbs 0 rows
tree-climbs [] is = absurd is
tree-climbs (row ∷ rows) is = (omega (arith, is.0.depth), follow-climbs row rows is.1)

-- what is past the deeper rows begins with one that isn't deeper
pub past-climbs : (depth most : ℕ) (rows : List Row) → Climbs most rows → Climbs depth (past depth rows)
past-climbs depth most [] climbs = tt
past-climbs depth most (row ∷ rows) climbs = elim (cases_Bool (nat_lt depth row.depth)) [
  | inl deep ↦ rw deep (past-climbs depth (row.depth + 1) rows climbs.1)
  | inr end ↦ rw end (ltb-false depth row.depth end, climbs.1)
]

pub deeper-deep : (depth : ℕ) (rows : List Row) → AreAsDeep (depth + 1) (deeper depth rows)
deeper-deep depth [] = tt
deeper-deep depth (row ∷ rows) = elim (cases_Bool (nat_lt depth row.depth)) [
  | inl deep ↦ rw deep (let lt = ltb-true depth row.depth deep in omega (arith, lt), deeper-deep depth rows)
  | inr end ↦ rw end tt
]

pub deeper-climbs : (depth most : ℕ) (rows : List Row) → Climbs most rows → Climbs most (deeper depth rows)
deeper-climbs depth most [] climbs = tt
deeper-climbs depth most (row ∷ rows) climbs = elim (cases_Bool (nat_lt depth row.depth)) [
  | inl deep ↦ rw deep (climbs.0, deeper-climbs depth (row.depth + 1) rows climbs.1)
  | inr end ↦ rw end tt
]

-- a row and the rows behind it may be taken out where those after them aren't deeper than the row
pub join-climbs : (most : ℕ) (xs : List Row) (row : Row) (ys zs : List Row) → Climbs most (xs ++ (row ∷ ys)) → Climbs row.depth zs → Climbs most (xs ++ zs)
join-climbs most [] row ys zs climbs after = climbs-more row.depth most zs climbs.0 after
join-climbs most (x ∷ xs) row ys zs climbs after = (climbs.0, join-climbs (x.depth + 1) xs row ys zs climbs.1 after)

pub from-climbs : (most n : ℕ) (rows : List Row) (row : Row) → Climbs most rows → row_at n rows ≡ Some row → Climbs row.depth (from_of n rows)
from-climbs most n [] row climbs there = cc
from-climbs most n (first ∷ rows) row climbs there = elim (cases_Bool (has_number n first)) [
  | inl own ↦
      let is : first ≡ row = ap (λ (o : Option Row). unwrap_or o first) (rw own at there) in
      rw own (omega (arith, ap (λ (r : Row). r.depth) is), climbs.1)
  | inr other ↦ let was = rw other at there in rw other (from-climbs (first.depth + 1) n rows row climbs.1 was)
]

pub depth-at : (n depth : ℕ) (rows : List Row) (row : Row) → AreAsDeep depth rows → row_at n rows ≡ Some row → depth ≤ row.depth
depth-at n depth [] row deep there = cc
depth-at n depth (first ∷ rows) row deep there = elim (cases_Bool (has_number n first)) [
  | inl own ↦
      let was : Some first ≡ Some row = rw own at there in
      let is : first ≡ row = ap (λ (o : Option Row). unwrap_or o first) was in
      omega (arith, ap (λ (r : Row). r.depth) is, deep.0)
  | inr other ↦ let was = rw other at there in depth-at n depth rows row deep.1 was
]

-- ---- where a number stands

pub count-head : (n : ℕ) (row : Row) (rows : List Row) → count_of n (row ∷ rows) ≡ 0 → has_number n row ≡ false
count-head n row rows none = elim (cases_Bool (has_number n row)) [
  | inl own ↦ let was = rw own at none in absurd (omega (arith, was))
  | inr other ↦ other
]

pub count-tail : (n : ℕ) (row : Row) (rows : List Row) → count_of n (row ∷ rows) ≡ 0 → count_of n rows ≡ 0
count-tail n row rows none = omega (arith, none)

pub none-at : (n : ℕ) (rows : List Row) → count_of n rows ≡ 0 → row_at n rows ≡ None
none-at n [] none = refl
none-at n (row ∷ rows) none = rw (count-head n row rows none) (none-at n rows (count-tail n row rows none))

pub at-none : (n : ℕ) (rows : List Row) → row_at n rows ≡ None → count_of n rows ≡ 0
at-none n [] none = refl
at-none n (row ∷ rows) none = elim (cases_Bool (has_number n row)) [
  | inl own ↦ let was = rw own at none in cc
  | inr other ↦ let was = rw other at none in rw other (omega (arith, at-none n rows was))
]

pub any-none : (n : ℕ) (rows : List Row) → count_of n rows ≡ 0 → list_any (has_number n) rows ≡ false
any-none n [] none = refl
any-none n (row ∷ rows) none = rw (count-head n row rows none) (any-none n rows (count-tail n row rows none))

pub before-skip : (n : ℕ) (xs ys : List Row) → count_of n xs ≡ 0 → before_of n (xs ++ ys) ≡ xs ++ before_of n ys
before-skip n [] ys none = refl
before-skip n (row ∷ xs) ys none = rw (count-head n row xs none) (ap (λ (rs : List Row). row ∷ rs) (before-skip n xs ys (count-tail n row xs none)))

-- where a number is found in the front, nothing behind it counts
pub front-at : (n : ℕ) (xs ys : List Row) (row : Row) → row_at n xs ≡ Some row → row_at n (xs ++ ys) ≡ Some row
front-at n [] ys row there = cc
front-at n (x ∷ xs) ys row there = elim (cases_Bool (has_number n x)) [
  | inl own ↦ let was = rw own at there in rw own was
  | inr other ↦ let was = rw other at there in rw other (front-at n xs ys row was)
]

pub front-before : (n : ℕ) (xs ys : List Row) (row : Row) → row_at n xs ≡ Some row → before_of n (xs ++ ys) ≡ before_of n xs
front-before n [] ys row there = cc
front-before n (x ∷ xs) ys row there = elim (cases_Bool (has_number n x)) [
  | inl own ↦ rw own refl
  | inr other ↦ let was = rw other at there in rw other (ap (λ (rs : List Row). x ∷ rs) (front-before n xs ys row was))
]

-- ---- what stands above

pub above-append : (depth : ℕ) (found : Option Row) (xs ys : List Row) → last_above depth found (xs ++ ys) ≡ last_above depth (last_above depth found xs) ys
above-append depth found [] ys = refl
above-append depth found (row ∷ xs) ys = above-append depth (cond (row.depth + 1 == depth) (Some row) found) xs ys

-- rows that are no less deep aren't above
pub above-deep : (depth : ℕ) (found : Option Row) (rows : List Row) → AreAsDeep depth rows → last_above depth found rows ≡ found
above-deep depth found [] deep = refl
above-deep depth found (row ∷ rows) deep =
    let other : (row.depth + 1 == depth) ≡ false = ne_eqb (row.depth + 1) depth (λ e. omega (arith, e, deep.0)) in
    rw other (above-deep depth found rows deep.1)

pub deep-less : (less depth : ℕ) (rows : List Row) → less ≤ depth → AreAsDeep depth rows → AreAsDeep less rows
deep-less less depth [] le deep = tt
deep-less less depth (row ∷ rows) le deep = (omega (arith, le, deep.0), deep-less less depth rows le deep.1)

within-step : (depth : ℕ) (first : Row) (found other : Option Row) (before : List Row) (b : Bool) → (b ≡ false → last_above depth found before ≡ last_above depth other before)
    → last_above depth (cond b (Some first) found) before ≡ last_above depth (cond b (Some first) other) before
within-step depth first found other before true same = refl
within-step depth first found other before false same = same refl

-- What is above a row that is deeper than the first one of its list stands in the list itself.
pub above-within : (most n : ℕ) (rows : List Row) (row : Row) (found other : Option Row) → Climbs most rows → row_at n rows ≡ Some row → most < row.depth
    → last_above row.depth found (before_of n rows) ≡ last_above row.depth other (before_of n rows)
above-within most n [] row found other climbs there deep = cc
above-within most n (first ∷ rows) row found other climbs there deep = elim (cases_Bool (has_number n first)) [
  | inl own ↦
      let was : Some first ≡ Some row = rw own at there in
      let is : first ≡ row = ap (λ (o : Option Row). unwrap_or o first) was in
      absurd (omega (arith, ap (λ (r : Row). r.depth) is, climbs.0, deep))
  | inr later ↦
      let was = rw later at there in
      rw later (within-step row.depth first found other (before_of n rows) (first.depth + 1 == row.depth) (λ not_above.
      above-within (first.depth + 1) n rows row found other climbs.1 was (lt_of_le-ne (omega (arith, climbs.0, deep)) (eqb-false (first.depth + 1) row.depth not_above))))
]

-- what is above is one less deep
above-depth : (depth : ℕ) (found : Option Row) (rows : List Row) (row : Row) → last_above depth found rows ≡ Some row → (found ≡ Some row) ⊎ (row.depth + 1 ≡ depth)
above-depth depth found [] row is = inl is
above-depth depth found (first ∷ rows) row is = elim (cases_Bool (first.depth + 1 == depth)) [
  | inl deep ↦
      let was = rw deep at is in
      elim (above-depth depth (Some first) rows row was) [
        | inl same ↦ inr (ap (λ (o : Option Row). (unwrap_or o first).depth + 1) (sym same) ∙ eqb-true (first.depth + 1) depth deep)
        | inr more ↦ inr more
      ]
  | inr other ↦ let was = rw other at is in above-depth depth found rows row was
]

-- ---- the parent of a row

pub parent-is : (n : ℕ) (rows : List Row) (row : Row) → row_at n rows ≡ Some row → parent_of n rows ≡ last_above row.depth None (before_of n rows)
parent-is n rows row there = ap (option_and_then (λ r. last_above r.depth None (before_of n rows))) there

pub parent-none : (n : ℕ) (rows : List Row) → row_at n rows ≡ None → parent_of n rows ≡ None
parent-none n rows none = ap (option_and_then (λ r. last_above r.depth None (before_of n rows))) none

pub parent-depth : (n : ℕ) (rows : List Row) (row parent : Row) → row_at n rows ≡ Some row → parent_of n rows ≡ Some parent → parent.depth + 1 ≡ row.depth
parent-depth n rows row parent there is = elim (above-depth row.depth None (before_of n rows) parent (sym (parent-is n rows row there) ∙ is)) [
  | inl no_row ↦ cc
  | inr deep ↦ deep
]
