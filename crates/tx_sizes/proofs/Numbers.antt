-- Rows by their numbers, of which none stands twice.
use Rattle.std.proofs.Common.{◌≡◌, ℕ, zero, suc, ◌+◌, ◌<◌, ◌≤◌, ◌≢◌, Bool, true, false, cond, List, [], ◌∷◌, ◌++◌, length, Some, ◌∙◌, refl, sym, ap, subst, arith}
use Rattle.std.proofs.lemmas.Bool.{eqb-false, eq-eqb}
use Rattle.tx_tree.specs.Row.{number, has_number}
use Rattle.tx_tree.specs.Rows.{row_at, count_of}
use Rattle.tx_tree.specs.declared.row.Row.{Row}

own : (row : Row) → has_number (number row) row ≡ true
own row = eq-eqb (number row) (number row) refl

counted-here : (done rest : List Row) (row : Row) → 1 ≤ count_of (number row) (done ++ row ∷ rest)
counted-here [] rest row = rw (own row) (omega arith)
counted-here (first ∷ done) rest row = let h = counted-here done rest row in omega (arith, h)

present-after : (first row : Row) (done rest : List Row) → row_at (number row) (done ++ row ∷ rest) ≡ Some row
    → (same : Bool) → has_number (number row) first ≡ same → cond same 1 0 + count_of (number row) (done ++ row ∷ rest) ≤ 1
    → cond same (Some first) (row_at (number row) (done ++ row ∷ rest)) ≡ Some row
present-after first row done rest found true is once = absurd (let h = counted-here done rest row in omega (arith, h, once))
present-after first row done rest found false is once = found

-- a row of a list is the one with its number
pub present : (done rest : List Row) (row : Row) → ((n : ℕ) → count_of n (done ++ row ∷ rest) ≤ 1) → row_at (number row) (done ++ row ∷ rest) ≡ Some row
present [] rest row once = rw (own row) refl
present (first ∷ done) rest row once =
    present-after first row done rest (present done rest row (λ n. let h = once n in omega (arith, h))) (has_number (number row) first) refl (once (number row))

-- the same where the whole list has a name
pub found : (rows done rest : List Row) (row : Row) → done ++ row ∷ rest ≡ rows → ((n : ℕ) → count_of n rows ≤ 1) → row_at (number row) rows ≡ Some row
found rows done rest row whole once =
    ap (row_at (number row)) (sym whole) ∙ present done rest row (λ n. subst (λ (all : List Row). count_of n all ≤ 1) (sym whole) (once n))

-- ---- how many rows there are

-- how many rows have one of the numbers up to m
up_to : ℕ → List Row → ℕ
up_to zero rows = 0
up_to (suc m) rows = count_of (suc m) rows + up_to m rows

grows : (m : ℕ) (row : Row) (rows : List Row) → up_to m rows ≤ up_to m (row ∷ rows)
unfolding up_to
grows zero row rows = omega arith
grows (suc m) row rows = let h = grows m row rows in omega (arith, h)

one_more-at : (m : ℕ) (row : Row) (rows : List Row) → (number row ≤ m → up_to m rows + 1 ≤ up_to m (row ∷ rows)) → number row ≤ suc m
    → (same : Bool) → has_number (suc m) row ≡ same
    → count_of (suc m) rows + up_to m rows + 1 ≤ cond same 1 0 + count_of (suc m) rows + up_to m (row ∷ rows)
one_more-at m row rows later h true is = let g = grows m row rows in omega (arith, g)
one_more-at m row rows later h false is =
    let other : number row ≢ suc m = eqb-false (number row) (suc m) is in
    let l = later (omega (arith, h, other)) in
    omega (arith, l)

one_more : (m : ℕ) (row : Row) (rows : List Row) → 1 ≤ number row → number row ≤ m → up_to m rows + 1 ≤ up_to m (row ∷ rows)
unfolding up_to
one_more zero row rows least most = absurd (omega (arith, least, most))
one_more (suc m) row rows least most = one_more-at m row rows (one_more m row rows least) most (has_number (suc m) row) refl

all_counted : (m : ℕ) (rows : List Row) → ((n : ℕ) → 0 < count_of n rows → (1 ≤ n) × (n ≤ m)) → length rows ≤ up_to m rows
all_counted m [] in_range = omega arith
all_counted m (row ∷ rows) in_range =
    let here = in_range (number row) (rw (own row) (omega arith)) in
    let more = one_more m row rows here.0 here.1 in
    let others = all_counted m rows (λ n some. in_range n (omega (arith, some))) in
    omega (arith, more, others)

few_up_to : (m : ℕ) (rows : List Row) → ((n : ℕ) → count_of n rows ≤ 1) → up_to m rows ≤ m
unfolding up_to
few_up_to zero rows once = omega arith
few_up_to (suc m) rows once = let h = few_up_to m rows once in let o = once (suc m) in omega (arith, h, o)

-- there are no more rows than numbers
pub few_rows : (m : ℕ) (rows : List Row) → ((n : ℕ) → count_of n rows ≤ 1) → ((n : ℕ) → 0 < count_of n rows → (1 ≤ n) × (n ≤ m)) → length rows ≤ m
few_rows m rows once in_range = let a = all_counted m rows in_range in let b = few_up_to m rows once in omega (arith, a, b)
