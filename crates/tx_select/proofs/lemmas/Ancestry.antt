-- The ancestors of a row are its parent and the parent's ancestors.
use Rattle.std.proofs.Common.{◌≡◌, ℕ, zero, suc, ◌+◌, ◌≤◌, ◌==◌, true, List, [], ◌∷◌, Option, Some, None, refl, sym, ap, subst, ◌∙◌, arith, inl, inr, ◌⊎◌}
use Rattle.std.specs.Option.{option_map_or}
use Rattle.std.specs.Prelude.{option_and_then, unwrap_or}
use Rattle.std.proofs.lemmas.Bool.{cases_Bool, eq-eqb, eqb-true}
use Rattle.tx_tree.specs.Row.{number, has_number}
use Rattle.tx_tree.specs.Rows.{row_at, depth_of, before_of, last_above, parent_of, ancestors_within, ancestors_of, count_of}
use Rattle.tx_tree.specs.declared.row.Row.{Row}
use Rattle.tx_select.specs.Match.{IsAmong}

-- who has no parent has no ancestors
alone : (rows : List Row) (count n : ℕ) → parent_of n rows ≡ None → ancestors_within count n rows ≡ []
alone rows zero n none = refl
alone rows (suc count) n none = ap (λ (o : Option Row). option_map_or (λ row. row ∷ ancestors_within count row.node.0 rows) o []) none

pub up-none : (rows : List Row) (n : ℕ) → parent_of n rows ≡ None → ancestors_of n rows ≡ []
up-none rows n none = alone rows (depth_of n rows) n none

-- what is found above is one less deep and among the rows
abbrev pub IsAbove : ℕ → List Row → Row → Type 0
IsAbove depth rows row = (row.depth + 1 ≡ depth) × IsAmong row rows

above-found : (depth : ℕ) (found : Option Row) (rows : List Row) (row : Row) → last_above depth found rows ≡ Some row → (found ≡ Some row) ⊎ IsAbove depth rows row
above-found depth found [] row is = inl is
above-found depth found (first ∷ rows) row is = elim (cases_Bool (first.depth + 1 == depth)) [
  | inl deep ↦
      let was = rw deep at is in
      elim (above-found depth (Some first) rows row was) [
        | inl same ↦ inr (let e : first ≡ row = ap (λ (o : Option Row). unwrap_or o first) same in (subst (λ (r : Row). r.depth + 1 ≡ depth) e (eqb-true _ _ deep), inl e))
        | inr more ↦ inr (more.0, inr more.1)
      ]
  | inr other ↦
      let was = rw other at is in
      elim (above-found depth found rows row was) [
        | inl same ↦ inl same
        | inr more ↦ inr (more.0, inr more.1)
      ]
]

pub above-none : (depth : ℕ) (rows : List Row) (row : Row) → last_above depth None rows ≡ Some row → IsAbove depth rows row
above-none depth rows row is = elim (above-found depth None rows row is) [
  | inl no_row ↦ cc
  | inr more ↦ more
]

pub before-among : (n : ℕ) (rows : List Row) (row : Row) → IsAmong row (before_of n rows) → IsAmong row rows
before-among n [] row is = is
before-among n (first ∷ rows) row is = elim (cases_Bool (has_number n first)) [
  | inl same ↦ let was = rw same at is in absurd was
  | inr other ↦
      let was = rw other at is in
      elim was [
        | inl e ↦ inl e
        | inr more ↦ inr (before-among n rows row more)
      ]
]

-- where numbers differ, a row is the one with its number
pub counted : (rows : List Row) (row : Row) → IsAmong row rows → 1 ≤ count_of (number row) rows
counted [] row is = absurd is
counted (first ∷ rows) row is = elim is [
  | inl e ↦ let own : has_number (number row) first ≡ true = eq-eqb _ _ (ap number e) in rw own (omega arith)
  | inr more ↦ let one = counted rows row more in omega (arith, one)
]

pub row-among : (rows : List Row) (row : Row) → count_of (number row) rows ≤ 1 → IsAmong row rows → row_at (number row) rows ≡ Some row
row-among [] row once is = absurd is
row-among (first ∷ rows) row once is = elim is [
  | inl e ↦ let own : has_number (number row) first ≡ true = eq-eqb _ _ (ap number e) in rw own (ap (λ (r : Row). Some r) e)
  | inr more ↦ elim (cases_Bool (has_number (number row) first)) [
    | inl same ↦ let was = rw same at once in absurd (let one = counted rows row more in omega (arith, one, was))
    | inr other ↦ let was = rw other at once in rw other (row-among rows row (omega (arith, was)) more)
  ]
]

-- what stands above a row
found-parent : (rows : List Row) (n : ℕ) (parent : Row) (at : Option Row) → row_at n rows ≡ at → parent_of n rows ≡ Some parent
    → (depth_of n rows ≡ suc parent.depth) × IsAmong parent rows
found-parent rows n parent None there is =
    let was : None ≡ Some parent = sym (ap (λ (o : Option Row). option_and_then (λ row. last_above row.depth None (before_of n rows)) o) there) ∙ is in cc
found-parent rows n parent (Some row) there is =
    let was : last_above row.depth None (before_of n rows) ≡ Some parent = sym (ap (λ (o : Option Row). option_and_then (λ row. last_above row.depth None (before_of n rows)) o) there) ∙ is in
    let above : IsAbove row.depth (before_of n rows) parent = above-none row.depth (before_of n rows) parent was in
    (ap (λ (o : Option Row). option_map_or (λ row. row.depth) o 0) there ∙ omega (arith, above.0), before-among n rows parent above.1)

pub up-parent : (rows : List Row) → ((n : ℕ) → count_of n rows ≤ 1) → (n : ℕ) (parent : Row) → parent_of n rows ≡ Some parent → ancestors_of n rows ≡ parent ∷ ancestors_of (number parent) rows
up-parent rows once n parent is =
    let found = found-parent rows n parent (row_at n rows) refl is in
    let there : row_at (number parent) rows ≡ Some parent = row-among rows parent (once (number parent)) found.1 in
    let deep : depth_of (number parent) rows ≡ parent.depth = ap (λ (o : Option Row). option_map_or (λ row. row.depth) o 0) there in
    ap (λ (count : ℕ). ancestors_within count n rows) found.0
    ∙ (ap (λ (o : Option Row). option_map_or (λ row. row ∷ ancestors_within parent.depth row.node.0 rows) o []) is
    ∙ ap (λ (count : ℕ). parent ∷ ancestors_within count (number parent) rows) (sym deep))
