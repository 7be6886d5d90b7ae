-- The row before a row.
use Rattle.std.proofs.Common.{◌≡◌, ℕ, ◌<◌, ◌≤◌, Bool, true, false, List, [], ◌∷◌, ◌++◌, Option, Some, option_map, refl, sym, ap, ◌∙◌, arith, inl, inr}
use Rattle.std.specs.Prelude.{filter, unwrap_or}
use Rattle.std.specs.Option.{option_map_or}
use Rattle.std.proofs.lemmas.Bool.{cases_Bool, eq-eqb}
use Rattle.tx_select.specs.Match.{last_row}
use Rattle.tx_tree.specs.Row.{has_number}
use Rattle.tx_tree.specs.Rows.{row_at, before_of, first_row, next_of, count_of}
use Rattle.tx_tree.specs.declared.row.NodeId.{NodeId}
use Rattle.tx_tree.specs.declared.row.Row.{Row}
use Rattle.tx_route.proofs.Counted.{tail-counted, row-node}
use Rattle.tx_route.proofs.Kept.{filter-append}
use Rattle.tx_route.proofs.Steps.{node_of, last-of-two}

-- the number of a row, if there is one
abbrev number_in : Option Row → Option ℕ
number_in o = option_map (λ row. row.node.0) o

same-number : (row : Row) (h : ℕ) → number_in (Some row) ≡ Some h → has_number h row ≡ true
same-number row h is = eq-eqb row.node.0 h (ap (λ (o : Option ℕ). unwrap_or o row.node.0) is)

-- a row that comes after another one stands in the rows
next-counted : (p h : ℕ) (rows : List Row) → number_in (next_of p rows) ≡ Some h → 0 < count_of h rows
next-counted p h [] is = cc
next-counted p h (row ∷ rows) is = elim (cases_Bool (has_number p row)) [
  | inl here ↦ let was = rw here at is in tail-counted h row rows (first row rows was)
  | inr past ↦ let was = rw past at is in tail-counted h row rows (next-counted p h rows was)
]
  where
    first : (row : Row) (rows : List Row) → number_in (first_row rows) ≡ Some h → 0 < count_of h rows
    first row [] is = cc
    first row (next ∷ rows) is = let own = same-number next h is in rw own (omega arith)

there-past : (p : ℕ) (row : Row) (rows : List Row) (last : Row) → has_number p row ≡ false → row_at p rows ≡ Some last → row_at p (row ∷ rows) ≡ Some last
there-past p row rows last past there = rw past there

before-past : (p h : ℕ) (row : Row) (rows : List Row) (last : Row) → has_number h row ≡ false → has_number p row ≡ false
    → before_of h rows ≡ before_of p rows ++ (last ∷ []) → before_of h (row ∷ rows) ≡ before_of p (row ∷ rows) ++ (last ∷ [])
before-past p h row rows last other past whole = rw (other, past) (ap (λ (rs : List Row). row ∷ rs) whole)

-- the rows before a row are those before the row ahead of it, and that one
pub ahead-last : (p h : ℕ) (rows : List Row) → count_of h rows ≤ 1 → number_in (next_of p rows) ≡ Some h
    → (row : Row) × (row_at p rows ≡ Some row) × (before_of h rows ≡ before_of p rows ++ (row ∷ []))
ahead-last p h [] once is = cc
ahead-last p h (row ∷ rows) once is = elim (cases_Bool (has_number h row)) [
  | inl same ↦ let most = rw same at once in absurd (omega (arith, most, behind))
  | inr other ↦ elim (cases_Bool (has_number p row)) [
    | inl here ↦
        let was = rw here at is in (
          row,
          (let e : row_at p (row ∷ rows) ≡ Some row = rw here refl in e),
          rw (other, here) (ap (λ (rs : List Row). row ∷ rs) (at-first rows was)),
        )
    | inr past ↦
        let was = rw past at is in
        let less = rw other at once in
        let (last, there, whole) = ahead-last p h rows (omega (arith, less)) was in
        (last, there-past p row rows last past there, before-past p h row rows last other past whole)
  ]
]
  where
    at-first : (rows : List Row) → number_in (first_row rows) ≡ Some h → before_of h rows ≡ []
    at-first [] is = cc
    at-first (next ∷ rows) is = let own = same-number next h is in rw own refl

    behind : 0 < count_of h rows
    behind = elim (cases_Bool (has_number p row)) [
      | inl here ↦ let was = rw here at is in first rows was
      | inr past ↦ let was = rw past at is in next-counted p h rows was
    ]
      where
        first : (rows : List Row) → number_in (first_row rows) ≡ Some h → 0 < count_of h rows
        first [] is = cc
        first (next ∷ rows) is = let own = same-number next h is in rw own (omega arith)

module _ (test : Row → Bool) where
  -- that row, where it passes, is the last one before the other that does
  pub ahead-taken : (rows : List Row) → ((n : ℕ) → count_of n rows ≤ 1) → (ahead : NodeId) (h : ℕ) → number_in (next_of ahead.0 rows) ≡ Some h
      → option_map_or test (row_at ahead.0 rows) false ≡ true → Some ahead ≡ node_of (last_row (filter test (before_of h rows)))
  ahead-taken rows once ahead h is passes =
      let (row, there, whole) = ahead-last ahead.0 h rows (once h) is in
      let own : test row ≡ true = sym (ap (λ (o : Option Row). option_map_or test o false) there) ∙ passes in
      let kept : filter test (row ∷ []) ≡ row ∷ [] = rw own refl in
      sym (ap (λ (rs : List Row). node_of (last_row (filter test rs))) whole
      ∙ (ap (λ (rs : List Row). node_of (last_row rs)) (filter-append test (before_of ahead.0 rows) (row ∷ []))
      ∙ (ap (λ (rs : List Row). node_of (last_row (filter test (before_of ahead.0 rows) ++ rs))) kept
      ∙ (ap node_of (last-of-two (filter test (before_of ahead.0 rows)) (row ∷ []))
      ∙ ap (λ (n : NodeId). Some n) (row-node ahead rows row there)))))

  -- else it is the last one before that row
  pub ahead-left : (rows : List Row) → ((n : ℕ) → count_of n rows ≤ 1) → (ahead : NodeId) (h : ℕ) → number_in (next_of ahead.0 rows) ≡ Some h
      → option_map_or test (row_at ahead.0 rows) false ≡ false → last_row (filter test (before_of ahead.0 rows)) ≡ last_row (filter test (before_of h rows))
  ahead-left rows once ahead h is fails =
      let (row, there, whole) = ahead-last ahead.0 h rows (once h) is in
      let own : test row ≡ false = sym (ap (λ (o : Option Row). option_map_or test o false) there) ∙ fails in
      let kept : filter test (row ∷ []) ≡ [] = rw own refl in
      sym (ap (λ (rs : List Row). last_row (filter test rs)) whole
      ∙ (ap last_row (filter-append test (before_of ahead.0 rows) (row ∷ []))
      ∙ (ap (λ (rs : List Row). last_row (filter test (before_of ahead.0 rows) ++ rs)) kept
      ∙ last-of-two (filter test (before_of ahead.0 rows)) [])))
