-- The rows above a row.
use Rattle.std.proofs.Common.{◌≡◌, ℕ, zero, suc, ◌+◌, ◌≤◌, ◌⊎◌, ◌==◌, Bool, true, false, cond, List, [], ◌∷◌, Option, Some, None, refl, sym, ap, ◌∙◌, arith, inl, inr}
use Rattle.std.specs.Prelude.{unwrap_or, option_and_then, not, ◌||◌}
use Rattle.std.specs.List.{list_any}
use Rattle.std.specs.Option.{option_eq, option_map_or}
use Rattle.std.proofs.lemmas.Bool.{cases_Bool, false≢true, eq-eqb, eqb-true}
use Rattle.tx_select.specs.Holds.{is_disabled}
use Rattle.tx_tree.specs.Row.{number, has_number}
use Rattle.tx_tree.specs.Rows.{row_at, before_of, last_above, parent_of, depth_of, ancestors_within, ancestors_of, count_of}
use Rattle.tx_tree.specs.Walk.{rest_up_from}
use Rattle.tx_tree.specs.declared.row.NodeId.{NodeId}
use Rattle.tx_tree.specs.declared.row.Row.{Row}
use Rattle.tx_route.specs.Focus.{is_enabled, is_closed}
use Rattle.tx_route.proofs.Counted.{there-counted, count-before, row-number}
use Rattle.tx_route.proofs.Steps.{node_of}

-- the last row that is one less deep is found by its number, unless it was found before
above-found : (depth : ℕ) (found : Option Row) (rows : List Row) (row : Row) → count_of (number row) rows ≤ 1 → last_above depth found rows ≡ Some row
    → (found ≡ Some row) ⊎ ((row.depth + 1 ≡ depth) × (row_at (number row) rows ≡ Some row))
above-found depth found [] row once is = inl is
above-found depth found (first ∷ rows) row once is =
    elim (above-found depth (cond (first.depth + 1 == depth) (Some first) found) rows row (omega (arith, once)) is) [
      | inl here ↦ elim (cases_Bool (first.depth + 1 == depth)) [
        | inl deep ↦
            let was = rw deep at here in
            let e : first ≡ row = ap (λ (o : Option Row). unwrap_or o first) was in
            let own : has_number (number row) first ≡ true = eq-eqb _ _ (ap number e) in
            inr (ap (λ (r : Row). r.depth + 1) (sym e) ∙ eqb-true (first.depth + 1) depth deep, at-head (number row) first rows own ∙ was)
        | inr other ↦ let was = rw other at here in inl was
      ]
      | inr more ↦ inr (more.0, at-tail (number row) first rows row once more.1)
    ]
  where
    at-head : (n : ℕ) (first : Row) (rows : List Row) → has_number n first ≡ true → row_at n (first ∷ rows) ≡ Some first
    at-head n first rows own = rw own refl

    at-tail : (n : ℕ) (first : Row) (rows : List Row) (row : Row) → count_of n (first ∷ rows) ≤ 1 → row_at n rows ≡ Some row → row_at n (first ∷ rows) ≡ Some row
    at-tail n first rows row once there = elim (cases_Bool (has_number n first)) [
      | inl same ↦ let most = rw same at once in absurd (omega (arith, most, there-counted n rows row there))
      | inr other ↦ rw other there
    ]

-- a row that is found before another one is found in all
before-found : (m n : ℕ) (rows : List Row) (row : Row) → row_at m (before_of n rows) ≡ Some row → row_at m rows ≡ Some row
before-found m n [] row is = cc
before-found m n (first ∷ rows) row is = elim (cases_Bool (has_number n first)) [
  | inl here ↦ let was = rw here at is in cc
  | inr past ↦
      let was = rw past at is in
      elim (cases_Bool (has_number m first)) [
        | inl same ↦ let e = rw same at was in rw same e
        | inr other ↦ let e = rw other at was in rw other (before-found m n rows row e)
      ]
]

-- who has no parent has no ancestors
alone : (rows : List Row) (count n : ℕ) → parent_of n rows ≡ None → ancestors_within count n rows ≡ []
alone rows zero n none = refl
alone rows (suc count) n none = ap (λ (o : Option Row). option_map_or (λ row. row ∷ ancestors_within count row.node.0 rows) o []) none

-- the ancestors of a row are its parent and the parent's ancestors
pub climbs : (rows : List Row) → ((n : ℕ) → count_of n rows ≤ 1) → (n : ℕ) → ancestors_of n rows ≡ rest_up_from (node_of (parent_of n rows)) rows
climbs rows once n = at (row_at n rows) (parent_of n rows) refl refl
  where
    up-none : parent_of n rows ≡ None → ancestors_of n rows ≡ rest_up_from (node_of (parent_of n rows)) rows
    up-none none = alone rows (depth_of n rows) n none ∙ ap (λ (o : Option Row). rest_up_from (node_of o) rows) (sym none)

    up-some : (row above : Row) → row_at n rows ≡ Some row → parent_of n rows ≡ Some above → (above.depth + 1 ≡ row.depth) × (row_at (number above) (before_of n rows) ≡ Some above)
        → ancestors_of n rows ≡ rest_up_from (node_of (parent_of n rows)) rows
    up-some row above there parent found =
        let deep : row.depth ≡ suc above.depth = omega (arith, found.0) in
        let here : row_at above.node.0 rows ≡ Some above = before-found (number above) n rows above found.1 in
        ap (λ (o : Option Row). ancestors_within (option_map_or (λ r. r.depth) o 0) n rows) there
        ∙ (ap (λ (k : ℕ). ancestors_within k n rows) deep
        ∙ (ap (λ (o : Option Row). option_map_or (λ r. r ∷ ancestors_within above.depth r.node.0 rows) o []) parent
        ∙ sym (ap (λ (o : Option Row). rest_up_from (node_of o) rows) parent
        ∙ (ap (λ (o : Option Row). option_map_or (λ r. r ∷ ancestors_of above.node.0 rows) o []) here
        ∙ ap (λ (o : Option Row). above ∷ ancestors_within (option_map_or (λ r. r.depth) o 0) above.node.0 rows) here))))

    at : (o up : Option Row) → row_at n rows ≡ o → parent_of n rows ≡ up → ancestors_of n rows ≡ rest_up_from (node_of (parent_of n rows)) rows
    at o None is none = up-none none
    at None (Some above) is some = up-none (ap (option_and_then (λ row. last_above row.depth None (before_of n rows))) is)
    at (Some row) (Some above) is some =
        let found : last_above row.depth None (before_of n rows) ≡ Some above = sym (ap (option_and_then (λ r. last_above r.depth None (before_of n rows))) is) ∙ some in
        elim (above-found row.depth None (before_of n rows) above (omega (arith, once (number above), count-before (number above) n rows)) found) [
          | inl none ↦ cc
          | inr both ↦ up-some row above is some both
        ]

-- ---- whether rows above a row are disabled

not-twice : (b : Bool) → not (not b) ≡ b
not-twice true = refl
not-twice false = refl

-- who isn't enabled is disabled or stands below a disabled row
pub closed-at : (rows : List Row) (node : Option NodeId) (there : NodeId) (row : Row) → node ≡ Some there → row_at there.0 rows ≡ Some row
    → (enabled : Bool) → enabled ≡ is_enabled rows row → not enabled ≡ is_closed rows node
unfolding is_closed is_disabled
closed-at rows here there row is found enabled e =
    ap not e
    ∙ (not-twice (is_disabled rows row)
    ∙ (ap (λ (n : ℕ). row.disabled || list_any (λ (r : Row). r.disabled) (ancestors_of n rows)) (row-number there.0 rows row found)
    ∙ sym (ap (λ (o : Option NodeId). list_any (λ (r : Row). r.disabled) (rest_up_from o rows)) is
    ∙ ap (λ (o : Option Row). list_any (λ (r : Row). r.disabled) (option_map_or (λ r. r ∷ ancestors_of there.0 rows) o [])) found)))

-- what is known of the parent is so of all rows above
pub closed-above : (rows : List Row) → ((n : ℕ) → count_of n rows ≤ 1) → (n : ℕ) (parent : Option NodeId) → parent ≡ node_of (parent_of n rows)
    → is_closed rows parent ≡ list_any (λ (r : Row). r.disabled) (ancestors_of n rows)
unfolding is_closed
closed-above rows once n parent is = ap (λ (o : Option NodeId). list_any (λ (r : Row). r.disabled) (rest_up_from o rows)) is ∙ ap (list_any (λ (r : Row). r.disabled)) (sym (climbs rows once n))

-- nodes that are found equal are one
pub same-node : (a b : Option NodeId) → option_eq (λ x y. x.0 == y.0) a b ≡ true → a ≡ b
same-node None None e = refl
same-node None (Some b) e = absurd (false≢true e)
same-node (Some a) None e = absurd (false≢true e)
same-node (Some a) (Some b) e = ap (λ (n : ℕ). let made : Option NodeId = Some (record { 0 = n }) in made) (eqb-true a.0 b.0 e)
