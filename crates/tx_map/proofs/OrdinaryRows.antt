-- The rows of a tree of which none has many children, as a forest.
use Rattle.std.proofs.Common.{◌≡◌, ℕ, ◌+◌, ◌<◌, ◌≤◌, Bool, true, false, cond, List, [], ◌∷◌, ◌++◌, length, refl, sym, subst, inl, inr, eq-eqb, ne_eqb, append_assoc, arith}
use Rattle.std.proofs.lemmas.Bool.{cases_lt, le-ltb, lt-ltb, ltb-true}
use Rattle.std.specs.Prelude.{⊤, ◌⊎◌, ◌==◌, filter, nat_lt, unwrap_or}
use Rattle.tx_map.specs.OrdinarySheets.{IsOrdinaryTree}
use Rattle.tx_sizes.proofs.lemmas.RowsBelow.{behind-behind}
use Rattle.tx_sizes.specs.Forest.{Styles, Forest, Empty, Grown, behind, depth, forest, styled, styled_rows, under}
use Rattle.tx_sizes.specs.Ordinary.{AreOrdinary, IsOrdinaryStyled, count_beside}
use Rattle.tx_tree.specs.Row.{has_number}
use Rattle.tx_tree.specs.Rows.{children_of, count_of, deeper, first_children, from_of}
use Rattle.tx_tree.specs.Walk.{NumbersDiffer}
use Rattle.tx_tree.specs.WellFormed.{MayAllFollow}
use Rattle.tx_tree.specs.declared.row.Row.{Row}
use Rattle.tx_value.specs.Style.{initial_style}

-- ---- parts of a forest

under_ordinary : (d : ℕ) (f : Forest) → AreOrdinary f → AreOrdinary (under d f)
under_ordinary d Empty h = tt
under_ordinary d (Grown row below beside) h = by (nat_lt d (depth row)) (under_ordinary d beside h.1.1.1)
  where
    by : (b : Bool) → AreOrdinary (under d beside) → AreOrdinary (cond b (Grown row below (under d beside)) Empty)
    by true rest = (h.0, (h.1.0, (h.1.1.0, rest)))
    by false rest = tt

behind_ordinary : (d : ℕ) (f : Forest) → AreOrdinary f → AreOrdinary (behind d f)
behind_ordinary d Empty h = tt
behind_ordinary d (Grown row below beside) h = by (nat_lt d (depth row)) (behind_ordinary d beside h.1.1.1)
  where
    by : (b : Bool) → AreOrdinary (behind d beside) → AreOrdinary (cond b (behind d beside) (Grown row below beside))
    by true rest = rest
    by false rest = h

-- ---- children

-- the rows that are one deeper than a depth, among the first ones that are deeper
abbrev children_in : ℕ → List Row → List Row
children_in d rows = filter (λ (below : Row). below.depth == d + 1) (deeper d rows)

apart : (m n : ℕ) → n < m → (m == n) ≡ false
apart m n h = ne_eqb m n (λ e. omega (arith, h, e))

module _ (styles : Styles) where
  -- those that stand beside each other behind the first ones that are deeper still are children
  abbrev FewBeside : ℕ → List Row → Type 0
  FewBeside d rows = count_beside (under d (behind (d + 1) (forest (styled_rows styles rows)))) ≤ length (children_in d rows)

  deep_few : (d : ℕ) (row : Row) (rows : List Row) → d + 1 < row.depth → FewBeside d rows
      → count_beside (under d (behind (d + 1) (Grown (styled styles row) (under row.depth (forest (styled_rows styles rows))) (behind row.depth (forest (styled_rows styles rows)))))) ≤ length (children_in d (row ∷ rows))
  deep_few d row rows h few =
      let deep : nat_lt (d + 1) row.depth ≡ true = lt-ltb (d + 1) row.depth h in
      let below : nat_lt d row.depth ≡ true = lt-ltb d row.depth (omega (arith, h)) in
      let other : (row.depth == d + 1) ≡ false = apart row.depth (d + 1) h in
      let same = behind-behind (d + 1) row.depth (omega (arith, h)) (forest (styled_rows styles rows)) in
      rw (deep, below, other) (subst (λ (f : Forest). count_beside (under d f) ≤ length (children_in d rows)) (sym same) few)

  here_few : (d : ℕ) (row : Row) (rows : List Row) → row.depth ≤ d + 1 → FewBeside d rows
      → count_beside (under d (Grown (styled styles row) (under row.depth (forest (styled_rows styles rows))) (behind row.depth (forest (styled_rows styles rows))))) ≤ length (children_in d (row ∷ rows))
  here_few d row rows h few = by (nat_lt d row.depth) refl
    where
      child : (n : ℕ) → n ≡ d + 1
          → 1 + count_beside (under d (behind n (forest (styled_rows styles rows)))) ≤ length (cond (n == d + 1) (row ∷ children_in d rows) (children_in d rows))
      child n is = rw (is, eq-eqb (d + 1) (d + 1) refl) (omega (arith, few))

      by : (b : Bool) → nat_lt d row.depth ≡ b
          → count_beside (cond b (Grown (styled styles row) (under row.depth (forest (styled_rows styles rows))) (under d (behind row.depth (forest (styled_rows styles rows))))) Empty)
          ≤ length (filter (λ (below : Row). below.depth == d + 1) (cond b (row ∷ deeper d rows) []))
      by true is = let less : d < row.depth = ltb-true d row.depth is in child row.depth (omega (arith, h, less))
      by false is = omega arith

  beside_few : (d : ℕ) (rows : List Row) → FewBeside d rows
  unfolding forest
  beside_few d [] = omega arith
  beside_few d (row ∷ rows) = by (cases_lt (d + 1) row.depth) (beside_few d rows)
    where
      shown : (row.depth ≤ d + 1) → nat_lt (d + 1) row.depth ≡ false
      shown h = le-ltb (d + 1) row.depth h

      whole : Forest
      whole = Grown (styled styles row) (under row.depth (forest (styled_rows styles rows))) (behind row.depth (forest (styled_rows styles rows)))

      by : ((d + 1 < row.depth) ⊎ (row.depth ≤ d + 1)) → FewBeside d rows → count_beside (under d (behind (d + 1) whole)) ≤ length (children_in d (row ∷ rows))
      by (inl h) few = deep_few d row rows h few
      by (inr h) few = rw (shown h) (here_few d row rows h few)

  tops_few : (row : Row) (rows : List Row) → MayAllFollow row rows → count_beside (under row.depth (forest (styled_rows styles rows))) ≤ length (children_in row.depth rows)
  unfolding forest
  tops_few row [] h = omega arith
  tops_few row (next ∷ rows) h = here_few row.depth next rows h.0.step (beside_few row.depth rows)

  -- no row has many children
  abbrev EachFew : List Row → Type 0
  EachFew [] = ⊤
  EachFew (row ∷ rows) = (length (children_in row.depth rows) ≤ 1000) × EachFew rows

  forest_ordinary : (row : Row) (rows : List Row) → ((n : ℕ) → IsOrdinaryStyled (unwrap_or (styles n) initial_style)) → MayAllFollow row rows → EachFew (row ∷ rows)
      → AreOrdinary (forest (styled_rows styles (row ∷ rows)))
  unfolding forest
  forest_ordinary row [] all h few = (all row.node.0, (omega arith, (tt, tt)))
  forest_ordinary row (next ∷ rows) all h few =
      let rest = forest_ordinary next rows all h.1 few.1 in
      let less = tops_few row (next ∷ rows) h in
      let most = few.0 in
      (all row.node.0, (omega (arith, less, most), (under_ordinary row.depth (forest (styled_rows styles (next ∷ rows))) rest, behind_ordinary row.depth (forest (styled_rows styles (next ∷ rows))) rest)))

  -- ---- by their numbers

  counted_in : (n : ℕ) (front : List Row) (row : Row) (rest : List Row) → has_number n row ≡ true → 1 ≤ count_of n (front ++ (row ∷ rest))
  counted_in n [] row rest is = rw is (omega arith)
  counted_in n (first ∷ front) row rest is = let more = counted_in n front row rest is in omega (arith, more)

  from_at : (n : ℕ) (front : List Row) (row : Row) (rest : List Row) → has_number n row ≡ true → count_of n (front ++ (row ∷ rest)) ≤ 1 → from_of n (front ++ (row ∷ rest)) ≡ row ∷ rest
  from_at n [] row rest is once = rw is refl
  from_at n (first ∷ front) row rest is once = by (has_number n first) once (from_at n front row rest is)
    where
      by : (b : Bool) → cond b 1 0 + count_of n (front ++ (row ∷ rest)) ≤ 1 → (count_of n (front ++ (row ∷ rest)) ≤ 1 → from_of n (front ++ (row ∷ rest)) ≡ row ∷ rest) → cond b (first ∷ (front ++ (row ∷ rest))) (from_of n (front ++ (row ∷ rest))) ≡ row ∷ rest
      by true h later = let more = counted_in n front row rest is in absurd (omega (arith, h, more))
      by false h later = later (omega (arith, h))

  each_few : (front rows : List Row) → NumbersDiffer (front ++ rows) → ((n : ℕ) → length (children_of n (front ++ rows)) ≤ 1000) → EachFew rows
  each_few front [] differ few = tt
  each_few front (row ∷ rows) differ few =
      let here = from_at row.node.0 front row rows (eq-eqb row.node.0 row.node.0 refl) (differ row.node.0) in
      let next : (front ++ row ∷ []) ++ rows ≡ front ++ (row ∷ rows) = append_assoc front (row ∷ []) rows in (
        subst (λ (rs : List Row). length (first_children rs) ≤ 1000) here (few row.node.0),
        each_few (front ++ row ∷ []) rows (subst NumbersDiffer (sym next) differ) (subst (λ (rs : List Row). (n : ℕ) → length (children_of n rs) ≤ 1000) (sym next) few),
      )

  pub rows_ordinary : (rows : List Row) → ((n : ℕ) → IsOrdinaryStyled (unwrap_or (styles n) initial_style)) → IsOrdinaryTree rows → AreOrdinary (forest (styled_rows styles rows))
  rows_ordinary [] all tree = absurd tree.preorder
  rows_ordinary (row ∷ rows) all tree = forest_ordinary row rows all tree.preorder.1 (each_few [] (row ∷ rows) tree.differ tree.few)
