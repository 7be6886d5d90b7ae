-- Rows that stand among others: what the others have in common with the same rows without them, and what they have of their own.
use Rattle.std.proofs.Common.{◌≡◌, ℕ, ◌+◌, ◌<◌, ◌==◌, ◌||◌, true, cond, List, [], ◌∷◌, ◌++◌, Option, Some, None, refl, sym, ap, ◌∙◌, arith, inl, inr, append-nil}
use Rattle.std.specs.List.{list_any}
use Rattle.std.proofs.lemmas.Bool.{cases_Bool, cases_lt, eq-eqb, eqb-true}
use Rattle.std.proofs.lemmas.List.Folds.{list_any-append}
use Rattle.tx_tree.specs.Row.{number, has_number}
use Rattle.tx_tree.specs.Rows.{row_at, before_of, last_above, parent_of, count_of}
use Rattle.tx_tree.specs.declared.row.Row.{Row}
use Rattle.tx_tree.proofs.lemmas.NumbersAndIds.{row_at-skip}
use Rattle.tx_cascade.specs.Edits.{comes_before}
use Rattle.tx_cascade.proofs.RowParts.{Climbs, AreAsDeep, depth-at, any-none, at-none, before-skip, front-at, front-before, above-append, above-deep, above-within, deep-less, parent-is, parent-none}

-- ---- rows that aren't among them

module _ (ys zs : List Row) (depth : ℕ) (deep : AreAsDeep depth ys) (climbs : Climbs depth zs) where
  pub same-at : (n : ℕ) (xs : List Row) → count_of n ys ≡ 0 → row_at n (xs ++ zs) ≡ row_at n (xs ++ (ys ++ zs))
  same-at n [] none = sym (row_at-skip n ys zs none)
  same-at n (x ∷ xs) none = elim (cases_Bool (has_number n x)) [
    | inl own ↦ rw own refl
    | inr other ↦ rw other (same-at n xs none)
  ]

  across : (n : ℕ) (row : Row) (found : Option Row) → row_at n zs ≡ Some row → last_above row.depth (last_above row.depth found ys) (before_of n zs) ≡ last_above row.depth found (before_of n zs)
  across n row found there = elim (cases_lt depth row.depth) [
    | inl lt ↦ above-within depth n zs row (last_above row.depth found ys) found climbs there lt
    | inr le ↦ ap (λ (o : Option Row). last_above row.depth o (before_of n zs)) (above-deep row.depth found ys (deep-less row.depth depth ys le deep))
  ]

  same-above : (n : ℕ) (xs : List Row) (row : Row) (found : Option Row) → count_of n ys ≡ 0 → row_at n (xs ++ zs) ≡ Some row
      → last_above row.depth found (before_of n (xs ++ zs)) ≡ last_above row.depth found (before_of n (xs ++ (ys ++ zs)))
  same-above n [] row found none there =
      sym (ap (λ (rs : List Row). last_above row.depth found rs) (before-skip n ys zs none)
      ∙ (above-append row.depth found ys (before_of n zs) ∙ across n row found there))
  same-above n (x ∷ xs) row found none there = elim (cases_Bool (has_number n x)) [
    | inl own ↦ rw own refl
    | inr other ↦ let was = rw other at there in rw other (same-above n xs row (cond (x.depth + 1 == row.depth) (Some x) found) none was)
  ]

  parent-by : (n : ℕ) (xs : List Row) (at : Option Row) → count_of n ys ≡ 0 → row_at n (xs ++ zs) ≡ at → parent_of n (xs ++ zs) ≡ parent_of n (xs ++ (ys ++ zs))
  parent-by n xs None none there = parent-none n (xs ++ zs) there ∙ sym (parent-none n (xs ++ (ys ++ zs)) (sym (same-at n xs none) ∙ there))
  parent-by n xs (Some row) none there =
      parent-is n (xs ++ zs) row there
      ∙ (same-above n xs row None none there ∙ sym (parent-is n (xs ++ (ys ++ zs)) row (sym (same-at n xs none) ∙ there)))

  pub same-parent : (n : ℕ) (xs : List Row) → count_of n ys ≡ 0 → parent_of n (xs ++ zs) ≡ parent_of n (xs ++ (ys ++ zs))
  same-parent n xs none = parent-by n xs (row_at n (xs ++ zs)) none refl

  pub same-order : (n m : ℕ) (xs : List Row) → count_of n ys ≡ 0 → count_of m ys ≡ 0 → comes_before n m (xs ++ zs) ≡ comes_before n m (xs ++ (ys ++ zs))
  same-order n m [] n_none m_none =
      sym (ap (list_any (has_number n)) (before-skip m ys zs m_none)
      ∙ (list_any-append (has_number n) ys (before_of m zs) ∙ ap (λ b. b || list_any (has_number n) (before_of m zs)) (any-none n ys n_none)))
  same-order n m (x ∷ xs) n_none m_none = elim (cases_Bool (has_number m x)) [
    | inl own ↦ rw own refl
    | inr other ↦ rw other (ap (λ b. has_number n x || b) (same-order n m xs n_none m_none))
  ]

-- ---- rows that are among them

some-at : (n : ℕ) (rows : List Row) (at : Option Row) → row_at n rows ≡ at → 0 < count_of n rows → (row : Row) × (row_at n rows ≡ Some row)
some-at n rows None there some = absurd (omega (arith, some, at-none n rows there))
some-at n rows (Some row) there some = (row, there)

pub counted-at : (n : ℕ) (rows : List Row) → 0 < count_of n rows → (row : Row) × (row_at n rows ≡ Some row)
counted-at n rows some = some-at n rows (row_at n rows) refl some

pub own-at : (first : Row) (rows : List Row) → row_at (number first) (first ∷ rows) ≡ Some first
own-at first rows = let own : has_number (number first) first ≡ true = eq-eqb _ _ refl in rw own refl

pub own-before : (first : Row) (rows : List Row) → before_of (number first) (first ∷ rows) ≡ []
own-before first rows = let own : has_number (number first) first ≡ true = eq-eqb _ _ refl in rw own refl

-- a row that isn't the first one stands behind it
pub behind-at : (n : ℕ) (first : Row) (rows : List Row) (row : Row) → (number first ≡ n → ⊥) → row_at n (first ∷ rows) ≡ Some row → row_at n rows ≡ Some row
behind-at n first rows row differ there = elim (cases_Bool (has_number n first)) [
  | inl own ↦ absurd (differ (eqb-true (number first) n own))
  | inr other ↦ let was = rw other at there in was
]

module _ (first : Row) (below : List Row) (xs zs : List Row) (deep : AreAsDeep (first.depth + 1) below) (climbs : Climbs first.depth (first ∷ below)) where
  abbrev ys : List Row
  ys = first ∷ below

  pub at-within : (n : ℕ) → count_of n xs ≡ 0 → 0 < count_of n ys → row_at n (xs ++ (ys ++ zs)) ≡ row_at n ys
  at-within n none some =
      let found = counted-at n ys some in
      row_at-skip n xs (ys ++ zs) none ∙ (front-at n ys zs found.0 found.1 ∙ sym found.1)

  before-within : (n : ℕ) → count_of n xs ≡ 0 → 0 < count_of n ys → before_of n (xs ++ (ys ++ zs)) ≡ xs ++ before_of n ys
  before-within n none some =
      let found = counted-at n ys some in
      before-skip n xs (ys ++ zs) none ∙ ap (λ (rs : List Row). xs ++ rs) (front-before n ys zs found.0 found.1)

  pub order-within : (n m : ℕ) → count_of n xs ≡ 0 → count_of m xs ≡ 0 → 0 < count_of m ys → comes_before n m (xs ++ (ys ++ zs)) ≡ comes_before n m ys
  order-within n m n_none m_none m_some =
      ap (list_any (has_number n)) (before-within m m_none m_some)
      ∙ (list_any-append (has_number n) xs (before_of m ys) ∙ ap (λ b. b || list_any (has_number n) (before_of m ys)) (any-none n xs n_none))

  pub parent-within : (n : ℕ) → (number first ≡ n → ⊥) → count_of n xs ≡ 0 → 0 < count_of n ys → parent_of n (xs ++ (ys ++ zs)) ≡ parent_of n ys
  parent-within n differ none some =
      let found = counted-at n ys some in
      let row : Row = found.0 in
      let lower : first.depth < row.depth = let deeper = depth-at n (first.depth + 1) below row deep (behind-at n first below row differ found.1) in omega (arith, deeper) in
      parent-is n (xs ++ (ys ++ zs)) row (at-within n none some ∙ found.1)
      ∙ (ap (λ (rs : List Row). last_above row.depth None rs) (before-within n none some)
      ∙ (above-append row.depth None xs (before_of n ys)
      ∙ (above-within first.depth n ys row (last_above row.depth None xs) None climbs found.1 lower
      ∙ sym (parent-is n ys row found.1))))

  pub parent-first : count_of (number first) xs ≡ 0 → 0 < count_of (number first) ys → parent_of (number first) (xs ++ (ys ++ zs)) ≡ last_above first.depth None xs
  parent-first none some =
      parent-is (number first) (xs ++ (ys ++ zs)) first (at-within (number first) none some ∙ own-at first below)
      ∙ (ap (λ (rs : List Row). last_above first.depth None rs) (before-within (number first) none some)
      ∙ ap (λ (rs : List Row). last_above first.depth None rs) (ap (λ (rs : List Row). xs ++ rs) (own-before first below) ∙ append-nil xs))
