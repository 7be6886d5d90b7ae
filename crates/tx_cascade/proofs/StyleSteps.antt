-- The styles of all rows, one after another.
use Rattle.std.proofs.Common.{◌≡◌, ℕ, ◌+◌, ◌≤◌, ◌==◌, Bool, true, false, List, [], ◌∷◌, ◌++◌, Option, Some, None, option_map, refl, sym, ap, subst, ◌∙◌, arith, inl, inr, append-nil, length, length-append, is_some, ◌*◌, Bor, option_copied}
use Rattle.std.specs.Prelude.{MatchOption}
use Rattle.std.proofs.lemmas.Bool.{cases_Bool, eq-eqb, eqb-true, false≢true}
use Rattle.std.specs.Option.{option_map_or}
use Rattle.tx_tree.specs.Row.{number, has_number}
use Rattle.tx_tree.specs.Rows.{row_at, before_of, parent_of, ancestors_of, count_of}
use Rattle.tx_tree.specs.declared.row.Row.{Row}
use Rattle.tx_tree.specs.declared.row.NodeId.{NodeId}
use Rattle.tx_tree.proofs.lemmas.NumbersAndIds.{count_of-append, row_at-skip}
use Rattle.tx_node_map.specs.Held.{with_at}
use Rattle.tx_parse.specs.Values.{SheetValue}
use Rattle.tx_value.specs.declared.value.Value.{Value}
use Rattle.tx_select.specs.Match.{IsAmong}
use Rattle.tx_select.specs.declared.value.Pseudo.{Pseudo as State}
use Rattle.tx_cascade.specs.Cascade.{styled, up_from, IsStyleOf}
use Rattle.tx_cascade.specs.Styles.{styles_within, all_styles, ParentIsStyled, StandsAt, ArePlaced}
use Rattle.tx_cascade.specs.Matchers.{matchers_of}
use Rattle.tx_cascade.proofs.Paths.{is-style}
use Rattle.tx_select.proofs.lemmas.Ancestry.{row-among}
use Rattle.tx_cascade.proofs.lemmas.Parents.{the-row, parent-before, parent-at, some-same, none-before}

-- ---- rows behind others

before-row : (done rest : List Row) (row : Row) → count_of (number row) done ≡ 0 → before_of (number row) (done ++ (row ∷ rest)) ≡ done
before-row [] rest row none = let own : has_number (number row) row ≡ true = eq-eqb (number row) (number row) refl in rw own refl
before-row (first ∷ done) rest row none = elim (cases_Bool (has_number (number row) first)) [
  | inl same ↦ let was = rw same at none in absurd (omega (arith, was))
  | inr other ↦ let was = rw other at none in rw other (ap (λ (rs : List Row). first ∷ rs) (before-row done rest row (omega (arith, was))))
]

pub found-row : (rows : List Row) → ((n : ℕ) → count_of n rows ≤ 1) → (done rest : List Row) (row : Row) → done ++ (row ∷ rest) ≡ rows → row_at (number row) rows ≡ Some row
found-row rows once done rest row whole =
    let own : has_number (number row) row ≡ true = eq-eqb (number row) (number row) refl in
    ap (row_at (number row)) (sym whole) ∙ (row_at-skip (number row) done (row ∷ rest) (none-before rows once done rest row whole) ∙ rw own refl)

at-new : (done : List Row) (row : Row) → count_of (number row) done ≡ 0 → row_at (number row) (done ++ (row ∷ [])) ≡ Some row
at-new done row none =
    let own : has_number (number row) row ≡ true = eq-eqb (number row) (number row) refl in
    row_at-skip (number row) done (row ∷ []) none ∙ rw own refl

at-other : (n : ℕ) (done : List Row) (row : Row) → has_number n row ≡ false → row_at n (done ++ (row ∷ [])) ≡ row_at n done
at-other n [] row other = rw other refl
at-other n (first ∷ done) row other = elim (cases_Bool (has_number n first)) [
  | inl same ↦ rw same refl
  | inr differs ↦ rw differs (at-other n done row other)
]

module _ (rows : List Row) (once : (n : ℕ) → count_of n rows ≤ 1) (sheet : SheetValue) (state : State) where
  -- the style of a row's parent was worked out before
  pub above-held : (done rest : List Row) (row : Row) (held : ℕ → Option (List Value)) → done ++ (row ∷ rest) ≡ rows → ((n : ℕ) → held n ≡ styles_within sheet state rows done n)
      → ParentIsStyled sheet state rows (number row) held
  above-held done rest row held whole so_far parent is =
      let found = the-row (parent_of (number row) rows) parent is in
      let none : count_of (number row) done ≡ 0 = none-before rows once done rest row whole in
      let before : before_of (number row) rows ≡ done = ap (before_of (number row)) (sym whole) ∙ before-row done rest row none in
      let among : IsAmong found.0 done = subst (λ (rs : List Row). IsAmong found.0 rs) before (parent-before rows (number row) found.0 found.1) in
      let few : count_of (number found.0) done ≤ 1 = omega (arith, once (number found.0), ap (count_of (number found.0)) whole, count_of-append (number found.0) done (row ∷ rest)) in
      let at : row_at (number found.0) done ≡ Some found.0 = row-among done found.0 few among in
      let path : up_from rows (number found.0) ≡ found.0 ∷ ancestors_of (number found.0) rows =
      ap (λ (o : Option Row). option_map_or (λ r. r ∷ ancestors_of (number found.0) rows) o []) (parent-at rows once (number row) found.0 found.1) in
      subst (λ (p : NodeId). held p.0 ≡ Some (styled (matchers_of state rows) sheet (up_from rows p.0))) found.2
      (so_far (number found.0)
      ∙ (ap (λ (o : Option Row). option_map (λ r. styled (matchers_of state rows) sheet (r ∷ ancestors_of (number found.0) rows)) o) at
      ∙ ap (λ (rs : List Row). Some (styled (matchers_of state rows) sheet rs)) (sym path)))

  -- one row more has its style
  pub next-held : (done rest : List Row) (row : Row) (style : List Value) (held next : ℕ → Option (List Value)) → done ++ (row ∷ rest) ≡ rows → ((n : ℕ) → held n ≡ styles_within sheet state rows done n)
      → style ≡ styled (matchers_of state rows) sheet (up_from rows (number row)) → next ≡ with_at held (number row) (Some style) → (n : ℕ) → next n ≡ styles_within sheet state rows (done ++ (row ∷ [])) n
  next-held done rest row style held next whole so_far is put n = ap (λ (f : ℕ → Option (List Value)). f n) put ∙ by (n == number row) refl
    where
      none : count_of (number row) done ≡ 0
      none = none-before rows once done rest row whole

      own : Some style ≡ styles_within sheet state rows (done ++ (row ∷ [])) (number row)
      own =
          ap (λ (s : List Value). Some s) is
          ∙ (ap (λ (o : Option Row). Some (styled (matchers_of state rows) sheet (option_map_or (λ r. r ∷ ancestors_of (number row) rows) o []))) (found-row rows once done rest row whole)
          ∙ sym (ap (λ (o : Option Row). option_map (λ r. styled (matchers_of state rows) sheet (r ∷ ancestors_of (number row) rows)) o) (at-new done row none)))

      by : (b : Bool) → (n == number row) ≡ b → with_at held (number row) (Some style) n ≡ styles_within sheet state rows (done ++ (row ∷ [])) n
      by true same =
          let e : n ≡ number row = eqb-true n (number row) same in
          rw same (subst (λ (m : ℕ). Some style ≡ styles_within sheet state rows (done ++ (row ∷ [])) m) (sym e) own)
      by false other =
          let turned : has_number n row ≡ false = elim (cases_Bool (has_number n row)) [
            | inl same ↦ absurd (false≢true (sym other ∙ eq-eqb n (number row) (sym (eqb-true (number row) n same))))
            | inr differs ↦ differs
          ] in
          rw other (so_far n ∙ sym (ap (λ (o : Option Row). option_map (λ r. styled (matchers_of state rows) sheet (r ∷ ancestors_of n rows)) o) (at-other n done row turned)))

  -- at last all have
  pub all-held : (done : List Row) → done ++ [] ≡ rows → styles_within sheet state rows done ≡ all_styles sheet state rows
  unfolding all_styles
  all-held done whole = λ i n. ap (λ (rs : List Row). styles_within sheet state rows rs n) (sym (append-nil done) ∙ whole) i

  pub placed-next : (done rest : List Row) (row : Row) (style : List Value) (made : List (List Value)) (places : ℕ → Option ℕ) → done ++ (row ∷ rest) ≡ rows
      → style ≡ styled (matchers_of state rows) sheet (up_from rows (number row)) → ArePlaced made places (with_at (styles_within sheet state rows done) (number row) (Some style))
      → ArePlaced made places (styles_within sheet state rows (done ++ (row ∷ [])))
  placed-next done rest row style made places whole is placed n =
      subst (λ (o : Option (List Value)). StandsAt made (places n) o)
      (next-held done rest row style (styles_within sheet state rows done) (with_at (styles_within sheet state rows done) (number row) (Some style)) whole (λ m. refl) is refl n) (placed n)

  pub all-placed : (done : List Row) (made : List (List Value)) (places : ℕ → Option ℕ) → done ++ [] ≡ rows → ArePlaced made places (styles_within sheet state rows done) → ArePlaced made places (all_styles sheet state rows)
  all-placed done made places whole placed = subst (λ (f : ℕ → Option (List Value)). ArePlaced made places f) (all-held done whole) placed

  -- what is held is what is answered
  of-none : {A B : Type 0} (f : A → B) (o : Option A) → None ≡ option_map f o → o ≡ None
  of-none f None is = refl
  of-none f (Some a) is = let clash : None ≡ Some (f a) = is in cc

  at-row : (n : ℕ) (style : List Value) (o : Option Row) → row_at n rows ≡ o → Some style ≡ option_map (λ row. styled (matchers_of state rows) sheet (row ∷ ancestors_of n rows)) o → IsStyleOf sheet state rows n style
  at-row n style None at is = let clash : Some style ≡ None = is in cc
  at-row n style (Some row) at is =
      let same : style ≡ styled (matchers_of state rows) sheet (row ∷ ancestors_of n rows) = some-same style (styled (matchers_of state rows) sheet (row ∷ ancestors_of n rows)) is in
      is-style rows once state sheet n style (ap (λ (o : Option Row). is_some o) at)
      (same ∙ sym (ap (λ (o : Option Row). styled (matchers_of state rows) sheet (option_map_or (λ r. r ∷ ancestors_of n rows) o [])) at))

  pub shown : (n : ℕ) (result : Option (Bor (List Value))) → option_copied result ≡ all_styles sheet state rows n
      → MatchOption result (row_at n rows ≡ None) (λ style. IsStyleOf sheet state rows n style.now)
  unfolding all_styles
  shown n None is = of-none (λ row. styled (matchers_of state rows) sheet (row ∷ ancestors_of n rows)) (row_at n rows) is
  shown n (Some style) is = at-row n style.now (row_at n rows) refl is

-- tests at one row more of the tree
pub tested-row : (each : ℕ) (done rest : List Row) (row : Row) (rows : List Row) → done ++ (row ∷ rest) ≡ rows → each * length done + each ≤ each * length rows
tested-row each done rest row rows whole =
    let many : length done + (1 + length rest) ≡ length rows = omega (arith, sym (length-append done (row ∷ rest)) ∙ ap length whole) in
    rw (← many) (omega arith)

pub tested-next : (each : ℕ) (done : List Row) (row : Row) → each * length done + each ≤ each * length (done ++ (row ∷ []))
tested-next each done row = rw (length-append done (row ∷ [])) (omega arith)
