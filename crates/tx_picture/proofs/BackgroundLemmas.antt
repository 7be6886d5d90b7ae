-- The backgrounds under rows, one row after another.
use Rattle.std.proofs.Common.{◌≡◌, ℕ, ◌≤◌, ◌==◌, Bool, true, false, List, [], ◌∷◌, ◌++◌, map, Option, Some, None, option_map, if◌then◌else◌, refl, sym, ap, subst, ◌∙◌, arith, inl, inr}
use Rattle.std.specs.Prelude.{unwrap_or}
use Rattle.std.proofs.lemmas.Bool.{cases_Bool, eq-eqb, eqb-true}
use Rattle.tx_cascade.proofs.lemmas.Parents.{none-before, parent-at, parent-before, the-row, no-row}
use Rattle.tx_cascade.specs.Styles.{StylesValue}
use Rattle.tx_geom.specs.declared.colours.Rgb.{Rgb}
use Rattle.tx_node_map.specs.Held.{with_at}
use Rattle.tx_paint.specs.Pens.{background_above, background_over}
use Rattle.tx_picture.specs.Backgrounds.{AreBackgrounds, ParentIsHeld}
use Rattle.tx_picture.specs.Picture.{background_under, style_of, styles_of}
use Rattle.tx_select.proofs.lemmas.Ancestry.{row-among, up-none, up-parent}
use Rattle.tx_select.specs.Match.{IsAmong}
use Rattle.tx_tree.proofs.lemmas.NumbersAndIds.{count_of-append, row_at-skip}
use Rattle.tx_tree.specs.Row.{has_number, number}
use Rattle.tx_tree.specs.Rows.{ancestors_of, before_of, count_of, parent_of, row_at}
use Rattle.tx_tree.specs.declared.row.NodeId.{NodeId}
use Rattle.tx_tree.specs.declared.row.Row.{Row}
use Rattle.tx_value.specs.HexColours.{black}
use Rattle.tx_value.specs.Style.{initial_style}
use Rattle.tx_value.specs.declared.value.Value.{Value}

pub under-top : (shown : StylesValue) (n : ℕ) → None ≡ option_map (λ row. row.node) (parent_of n shown.rows) → background_under shown n ≡ black
unfolding background_under
under-top shown n none =
    ap (λ (rows : List Row). background_above shown.state.dark (map (style_of shown) rows)) (up-none shown.rows n (no-row (parent_of n shown.rows) none))

-- the background under a row whose parent has this style
pub under-parent : (shown : StylesValue) → ((n : ℕ) → count_of n shown.rows ≤ 1) → (n : ℕ) (parent : NodeId) (values : List Value)
    → Some parent ≡ option_map (λ row. row.node) (parent_of n shown.rows) → Some values ≡ styles_of shown parent.0
    → background_under shown n ≡ background_over shown.state.dark values (background_under shown parent.0)
unfolding background_under
under-parent shown once n parent values is own =
    let found = the-row (parent_of n shown.rows) parent is in
    let row = found.0 in
    let values_are : style_of shown row ≡ values =
    ap (λ (node : NodeId). unwrap_or (styles_of shown node.0) initial_style) found.2 ∙ ap (λ (v : Option (List Value)). unwrap_or v initial_style) (sym own)
    in
    ap (λ (rows : List Row). background_above shown.state.dark (map (style_of shown) rows)) (up-parent shown.rows once n row found.1)
    ∙ ap (λ (v : List Value). background_over shown.state.dark v (background_above shown.state.dark (map (style_of shown) (ancestors_of (number row) shown.rows)))) values_are
    ∙ ap (λ (node : NodeId). background_over shown.state.dark values (background_above shown.state.dark (map (style_of shown) (ancestors_of node.0 shown.rows)))) found.2

-- a row's parent is a row
pub parent-there : (rows : List Row) → ((n : ℕ) → count_of n rows ≤ 1) → (n : ℕ) (parent : NodeId) → Some parent ≡ option_map (λ row. row.node) (parent_of n rows)
    → row_at parent.0 rows ≡ None → ⊥
parent-there rows once n parent is gone =
    let found = the-row (parent_of n rows) parent is in
    let there : row_at (number found.0) rows ≡ Some found.0 = parent-at rows once n found.0 found.1 in
    let clash : None ≡ Some found.0 = sym gone ∙ sym (ap (λ (node : NodeId). row_at node.0 rows) found.2) ∙ there in
    cc

before-row : (done rest : List Row) (row : Row) → count_of (number row) done ≡ 0 → before_of (number row) (done ++ (row ∷ rest)) ≡ done
before-row [] rest row none = let own : has_number (number row) row ≡ true = eq-eqb (number row) (number row) refl in rw own refl
before-row (first ∷ done) rest row none = elim (cases_Bool (has_number (number row) first)) [
  | inl same ↦ let was = rw same at none in absurd (omega (arith, was))
  | inr other ↦ let was = rw other at none in rw other (ap (λ (rs : List Row). first ∷ rs) (before-row done rest row (omega (arith, was))))
]

at-new : (done : List Row) (row : Row) → count_of (number row) done ≡ 0 → row_at (number row) (done ++ (row ∷ [])) ≡ Some row
at-new done row none =
    let own : has_number (number row) row ≡ true = eq-eqb (number row) (number row) refl in
    row_at-skip (number row) done (row ∷ []) none ∙ rw own refl

module _ (shown : StylesValue) (once : (n : ℕ) → count_of n shown.rows ≤ 1) where
  -- the background under a row's parent was found before
  pub above-held : (done rest : List Row) (row : Row) (at : ℕ → Option Rgb) → done ++ (row ∷ rest) ≡ shown.rows → AreBackgrounds shown done at → ParentIsHeld shown (number row) at
  above-held done rest row at whole so_far parent is =
      let found = the-row (parent_of (number row) shown.rows) parent is in
      let none : count_of (number row) done ≡ 0 = none-before shown.rows once done rest row whole in
      let before : before_of (number row) shown.rows ≡ done = ap (before_of (number row)) (sym whole) ∙ before-row done rest row none in
      let among : IsAmong found.0 done = subst (λ (rs : List Row). IsAmong found.0 rs) before (parent-before shown.rows (number row) found.0 found.1) in
      let few : count_of (number found.0) done ≤ 1 =
      omega (arith, once (number found.0), ap (count_of (number found.0)) whole, count_of-append (number found.0) done (row ∷ rest))
      in
      let there : row_at (number found.0) done ≡ Some found.0 = row-among done found.0 few among in
      subst (λ (p : NodeId). at p.0 ≡ Some (background_under shown p.0)) found.2
      (so_far (number found.0) ∙ ap (λ (o : Option Row). option_map (λ r. background_under shown (number found.0)) o) there)

  at-other : (n : ℕ) (done : List Row) (row : Row) → has_number n row ≡ false → row_at n (done ++ (row ∷ [])) ≡ row_at n done
  at-other n [] row other = rw other refl
  at-other n (first ∷ done) row other = elim (cases_Bool (has_number n first)) [
    | inl same ↦ rw same refl
    | inr differs ↦ rw differs (at-other n done row other)
  ]

  with-next : (n : ℕ) (done : List Row) (row : Row) (at : ℕ → Option Rgb) (under : Rgb) (same : Bool) → has_number n row ≡ same → count_of (number row) done ≡ 0
      → under ≡ background_under shown (number row) → at n ≡ option_map (λ r. background_under shown n) (row_at n done)
      → (n' : Bool) → (n == number row) ≡ n' → (if n' then Some under else at n) ≡ option_map (λ r. background_under shown n) (row_at n (done ++ (row ∷ [])))
  with-next n done row at under true same none is so_far true back =
      let e : number row ≡ n = eqb-true (number row) n same in
      ap (λ (u : Rgb). Some u) (is ∙ ap (background_under shown) e)
      ∙ sym (ap (λ (o : Option Row). option_map (λ r. background_under shown n) o) (subst (λ (m : ℕ). row_at m (done ++ (row ∷ [])) ≡ Some row) e (at-new done row none)))
  with-next n done row at under true same none is so_far false back =
      let e : number row ≡ n = eqb-true (number row) n same in
      let clash : true ≡ false = sym (eq-eqb n (number row) (sym e)) ∙ back in
      cc
  with-next n done row at under false other none is so_far true back =
      let e : n ≡ number row = eqb-true n (number row) back in
      let clash : true ≡ false = sym (eq-eqb (number row) n (sym e)) ∙ other in
      cc
  with-next n done row at under false other none is so_far false back =
      so_far ∙ sym (ap (λ (o : Option Row). option_map (λ r. background_under shown n) o) (at-other n done row other))

  -- with the one under the next row
  pub next-held : (done rest : List Row) (row : Row) (at : ℕ → Option Rgb) (new : ℕ → Option Rgb) (under : Rgb) → done ++ (row ∷ rest) ≡ shown.rows
      → under ≡ background_under shown (number row) → new ≡ with_at at (number row) (Some under) → AreBackgrounds shown done at → AreBackgrounds shown (done ++ (row ∷ [])) new
  next-held done rest row at new under whole is new_is so_far n =
      ap (λ (f : ℕ → Option Rgb). f n) new_is
      ∙ with-next n done row at under (has_number n row) refl (none-before shown.rows once done rest row whole) is (so_far n) (n == number row) refl
