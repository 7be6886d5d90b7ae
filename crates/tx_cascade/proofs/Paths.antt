-- A row's style by its parent's, on the way from the Screen down.
use Rattle.std.proofs.Common.{◌≡◌, ℕ, ◌+◌, ◌*◌, ◌≤◌, true, length, List, [], ◌∷◌, Option, Some, None, is_some, option_map, Result, Ok, Err, IfOk, refl, sym, ap, ◌∙◌, arith}
use Rattle.std.specs.Option.{option_map_or}
use Rattle.tx_tree.specs.Row.{number}
use Rattle.tx_tree.specs.Rows.{row_at, parent_of, ancestors_of, count_of}
use Rattle.tx_tree.specs.declared.row.Row.{Row}
use Rattle.tx_tree.specs.declared.row.NodeId.{NodeId}
use Rattle.tx_parse.specs.Values.{SheetValue}
use Rattle.tx_value.specs.declared.value.Value.{Value}
use Rattle.tx_select.specs.declared.value.Pseudo.{Pseudo as State}
use Rattle.tx_cascade.specs.Cascade.{style_below, styled, up_from, IsStyleOf}
use Rattle.tx_cascade.specs.Matchers.{Matcher, matchers_of}
use Rattle.tx_cascade.specs.Reaching.{reaching}
use Rattle.tx_cascade.proofs.Matching.{matchers-agree}
use Rattle.tx_cascade.proofs.lemmas.Parents.{the-row, no-row, parent-at, up-row, up-top}

module _ (rows : List Row) (once : (n : ℕ) → count_of n rows ≤ 1) where
  -- the rows from a row up, where a parent was answered
  pub up-parent : (n : ℕ) (row : Row) (parent : NodeId) → row_at n rows ≡ Some row → Some parent ≡ option_map (λ r. r.node) (parent_of n rows)
      → up_from rows n ≡ row ∷ up_from rows parent.0
  up-parent n row parent there is =
      let found = the-row (parent_of n rows) parent is in
      up-row rows once n row found.0 there found.1 ∙ ap (λ (p : NodeId). row ∷ up_from rows p.0) found.2

  pub parent-is-there : (n : ℕ) (parent : NodeId) → Some parent ≡ option_map (λ r. r.node) (parent_of n rows) → is_some (row_at parent.0 rows) ≡ true
  parent-is-there n parent is =
      let found = the-row (parent_of n rows) parent is in
      let at : row_at (number found.0) rows ≡ Some found.0 = parent-at rows once n found.0 found.1 in
      ap (λ (p : NodeId). is_some (row_at p.0 rows)) (sym found.2) ∙ ap (λ (o : Option Row). is_some o) at

  -- or none
  pub up-alone : (n : ℕ) (row : Row) → row_at n rows ≡ Some row → None ≡ option_map (λ r. r.node) (parent_of n rows) → up_from rows n ≡ row ∷ []
  up-alone n row there is = up-top rows n row there (no-row (parent_of n rows) is)

  -- a row's style, where its parent's is known
  pub styled-below : (matchers : ℕ → Matcher) (sheet : SheetValue) (n : ℕ) (row : Row) (up : List Row) (above style : List Value) → row_at n rows ≡ Some row → up_from rows n ≡ row ∷ up → above ≡ styled matchers sheet up
      → style ≡ style_below above (reaching (matchers (number row)) sheet row.inline) → style ≡ styled matchers sheet (up_from rows n)
  styled-below matchers sheet n row up above style there path known is =
      is ∙ (ap (λ (a : List Value). style_below a (reaching (matchers (number row)) sheet row.inline)) known ∙ sym (ap (styled matchers sheet) path))

  -- the style that is so found is the style of the row
  pub is-style : (state : State) (sheet : SheetValue) (n : ℕ) (style : List Value) → is_some (row_at n rows) ≡ true → style ≡ styled (matchers_of state rows) sheet (up_from rows n)
      → IsStyleOf sheet state rows n style
  is-style state sheet n style there is = by (row_at n rows) refl there
    where
      by : (o : Option Row) → row_at n rows ≡ o → is_some o ≡ true → IsStyleOf sheet state rows n style
      by None none some = cc
      by (Some row) at some = record {
        row = row;
        there = at;
        matchers = matchers_of state rows;
        agree = matchers-agree rows once state;
        is = is ∙ ap (λ (o : Option Row). styled (matchers_of state rows) sheet (option_map_or (λ r. r ∷ ancestors_of n rows) o [])) at;
      }

  pub all-styles : {E : Type 0} (state : State) (sheet : SheetValue) (n : ℕ) → is_some (row_at n rows) ≡ true → (result : Result (List Value) E)
      → IfOk result (λ style. style ≡ styled (matchers_of state rows) sheet (up_from rows n)) → IfOk result (λ style. IsStyleOf sheet state rows n style)
  all-styles state sheet n there (Ok style) is = is-style state sheet n style there is
  all-styles state sheet n there (Err fault) is = tt

  -- the same of an answer
  pub answer-below : {E : Type 0} (matchers : ℕ → Matcher) (sheet : SheetValue) (n : ℕ) (row : Row) (up : List Row) (above : List Value) → row_at n rows ≡ Some row → up_from rows n ≡ row ∷ up → above ≡ styled matchers sheet up
      → (result : Result (List Value) E) → IfOk result (λ style. style ≡ style_below above (reaching (matchers (number row)) sheet row.inline)) → IfOk result (λ style. style ≡ styled matchers sheet (up_from rows n))
  answer-below matchers sheet n row up above there path known (Ok style) is = styled-below matchers sheet n row up above style there path known is
  answer-below matchers sheet n row up above there path known (Err fault) is = tt

-- tests at the rows above, and at one row more
pub tested-up : (each : ℕ) (above : List Row) (row : Row) (path : List Row) → path ≡ row ∷ above → each * length above + each ≤ each * length path
tested-up each above row path is = rw is (omega arith)
