-- For the tests: edits that lead on to another size.
use Rattle.std.proofs.Common.{◌≡◌, ℕ, Bool, true, false, List, [], ◌∷◌, Option, Some, None, ◌∙◌, refl, sym, ap, ap₂, subst, inl, inr}
use Rattle.std.proofs.lemmas.Bool.{cases_Bool, eqb-true, false≢true}
use Rattle.std.proofs.lemmas.List.Elements.{All-cons, All-nil}
use Rattle.std.specs.List.{find, list_any}
use Rattle.std.specs.Prelude.{◌==◌, ◌||◌, not, option_map, unwrap_or, if◌then◌else◌}
use Rattle.tx_cascade.specs.Edits.{Leads}
use Rattle.tx_cascade.specs.declared.edit.Edit.{Edit}
use Rattle.tx_cascade.specs.declared.edit.Edit.TheVariants.{Resized}
use Rattle.tx_compose.proofs.EditLaws.{leads_more}
use Rattle.tx_compose.specs.Following.{EditsLead, ScrollsLead, kept_scroll, scroll_for}
use Rattle.tx_compose.specs.Frame.{entry_in, reported_entry}
use Rattle.tx_compose.specs.Presented.{Presented}
use Rattle.tx_compose.specs.ScrollsKept.{differs, is_out}
use Rattle.tx_node_map.specs.Held.{held}
use Rattle.tx_picture.specs.Given.{AreBuiltIn}
use Rattle.tx_tree.specs.Kind.{is_handed}
use Rattle.tx_tree.specs.Row.{has_number}
use Rattle.tx_tree.specs.Rows.{row_at}
use Rattle.tx_tree.specs.declared.row.Row.{Row}

built_by : (row : Row) (rows : List Row) (b : Bool) → is_handed row.kind ≡ b → (b || list_any (λ (r : Row). is_handed r.kind) rows) ≡ false
    → (list_any (λ (r : Row). is_handed r.kind) rows ≡ false → AreBuiltIn rows) → AreBuiltIn (row ∷ rows)
built_by row rows true is none rest = absurd (false≢true (sym none))
built_by row rows false is none rest = All-cons (λ (r : Row). is_handed r.kind ≡ false) row rows is (rest none)

pub built_in : (rows : List Row) → list_any (λ (row : Row). is_handed row.kind) rows ≡ false → AreBuiltIn rows
built_in [] none = All-nil (λ (r : Row). is_handed r.kind ≡ false)
built_in (row ∷ rows) none = built_by row rows (is_handed row.kind) refl none (built_in rows)

-- what no row passes, the row that is found doesn't
fails_by : (test : Row → Bool) (here : Row → Bool) (row : Row) (rows : List Row) (found : Row) (b t : Bool) → here row ≡ b → test row ≡ t → (t || list_any test rows) ≡ false
    → (if b then Some row else find here rows) ≡ Some found → (list_any test rows ≡ false → find here rows ≡ Some found → test found ≡ false) → test found ≡ false
fails_by test here row rows found b true at is none finds rest = absurd (false≢true (sym none))
fails_by test here row rows found true false at is none finds rest = let same : row ≡ found = (let e : Some row ≡ Some found = finds in cc) in ap test (sym same) ∙ is
fails_by test here row rows found false false at is none finds rest = rest none finds

fails : (test here : Row → Bool) (rows : List Row) (found : Row) → list_any test rows ≡ false → find here rows ≡ Some found → test found ≡ false
fails test here [] found none finds = absurd (let e : None ≡ Some found = finds in cc)
fails test here (row ∷ rows) found none finds = fails_by test here row rows found (here row) (test row) refl refl none finds (fails test here rows found)

same_by : (a b : ℕ) → not (a == b) ≡ false → a ≡ b
same_by a b is = elim (cases_Bool (a == b)) [
  | inl same ↦ eqb-true a b same
  | inr other ↦ absurd (false≢true (sym (rw other at is)))
]

or_first : (a b : Bool) → (a || b) ≡ false → (a ≡ false) × (b ≡ false)
or_first true b is = absurd (false≢true (sym is))
or_first false b is = (refl, is)

abbrev paired : ℕ → ℕ → ℕ × ℕ
paired a b = (a, b)

kept_by : (kept : Option (ℕ × ℕ)) (scroll : ℕ × ℕ) → differs kept scroll ≡ false → unwrap_or kept scroll ≡ scroll
kept_by None scroll is = refl
kept_by (Some kept) scroll is =
    let parts = or_first (not (kept.0 == scroll.0)) (not (kept.1 == scroll.1)) is in
    let x : kept.0 ≡ scroll.0 = same_by kept.0 scroll.0 parts.0 in
    let y : kept.1 ≡ scroll.1 = same_by kept.1 scroll.1 parts.1 in
    ap₂ paired x y

pub goes_on : (goes : Bool) (accepted : Option Presented) (before after : Presented) → accepted ≡ Some before → before.rows ≡ after.rows → before.scrolls ≡ after.scrolls
    → Leads [] before.rows before.pseudo after.rows after.pseudo → list_any (is_out accepted after.scrolls) after.rows ≡ false → (other : Presented) → goes ≡ true → accepted ≡ Some other → EditsLead (Resized ∷ []) other after
goes_on goes accepted before after was rows scrolls l none other on is =
    let same : before ≡ other = (let e : Some before ≡ Some other = sym was ∙ is in cc) in
    subst (λ (p : Presented). EditsLead (Resized ∷ []) p after) same
    (record {
      rows = leads_more Resized [] before.rows after.rows before.pseudo after.pseudo l;
      scrolls = λ n old new a b named.
          let out = fails (is_out accepted after.scrolls) (has_number n) after.rows new none b in
          let out_then : differs (option_map (λ entry. entry.scroll) (entry_in before new.node)) (scroll_for after new.node) ≡ false =
          subst (λ (o : Option Presented). differs (option_map (λ entry. entry.scroll) (reported_entry o new.node)) (scroll_for after new.node) ≡ false) was out in
          ap (λ s. unwrap_or (option_map (λ entry. entry.scroll) (entry_in before new.node)) (unwrap_or (held s new.node.0) (0, 0))) scrolls
          ∙ kept_by (option_map (λ entry. entry.scroll) (entry_in before new.node)) (scroll_for after new.node) out_then;
      size = λ none. absurd (false≢true (sym none));
    })
