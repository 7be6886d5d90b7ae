-- Edits that lead to where others lead on from.
use Rattle.std.proofs.Common.{◌≡◌, ◌⊎◌, ℕ, ◌==◌, ◌||◌, Bool, true, false, List, ◌++◌, Option, Some, None, option_map, is_some, refl, sym, ap, subst, ◌∙◌, inl, inr}
use Rattle.std.specs.List.{list_any}
use Rattle.std.proofs.lemmas.Bool.{cases_Bool, eq-eqb, eqb-true, false≢true}
use Rattle.std.proofs.lemmas.List.Folds.{list_any-append}
use Rattle.tx_tree.specs.Row.{number}
use Rattle.std.specs.Prelude.{option_and_then}
use Rattle.tx_tree.specs.Rows.{row_at, before_of, last_above, parent_of}
use Rattle.tx_tree.specs.Walk.{NumbersDiffer}
use Rattle.tx_tree.specs.declared.row.NodeId.{NodeId}
use Rattle.tx_tree.specs.declared.row.Row.{Row}
use Rattle.tx_select.specs.declared.value.Pseudo.{Pseudo as State}
use Rattle.tx_cascade.specs.EditLaws.{StayBetween, EditsLeadOn}
use Rattle.tx_cascade.specs.Edits.{names_class, names_mounted, names_removed, names_moved, names_content, names_inline, names_disabled, names_focus, names_pointed, names_dark, comes_before, RowLeads, RowsLead, EndsNamed, StateLeads}
use Rattle.tx_cascade.specs.declared.edit.Edit.{Edit}
use Rattle.tx_cascade.proofs.lemmas.Parents.{parent-at}

-- ---- what both name

or-left : (a b : Bool) → (a || b) ≡ false → a ≡ false
or-left false b is = refl
or-left true b is = is

or-right : (a b : Bool) → (a || b) ≡ false → b ≡ false
or-right false b is = is
or-right true b is = absurd (false≢true (sym is))

or-first : (a b : Bool) → a ≡ true → (a || b) ≡ true
or-first true b is = refl
or-first false b is = absurd (false≢true is)

or-second : (a b : Bool) → b ≡ true → (a || b) ≡ true
or-second true b is = refl
or-second false b is = is

module _ (first second : List Edit) (names : Edit → Bool) where
  not-first : list_any names (first ++ second) ≡ false → list_any names first ≡ false
  not-first none = or-left (list_any names first) (list_any names second) (sym (list_any-append names first second) ∙ none)

  not-second : list_any names (first ++ second) ≡ false → list_any names second ≡ false
  not-second none = or-right (list_any names first) (list_any names second) (sym (list_any-append names first second) ∙ none)

  by-first : list_any names first ≡ true → list_any names (first ++ second) ≡ true
  by-first named = list_any-append names first second ∙ or-first (list_any names first) (list_any names second) named

  by-second : list_any names second ≡ true → list_any names (first ++ second) ≡ true
  by-second named = list_any-append names first second ∙ or-second (list_any names first) (list_any names second) named

-- ---- the pseudo state

-- two optional nodes are one, or they aren't
same-or-not : (a b : Option NodeId) → (a ≡ b) ⊎ (a ≡ b → ⊥)
same-or-not None None = inl refl
same-or-not None (Some node) = inr (λ e. let clash : None ≡ Some node = e in cc)
same-or-not (Some node) None = inr (λ e. let clash : Some node ≡ None = e in cc)
same-or-not (Some node) (Some other) = elim (cases_Bool (node.0 == other.0)) [
  | inl is ↦ inl (ap (λ (n : ℕ). Some (record { 0 = n })) (eqb-true node.0 other.0 is))
  | inr differ ↦ inr (λ e. let same : node.0 ≡ other.0 = cc in false≢true (sym differ ∙ eq-eqb node.0 other.0 same))
]

module _ (names : ℕ → Edit → Bool) (first second : List Edit) where
  ends-first : (end : Option NodeId) → EndsNamed names first end → EndsNamed names (first ++ second) end
  ends-first None named = tt
  ends-first (Some node) named = by-first first second (names node.0) named

  ends-second : (end : Option NodeId) → EndsNamed names second end → EndsNamed names (first ++ second) end
  ends-second None named = tt
  ends-second (Some node) named = by-second first second (names node.0) named

  abbrev Named : Option NodeId → Option NodeId → Type 0
  Named a b = EndsNamed names (first ++ second) a × EndsNamed names (first ++ second) b

  ends-on : (old middle new : Option NodeId)
      → ((old ≡ middle → ⊥) → EndsNamed names first old × EndsNamed names first middle)
      → ((middle ≡ new → ⊥) → EndsNamed names second middle × EndsNamed names second new)
      → (old ≡ new → ⊥) → Named old new
  ends-on old middle new one other differ = elim (same-or-not old middle) [
    | inl same ↦
        let named = other (λ e. differ (same ∙ e)) in
        (ends-second old (subst (λ (o : Option NodeId). EndsNamed names second o) (sym same) named.0), ends-second new named.1)
    | inr left ↦ elim (same-or-not middle new) [
      | inl same ↦
          let named = one left in
          (ends-first old named.0, ends-first new (subst (λ (o : Option NodeId). EndsNamed names first o) same named.1))
      | inr entered ↦ (ends-first old (one left).0, ends-second new (other entered).1)
    ]
  ]

state-on : (first second : List Edit) (old middle state : State) → StateLeads first old middle → StateLeads second middle state → StateLeads (first ++ second) old state
state-on first second old middle state one other = record {
  focused = ends-on names_focus first second old.focused middle.focused state.focused one.focused other.focused;
  pointed = ends-on names_pointed first second old.pointed middle.pointed state.pointed one.pointed other.pointed;
  dark = λ none. one.dark (not-first first second names_dark none) ∙ other.dark (not-second first second names_dark none);
}

-- ---- rows

row-on : (first second : List Edit) (n : ℕ) (old between row : Row) → RowLeads first n old between → RowLeads second n between row → RowLeads (first ++ second) n old row
row-on first second n old between row one other = record {
  classes = λ name none. one.classes name (not-first first second (names_class n name) none) ∙ other.classes name (not-second first second (names_class n name) none);
  text = λ none. one.text (not-first first second (names_content n) none) ∙ other.text (not-second first second (names_content n) none);
  inline = λ none. one.inline (not-first first second (names_inline n) none) ∙ other.inline (not-second first second (names_inline n) none);
  disabled = λ none. one.disabled (not-first first second (names_disabled n) none) ∙ other.disabled (not-second first second (names_disabled n) none);
  private = λ none. one.private (not-first first second (names_content n) none) ∙ other.private (not-second first second (names_content n) none);
  kind = one.kind ∙ other.kind;
  id = one.id ∙ other.id;
  depth = one.depth ∙ other.depth;
  binds = one.binds ∙ other.binds;
}

some-there : (o : Option Row) → is_some o ≡ true → (row : Row) × (o ≡ Some row)
some-there None is = absurd (false≢true is)
some-there (Some row) is = (row, refl)

is-there : (o : Option Row) (row : Row) → o ≡ Some row → is_some o ≡ true
is-there o row is = ap (λ (p : Option Row). is_some p) is

-- whose parent has a number has a parent
numbered : (o : Option Row) (m : ℕ) → option_map number o ≡ Some m → (row : Row) × (o ≡ Some row) × (number row ≡ m)
numbered None m is = let clash : None ≡ Some m = is in cc
numbered (Some row) m is = (row, refl, let e : Some (number row) ≡ Some m = is in cc)

found : (n : ℕ) (rows : List Row) → (row_at n rows ≡ None) ⊎ ((row : Row) × (row_at n rows ≡ Some row))
found n rows = by (row_at n rows) refl
  where
    by : (o : Option Row) → row_at n rows ≡ o → (row_at n rows ≡ None) ⊎ ((row : Row) × (row_at n rows ≡ Some row))
    by None is = inl is
    by (Some row) is = inr (row, is)

module _ (first second : List Edit) (old between rows : List Row) (one : RowsLead first old between) (other : RowsLead second between rows)
    (old_once : NumbersDiffer old) (once : NumbersDiffer between) (stay : StayBetween old between rows) where
  -- a row at both ends is there in between
  middle : (n : ℕ) (before after : Row) → row_at n old ≡ Some before → row_at n rows ≡ Some after → (row : Row) × (row_at n between ≡ Some row)
  middle n before after was is = some-there (row_at n between) (stay n (is-there (row_at n old) before was) (is-there (row_at n rows) after is))

  -- its parent there has the number of the one before
  parent-before : (n : ℕ) (before middle parent : Row) → row_at n old ≡ Some before → row_at n between ≡ Some middle → parent_of n old ≡ Some parent
      → (row : Row) × (parent_of n between ≡ Some row) × (number row ≡ number parent)
  parent-before n before middle parent was is up = numbered (parent_of n between) (number parent) (sym (one.parents n before middle was is) ∙ ap (option_map number) up)

  parent-after : (n : ℕ) (middle after parent : Row) → row_at n between ≡ Some middle → row_at n rows ≡ Some after → parent_of n rows ≡ Some parent
      → (row : Row) × (parent_of n between ≡ Some row) × (number row ≡ number parent)
  parent-after n middle after parent was is up = numbered (parent_of n between) (number parent) (other.parents n middle after was is ∙ ap (option_map number) up)

  kept-on : (n : ℕ) (before after : Row) → row_at n old ≡ Some before → row_at n rows ≡ Some after → RowLeads (first ++ second) n before after
  kept-on n before after was is =
      let mid = middle n before after was is in
      row-on first second n before mid.0 after (one.kept n before mid.0 was mid.1) (other.kept n mid.0 after mid.1 is)

  mounted-on : (n : ℕ) (row parent : Row) → row_at n old ≡ None → row_at n rows ≡ Some row → parent_of n rows ≡ Some parent → list_any (names_mounted n (number parent)) (first ++ second) ≡ true
  mounted-on n row parent was is up = elim (found n between) [
    | inl none ↦ by-second first second (names_mounted n (number parent)) (other.mounted n row parent none is up)
    | inr mid ↦
        let above = parent-after n mid.0 row parent mid.1 is up in
        by-first first second (names_mounted n (number parent))
        (subst (λ (m : ℕ). list_any (names_mounted n m) first ≡ true) above.2 (one.mounted n mid.0 above.0 was mid.1 above.1))
  ]

  removed-on : (n : ℕ) (row parent above : Row) → row_at n old ≡ Some row → row_at n rows ≡ None → parent_of n old ≡ Some parent → row_at (number parent) rows ≡ Some above
      → list_any (names_removed n (number parent)) (first ++ second) ≡ true
  removed-on n row parent above was is up there = elim (found n between) [
    | inl none ↦
        let mid = middle (number parent) parent above (parent-at old old_once n parent up) there in
        by-first first second (names_removed n (number parent)) (one.removed n row parent mid.0 was none up mid.1)
    | inr mid ↦
        let over = parent-before n row mid.0 parent was mid.1 up in
        by-second first second (names_removed n (number parent))
        (subst (λ (m : ℕ). list_any (names_removed n m) second ≡ true) over.2
        (other.removed n mid.0 over.0 above mid.1 is over.1 (subst (λ (m : ℕ). row_at m rows ≡ Some above) (sym over.2) there)))
  ]

  parents-on : (n : ℕ) (before after : Row) → row_at n old ≡ Some before → row_at n rows ≡ Some after → option_map number (parent_of n old) ≡ option_map number (parent_of n rows)
  parents-on n before after was is =
      let mid = middle n before after was is in
      one.parents n before mid.0 was mid.1 ∙ other.parents n mid.0 after mid.1 is

  there-with : (n : ℕ) (rows : List Row) (parent : Row) → parent_of n rows ≡ Some parent → (row : Row) × (row_at n rows ≡ Some row)
  there-with n rows parent up = elim (found n rows) [
    | inl none ↦ let clash : None ≡ Some parent = sym (ap (option_and_then (λ row. last_above row.depth None (before_of n rows))) none) ∙ up in cc
    | inr row ↦ row
  ]

  moved-on : (n m : ℕ) (parent above : Row) → parent_of n old ≡ Some parent → parent_of m old ≡ Some parent → parent_of n rows ≡ Some above → parent_of m rows ≡ Some above
      → list_any (names_moved n (number parent)) (first ++ second) ≡ false → list_any (names_moved m (number parent)) (first ++ second) ≡ false
      → comes_before n m old ≡ comes_before n m rows
  moved-on n m parent above n_was m_was n_is m_is n_stays m_stays =
      let n_old = there-with n old parent n_was in
      let m_old = there-with m old parent m_was in
      let n_new = there-with n rows above n_is in
      let m_new = there-with m rows above m_is in
      let n_mid = middle n n_old.0 n_new.0 n_old.1 n_new.1 in
      let m_mid = middle m m_old.0 m_new.0 m_old.1 m_new.1 in
      let n_up = parent-before n n_old.0 n_mid.0 parent n_old.1 n_mid.1 n_was in
      let m_up = parent-before m m_old.0 m_mid.0 parent m_old.1 m_mid.1 m_was in
      let same : m_up.0 ≡ n_up.0 = some-is m_up.0 n_up.0
      (sym (parent-at between once m m_up.0 m_up.1) ∙ (ap (λ (k : ℕ). row_at k between) (m_up.2 ∙ sym n_up.2) ∙ parent-at between once n n_up.0 n_up.1)) in
      let m_same : parent_of m between ≡ Some n_up.0 = m_up.1 ∙ ap (λ (row : Row). Some row) same in
      one.moved n m parent n_up.0 n_was m_was n_up.1 m_same (not-first first second (names_moved n (number parent)) n_stays) (not-first first second (names_moved m (number parent)) m_stays)
      ∙ other.moved n m n_up.0 above n_up.1 m_same n_is m_is
      (subst (λ (k : ℕ). list_any (names_moved n k) second ≡ false) (sym n_up.2) (not-second first second (names_moved n (number parent)) n_stays))
      (subst (λ (k : ℕ). list_any (names_moved m k) second ≡ false) (sym n_up.2) (not-second first second (names_moved m (number parent)) m_stays))
    where
      some-is : (a b : Row) → Some a ≡ Some b → a ≡ b
      some-is a b is = cc

  rows-on : RowsLead (first ++ second) old rows
  rows-on = record { kept = kept-on; mounted = mounted-on; removed = removed-on; parents = parents-on; moved = moved-on }

pub lead-on : EditsLeadOn
lead-on first second old between rows old_state middle_state state one other old_once once stay = record {
  rows_lead = rows-on first second old between rows one.rows_lead other.rows_lead old_once once stay;
  state_leads = state-on first second old_state middle_state state one.state_leads other.state_leads;
}
