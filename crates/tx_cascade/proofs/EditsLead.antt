-- Each edit by itself leads.
use Rattle.std.proofs.Common.{◌≡◌, ℕ, ◌==◌, ◌+◌, ◌&&◌, ◌||◌, Bool, true, false, cond, List, [], ◌∷◌, map, Option, Some, None, option_map, refl, sym, ap, subst, ◌∙◌, inl, inr}
use Rattle.std.specs.List.{list_any}
use Rattle.std.specs.Str.{bytes_eq}
use Rattle.std.specs.Prelude.{if◌then◌else◌, option_and_then}
use Rattle.std.proofs.lemmas.Bool.{cases_Bool, eq-eqb, eqb-true, false≢true}
use Rattle.std.proofs.lemmas.List.Folds.{list_any-append}
use Rattle.std.proofs.lemmas.Slice.Eq.{bytes_eq-Decides}
use Rattle.tx_tree.specs.Classes.{has_name, with_name, without}
use Rattle.tx_tree.specs.Edits.{changed_at, with_classes, with_text, with_inline, with_disabled, with_state}
use Rattle.tx_tree.specs.Row.{number, has_number}
use Rattle.tx_tree.specs.Rows.{row_at, before_of, last_above, parent_of}
use Rattle.tx_tree.specs.declared.kind.Private.{Private}
use Rattle.tx_tree.specs.declared.row.NodeId.{NodeId}
use Rattle.tx_tree.specs.declared.row.Row.{Row}
use Rattle.tx_select.specs.declared.value.Pseudo.{Pseudo as State}
use Rattle.tx_cascade.specs.EditLaws.{NoEditLeads, ChangesOfRowsLead, ChangesOfStatesLead, EachEditLeads}
use Rattle.tx_cascade.specs.Edits.{is_node, is_end, names_class, names_content, names_inline, names_disabled, names_focus, names_pointed, comes_before, RowLeads, RowsLead, EndsNamed, StateLeads, Leads}
use Rattle.tx_cascade.specs.declared.edit.Edit.{Edit}
use Rattle.tx_cascade.specs.declared.edit.Edit.TheVariants.{Class, Text, Inline, Disabled, State as Private_state, Focus, Pointed, Dark}
use Rattle.tx_cascade.proofs.lemmas.Parents.{row-number}

-- ---- a change of rows that keeps their numbers and depths

module _ (f : Row → Row) (same-node : (row : Row) → (f row).node ≡ row.node) (same-depth : (row : Row) → (f row).depth ≡ row.depth) where
  same-number : (n : ℕ) (row : Row) → has_number n (f row) ≡ has_number n row
  same-number n row = ap (λ (node : NodeId). node.0 == n) (same-node row)

  at-map : (n : ℕ) (rows : List Row) → row_at n (map f rows) ≡ option_map f (row_at n rows)
  at-map n [] = refl
  at-map n (row ∷ rows) = elim (cases_Bool (has_number n row)) [
    | inl is ↦ rw (same-number n row ∙ is, is) refl
    | inr other ↦ rw (same-number n row ∙ other, other) (at-map n rows)
  ]

  before-map : (n : ℕ) (rows : List Row) → before_of n (map f rows) ≡ map f (before_of n rows)
  before-map n [] = refl
  before-map n (row ∷ rows) = elim (cases_Bool (has_number n row)) [
    | inl is ↦ rw (same-number n row ∙ is, is) refl
    | inr other ↦ rw (same-number n row ∙ other, other) (ap (λ (rs : List Row). f row ∷ rs) (before-map n rows))
  ]

  above-step : (depth : ℕ) (found : Option Row) (row : Row) (rows : List Row) (b : Bool)
      → last_above depth (Some (f row)) (map f rows) ≡ option_map f (last_above depth (Some row) rows)
      → last_above depth (option_map f found) (map f rows) ≡ option_map f (last_above depth found rows)
      → last_above depth (cond b (Some (f row)) (option_map f found)) (map f rows) ≡ option_map f (last_above depth (cond b (Some row) found) rows)
  above-step depth found row rows true it others = it
  above-step depth found row rows false it others = others

  above-map : (depth : ℕ) (found : Option Row) (rows : List Row) → last_above depth (option_map f found) (map f rows) ≡ option_map f (last_above depth found rows)
  above-map depth found [] = refl
  above-map depth found (row ∷ rows) =
      ap (λ (d : ℕ). last_above depth (cond (d + 1 == depth) (Some (f row)) (option_map f found)) (map f rows)) (same-depth row)
      ∙ above-step depth found row rows (row.depth + 1 == depth) (above-map depth (Some row) rows) (above-map depth found rows)

  parent-map : (n : ℕ) (rows : List Row) → parent_of n (map f rows) ≡ option_map f (parent_of n rows)
  parent-map n rows = ap (option_and_then (λ row. last_above row.depth None (before_of n (map f rows)))) (at-map n rows) ∙ by (row_at n rows)
    where
      by : (at : Option Row) → option_and_then (λ row. last_above row.depth None (before_of n (map f rows))) (option_map f at) ≡ option_map f (option_and_then (λ row. last_above row.depth None (before_of n rows)) at)
      by None = refl
      by (Some row) =
          ap (λ (d : ℕ). last_above d None (before_of n (map f rows))) (same-depth row)
          ∙ (ap (λ (rs : List Row). last_above row.depth None rs) (before-map n rows) ∙ above-map row.depth None (before_of n rows))

  any-map : (n : ℕ) (rows : List Row) → list_any (has_number n) (map f rows) ≡ list_any (has_number n) rows
  any-map n [] = refl
  any-map n (row ∷ rows) = ap (λ b. b || list_any (has_number n) (map f rows)) (same-number n row) ∙ ap (λ b. has_number n row || b) (any-map n rows)

  before-same : (n m : ℕ) (rows : List Row) → comes_before n m rows ≡ comes_before n m (map f rows)
  before-same n m rows = sym (ap (list_any (has_number n)) (before-map m rows) ∙ any-map n (before_of m rows))

  numbers-same : (o : Option Row) → option_map number (option_map f o) ≡ option_map number o
  numbers-same None = refl
  numbers-same (Some row) = ap (λ (node : NodeId). Some node.0) (same-node row)

  module _ (edits : List Edit) (leads : (row : Row) → RowLeads edits (number row) row (f row)) (rows : List Row) where
    kept-at : (n : ℕ) (before after : Row) → row_at n rows ≡ Some before → row_at n (map f rows) ≡ Some after → RowLeads edits n before after
    kept-at n before after was is =
        let same : f before ≡ after = let e : Some (f before) ≡ Some after = sym (at-map n rows ∙ ap (option_map f) was) ∙ is in cc in
        subst (λ (row : Row). RowLeads edits n before row) same (subst (λ (m : ℕ). RowLeads edits m before (f before)) (row-number n rows before was) (leads before))

    came : (n : ℕ) (row : Row) → row_at n rows ≡ None → row_at n (map f rows) ≡ Some row → ⊥
    came n row was is = let e : None ≡ Some row = sym (at-map n rows ∙ ap (option_map f) was) ∙ is in cc

    went : (n : ℕ) (row : Row) → row_at n rows ≡ Some row → row_at n (map f rows) ≡ None → ⊥
    went n row was is = let e : Some (f row) ≡ None = sym (at-map n rows ∙ ap (option_map f) was) ∙ is in cc

    pub rows-lead : RowsLead edits rows (map f rows)
    rows-lead = record {
      kept = kept-at;
      mounted = λ n row parent was is up. absurd (came n row was is);
      removed = λ n row parent above was is up there. absurd (went n row was is);
      parents = λ n before after was is. sym (ap (option_map number) (parent-map n rows) ∙ numbers-same (parent_of n rows));
      moved = λ n m parent other n_was m_was n_is m_is n_stays m_stays. before-same n m rows;
    }

pub state-stays : (edits : List Edit) (state : State) → StateLeads edits state state
state-stays edits state = record {
  focused = λ differ. absurd (differ refl);
  pointed = λ differ. absurd (differ refl);
  dark = λ none. refl;
}

pub row-stays : (edits : List Edit) (n : ℕ) (row : Row) → RowLeads edits n row row
row-stays edits n row = record {
  classes = λ name none. refl;
  text = λ none. refl;
  inline = λ none. refl;
  disabled = λ none. refl;
  private = λ none. refl;
  kind = refl;
  id = refl;
  depth = refl;
  binds = refl;
}

map-same : (rows : List Row) → map (λ (row : Row). row) rows ≡ rows
map-same [] = refl
map-same (row ∷ rows) = ap (λ (rs : List Row). row ∷ rs) (map-same rows)

rows-stay : (edits : List Edit) (rows : List Row) → RowsLead edits rows rows
rows-stay edits rows =
    subst (λ (rs : List Row). RowsLead edits rows rs) (map-same rows)
    (rows-lead (λ row. row) (λ row. refl) (λ row. refl) edits (λ row. row-stays edits (number row) row) rows)

pub none-leads : NoEditLeads
none-leads rows state = record { rows_lead = rows-stay [] rows; state_leads = state-stays [] state }

-- ---- one row

module _ (n : ℕ) (change : Row → Row) (same-node : (row : Row) → (change row).node ≡ row.node) (same-depth : (row : Row) → (change row).depth ≡ row.depth) (edits : List Edit)
    (leads : (row : Row) → number row ≡ n → RowLeads edits n row (change row)) where
  abbrev at-one : Row → Row
  at-one row = if has_number n row then change row else row

  one-node : (row : Row) → (at-one row).node ≡ row.node
  one-node row = elim (cases_Bool (has_number n row)) [
    | inl is ↦ rw is (same-node row)
    | inr other ↦ rw other refl
  ]

  one-depth : (row : Row) → (at-one row).depth ≡ row.depth
  one-depth row = elim (cases_Bool (has_number n row)) [
    | inl is ↦ rw is (same-depth row)
    | inr other ↦ rw other refl
  ]

  one-leads : (row : Row) → RowLeads edits (number row) row (at-one row)
  one-leads row = elim (cases_Bool (has_number n row)) [
    | inl is ↦
        let own : number row ≡ n = eqb-true (number row) n is in
        rw is (subst (λ (m : ℕ). RowLeads edits m row (change row)) (sym own) (leads row own))
    | inr other ↦ rw other (row-stays edits (number row) row)
  ]

  row-changed : (rows : List Row) (state : State) → Leads edits rows state (changed_at n change rows) state
  row-changed rows state = record { rows_lead = rows-lead at-one one-node one-depth edits one-leads rows; state_leads = state-stays edits state }

-- ---- each edit

or-false : (b : Bool) → (b || false) ≡ false → b ≡ false
or-false false is = refl
or-false true is = is

named : (n : ℕ) → is_node n (record { 0 = n }) ≡ true
named n = eq-eqb n n refl

-- a fact that an edit names isn't owed
owed : (b : Bool) {A : Type 0} → b ≡ true → (b || false) ≡ false → A
owed b is isnt = absurd (false≢true (sym (or-false b isnt) ∙ is))

same-name : (xs ys : List ℕ) → bytes_eq xs ys ≡ true → xs ≡ ys
same-name xs ys is = (bytes_eq-Decides xs ys).0 is

its-name : (xs : List ℕ) → bytes_eq xs xs ≡ true
its-name xs = (bytes_eq-Decides xs xs).1 refl

with-other : (other name : List ℕ) (names : List (List ℕ)) → bytes_eq other name ≡ false → has_name other names ≡ has_name other (with_name name names)
with-other other name names differ = elim (cases_Bool (has_name name names)) [
  | inl there ↦ rw there refl
  | inr absent ↦ rw absent (sym (list_any-append (bytes_eq other) names (name ∷ []) ∙ (ap (λ b. has_name other names || (b || false)) differ ∙ or-none (has_name other names))))
]
  where
    or-none : (b : Bool) → (b || (false || false)) ≡ b
    or-none false = refl
    or-none true = refl

without-other : (other name : List ℕ) (names : List (List ℕ)) → bytes_eq other name ≡ false → has_name other names ≡ has_name other (without name names)
without-other other name [] differ = refl
without-other other name (held ∷ names) differ = elim (cases_Bool (bytes_eq held name)) [
  | inl is ↦
      let gone : bytes_eq other held ≡ false = ap (bytes_eq other) (same-name held name is) ∙ differ in
      rw (is, gone) (without-other other name names differ)
  | inr stays ↦ rw stays (ap (λ b. bytes_eq other held || b) (without-other other name names differ))
]

unnamed : (n : ℕ) (other name : List ℕ) → list_any (names_class n other) (Class (record { 0 = n }) name ∷ []) ≡ false → bytes_eq other name ≡ false
unnamed n other name none = by (bytes_eq other name) (or-false (is_node n (record { 0 = n }) && bytes_eq other name) none)
  where
    by : (b : Bool) → (is_node n (record { 0 = n }) && b) ≡ false → b ≡ false
    by false is = refl
    by true is = absurd (false≢true (sym is ∙ ap (λ c. c && true) (named n)))

module _ (rows : List Row) (state : State) (node : NodeId) where
  abbrev n : ℕ
  n = node.0

  class-came : (name : List ℕ) → Leads (Class node name ∷ []) rows state (changed_at n (with_classes (with_name name)) rows) state
  class-came name = row-changed n (with_classes (with_name name)) (λ row. refl) (λ row. refl) (Class node name ∷ [])
      (λ row own. record {
        classes = λ other none. with-other other name row.classes.names (unnamed n other name none);
        text = λ none. refl;
        inline = λ none. refl;
        disabled = λ none. refl;
        private = λ none. refl;
        kind = refl;
        id = refl;
        depth = refl;
        binds = refl;
      }) rows state

  class-went : (name : List ℕ) → Leads (Class node name ∷ []) rows state (changed_at n (with_classes (without name)) rows) state
  class-went name = row-changed n (with_classes (without name)) (λ row. refl) (λ row. refl) (Class node name ∷ [])
      (λ row own. record {
        classes = λ other none. without-other other name row.classes.names (unnamed n other name none);
        text = λ none. refl;
        inline = λ none. refl;
        disabled = λ none. refl;
        private = λ none. refl;
        kind = refl;
        id = refl;
        depth = refl;
        binds = refl;
      }) rows state

  of-text : list_any (names_content n) (Text node ∷ []) ≡ false → ⊥
  of-text none = owed (names_content n (Text node)) (ap (λ b. b || false) (named n)) none

  of-state : list_any (names_content n) (Private_state node ∷ []) ≡ false → ⊥
  of-state none = owed (names_content n (Private_state node)) (named n) none

  text-set : (text : List ℕ) → Leads (Text node ∷ []) rows state (changed_at n (with_text text) rows) state
  text-set text = row-changed n (with_text text) (λ row. refl) (λ row. refl) (Text node ∷ [])
      (λ row own. record {
        classes = λ other none. refl;
        text = λ none. absurd (of-text none);
        inline = λ none. refl;
        disabled = λ none. refl;
        private = λ none. absurd (of-text none);
        kind = refl;
        id = refl;
        depth = refl;
        binds = refl;
      }) rows state

  state-set : (text : List ℕ) (private : Private) → Leads (Private_state node ∷ []) rows state (changed_at n (with_state text private) rows) state
  state-set text private = row-changed n (with_state text private) (λ row. refl) (λ row. refl) (Private_state node ∷ [])
      (λ row own. record {
        classes = λ other none. refl;
        text = λ none. absurd (of-state none);
        inline = λ none. refl;
        disabled = λ none. refl;
        private = λ none. absurd (of-state none);
        kind = refl;
        id = refl;
        depth = refl;
        binds = refl;
      }) rows state

  inline-set : (text : List ℕ) → Leads (Inline node ∷ []) rows state (changed_at n (with_inline text) rows) state
  inline-set text = row-changed n (with_inline text) (λ row. refl) (λ row. refl) (Inline node ∷ [])
      (λ row own. record {
        classes = λ other none. refl;
        text = λ none. refl;
        inline = λ none. owed (names_inline n (Inline node)) (named n) none;
        disabled = λ none. refl;
        private = λ none. refl;
        kind = refl;
        id = refl;
        depth = refl;
        binds = refl;
      }) rows state

  disabled-set : (to : Bool) → Leads (Disabled node ∷ []) rows state (changed_at n (with_disabled to) rows) state
  disabled-set to = row-changed n (with_disabled to) (λ row. refl) (λ row. refl) (Disabled node ∷ [])
      (λ row own. record {
        classes = λ other none. refl;
        text = λ none. refl;
        inline = λ none. refl;
        disabled = λ none. owed (names_disabled n (Disabled node)) (named n) none;
        private = λ none. refl;
        kind = refl;
        id = refl;
        depth = refl;
        binds = refl;
      }) rows state

  pub rows-changes : ChangesOfRowsLead rows state node
  rows-changes = record {
    class_came = class-came;
    class_went = class-went;
    text = text-set;
    inline = inline-set;
    disabled = disabled-set;
    private = state-set;
  }

-- ---- the pseudo state

module _ (rows : List Row) (state : State) where
  focus-from : (from to : Option NodeId) → EndsNamed names_focus (Focus from to ∷ []) from
  focus-from None to = tt
  focus-from (Some node) to = ap (λ b. (b || is_end node.0 to) || false) (named node.0)

  focus-to : (from to : Option NodeId) → EndsNamed names_focus (Focus from to ∷ []) to
  focus-to from None = tt
  focus-to from (Some node) = ap (λ b. (is_end node.0 from || b) || false) (named node.0) ∙ or-true (is_end node.0 from)
    where
      or-true : (b : Bool) → ((b || true) || false) ≡ true
      or-true false = refl
      or-true true = refl

  pointed-from : (from to : Option NodeId) → EndsNamed names_pointed (Pointed from to ∷ []) from
  pointed-from None to = tt
  pointed-from (Some node) to = ap (λ b. (b || is_end node.0 to) || false) (named node.0)

  pointed-to : (from to : Option NodeId) → EndsNamed names_pointed (Pointed from to ∷ []) to
  pointed-to from None = tt
  pointed-to from (Some node) = ap (λ b. (is_end node.0 from || b) || false) (named node.0) ∙ or-true (is_end node.0 from)
    where
      or-true : (b : Bool) → ((b || true) || false) ≡ true
      or-true false = refl
      or-true true = refl

  pub state-changes : ChangesOfStatesLead rows state
  state-changes = record {
    focus = λ to. record {
      rows_lead = rows-stay (Focus state.focused to ∷ []) rows;
      state_leads = record {
        focused = λ differ. (focus-from state.focused to, focus-to state.focused to);
        pointed = λ differ. absurd (differ refl);
        dark = λ none. refl;
      };
    };
    pointed = λ to. record {
      rows_lead = rows-stay (Pointed state.pointed to ∷ []) rows;
      state_leads = record {
        focused = λ differ. absurd (differ refl);
        pointed = λ differ. (pointed-from state.pointed to, pointed-to state.pointed to);
        dark = λ none. refl;
      };
    };
    dark = λ to. record {
      rows_lead = rows-stay (Dark ∷ []) rows;
      state_leads = record {
        focused = λ differ. absurd (differ refl);
        pointed = λ differ. absurd (differ refl);
        dark = λ none. absurd (false≢true (sym none));
      };
    };
  }

pub each-leads : EachEditLeads
each-leads rows state = (rows-changes rows state, state-changes rows state)
