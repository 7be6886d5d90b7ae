-- Where no edit leads from one tree and pseudo state to another, nothing differs.
use Rattle.std.proofs.Common.{◌≡◌, ℕ, zero, suc, ◌+◌, ◌<◌, ◌≤◌, ◌==◌, Bool, true, false, cond, List, [], ◌∷◌, Option, Some, None, is_some, option_map, refl, sym, ap, ◌∙◌, arith, inl, inr, ◌⊎◌}
use Rattle.std.specs.Prelude.{unwrap_or}
use Rattle.std.proofs.Math.Arith.{lt_of_le-ne}
use Rattle.std.proofs.Math.Nat.{eq-zero-or-pos}
use Rattle.std.proofs.lemmas.Bool.{cases_Bool, cases_eq, eq-eqb, eqb-false, false≢true}
use Rattle.tx_tree.specs.Row.{number, has_number}
use Rattle.tx_tree.specs.Rows.{row_at, before_of, last_above, parent_of}
use Rattle.tx_tree.specs.TreeValue.{TreeValue}
use Rattle.tx_tree.specs.WellFormed.{MayAllFollow, IsPreorder, IsTree}
use Rattle.tx_tree.specs.declared.row.NodeId.{NodeId}
use Rattle.tx_tree.specs.declared.row.Row.{Row}
use Rattle.tx_select.specs.declared.value.Pseudo.{Pseudo as State}
use Rattle.tx_cascade.specs.Edits.{names_focus, names_pointed, RowLeads, RowsLead, EndsNamed, StateLeads}
use Rattle.tx_cascade.specs.TreeEditLaws.{AreAlike, HaveSameRows, NothingNamed}
use Rattle.tx_cascade.specs.declared.edit.Edit.{Edit}
use Rattle.tx_cascade.proofs.lemmas.Parents.{parent-at, row-number}
use Rattle.tx_cascade.proofs.RowParts.{Climbs, tree-climbs, parent-is, parent-none, parent-depth}

-- ---- every row but the first has a parent

above-kept : (depth : ℕ) (found : Row) (rows : List Row) → (row : Row) × (last_above depth (Some found) rows ≡ Some row)
above-kept depth found [] = (found, refl)
above-kept depth found (row ∷ rows) = elim (cases_Bool (row.depth + 1 == depth)) [
  | inl above ↦ rw above (above-kept depth row rows)
  | inr other ↦ rw other (above-kept depth found rows)
]

above-some : (most n : ℕ) (rows : List Row) (row : Row) (found : Option Row) → Climbs most rows → row_at n rows ≡ Some row → most < row.depth
    → (above : Row) × (last_above row.depth found (before_of n rows) ≡ Some above)
above-some most n [] row found climbs there deep = cc
above-some most n (first ∷ rows) row found climbs there deep = elim (cases_Bool (has_number n first)) [
  | inl own ↦
      let was : Some first ≡ Some row = rw own at there in
      let is : first ≡ row = ap (λ (o : Option Row). unwrap_or o first) was in
      absurd (omega (arith, ap (λ (r : Row). r.depth) is, climbs.0, deep))
  | inr later ↦
      let was = rw later at there in
      rw later (step (first.depth + 1 == row.depth) refl (λ more. above-some (first.depth + 1) n rows row found climbs.1 was more))
]
  where
    step : (b : Bool) → (first.depth + 1 == row.depth) ≡ b
        → (first.depth + 1 < row.depth → (above : Row) × (last_above row.depth found (before_of n rows) ≡ Some above))
        → (above : Row) × (last_above row.depth (cond b (Some first) found) (before_of n rows) ≡ Some above)
    step true is more = above-kept row.depth first (before_of n rows)
    step false is more = more (lt_of_le-ne (omega (arith, climbs.0, deep)) (eqb-false (first.depth + 1) row.depth is))

-- a row that isn't the Screen has a parent, which is one less deep
has-parent : (tree : TreeValue) → IsTree tree → (n : ℕ) (row : Row) → row_at n tree.rows ≡ Some row → 0 < row.depth
    → (parent : Row) × (parent_of n tree.rows ≡ Some parent) × (parent.depth + 1 ≡ row.depth)
has-parent tree is n row there deep =
    let above = above-some 0 n tree.rows row None (tree-climbs tree.rows is.preorder) there deep in
    let up : parent_of n tree.rows ≡ Some above.0 = parent-is n tree.rows row there ∙ above.1 in
    (above.0, up, parent-depth n tree.rows row above.0 there up)

follows-deep : (n : ℕ) (last : Row) (rows : List Row) (row : Row) → MayAllFollow last rows → row_at n rows ≡ Some row → 1 ≤ row.depth
follows-deep n last [] row follow there = cc
follows-deep n last (first ∷ rows) row follow there = elim (cases_Bool (has_number n first)) [
  | inl own ↦
      let was : Some first ≡ Some row = rw own at there in
      let is : first ≡ row = ap (λ (o : Option Row). unwrap_or o first) was in
      omega (arith, ap (λ (r : Row). r.depth) is, follow.0.below_first)
  | inr later ↦ let was = rw later at there in follows-deep n first rows row follow.1 was
]

-- the Screen alone is of the depth 0, and its number is 1
screen-number : (rows : List Row) → IsPreorder rows → (n : ℕ) (row : Row) → row_at n rows ≡ Some row → row.depth ≡ 0 → n ≡ 1
screen-number [] is n row there flat = absurd is
screen-number (first ∷ rows) is n row there flat = elim (cases_Bool (has_number n first)) [
  | inl own ↦
      let was : Some first ≡ Some row = rw own at there in
      let same : first ≡ row = ap (λ (o : Option Row). unwrap_or o first) was in
      sym (row-number n (first ∷ rows) row there) ∙ (ap number (sym same) ∙ is.0.number)
  | inr later ↦ let was = rw later at there in let deep = follows-deep n first rows row is.1 was in absurd (omega (arith, deep, flat))
]

screen-there : (rows : List Row) → IsPreorder rows → is_some (row_at 1 rows) ≡ true
screen-there [] is = absurd is
screen-there (first ∷ rows) is = let own : has_number 1 first ≡ true = eq-eqb first.node.0 1 is.0.number in rw own refl

-- ---- rows

module _ (old new : TreeValue) (was-tree : IsTree old) (is-tree : IsTree new) (lead : RowsLead [] old.rows new.rows) where
  at-first : (n : ℕ) (rows : List Row) → IsPreorder rows → n ≡ 1 → is_some (row_at n rows) ≡ true
  at-first n rows is one = ap (λ (m : ℕ). is_some (row_at m rows)) one ∙ screen-there rows is

  -- no row came
  was-there : (n : ℕ) (row : Row) → row_at n new.rows ≡ Some row → is_some (row_at n old.rows) ≡ true
  was-there n row there = by (row_at n old.rows) refl (eq-zero-or-pos row.depth)
    where
      by : (at : Option Row) → row_at n old.rows ≡ at → (row.depth ≡ zero) ⊎ (zero < row.depth) → is_some at ≡ true
      by (Some before) was depth = refl
      by None was (inl flat) = sym (ap is_some was) ∙ at-first n old.rows was-tree.preorder (screen-number new.rows is-tree.preorder n row there flat)
      by None was (inr deep) = let up = has-parent new is-tree n row there deep in absurd (false≢true (lead.mounted n row up.0 was there up.1))

  -- no row went: else the last ancestor that is still there would have lost a child
  is-there : (depth n : ℕ) (row : Row) → row.depth ≡ depth → row_at n old.rows ≡ Some row → is_some (row_at n new.rows) ≡ true
  is-there zero n row flat there = at-first n new.rows is-tree.preorder (screen-number old.rows was-tree.preorder n row there flat)
  is-there (suc depth) n row deep there =
      let up = has-parent old was-tree n row there (omega (arith, deep)) in
      let parent-there : row_at (number up.0) old.rows ≡ Some up.0 = parent-at old.rows was-tree.once n up.0 up.1 in
      by up.0 up.1 (row_at (number up.0) new.rows) (row_at n new.rows) refl refl (is-there depth (number up.0) up.0 (omega (arith, up.2, deep)) parent-there)
    where
      by : (parent : Row) → parent_of n old.rows ≡ Some parent → (at-parent at : Option Row) → row_at (number parent) new.rows ≡ at-parent → row_at n new.rows ≡ at
          → is_some (row_at (number parent) new.rows) ≡ true → is_some at ≡ true
      by parent up at-parent (Some after) stays is known = refl
      by parent up None None stays is known = absurd (false≢true (sym (ap is_some stays) ∙ known))
      by parent up (Some above) None stays is known = absurd (false≢true (lead.removed n row parent above there is up stays))

  same-numbers : (n : ℕ) → is_some (row_at n old.rows) ≡ is_some (row_at n new.rows)
  same-numbers n = by (row_at n old.rows) (row_at n new.rows) refl refl
    where
      by : (before after : Option Row) → row_at n old.rows ≡ before → row_at n new.rows ≡ after → is_some before ≡ is_some after
      by None None was is = refl
      by (Some row) (Some other) was is = refl
      by None (Some row) was is = sym (ap is_some was) ∙ was-there n row is
      by (Some row) None was is = sym (sym (ap is_some is) ∙ is-there row.depth n row refl was)

  alike-rows : (n : ℕ) (before after : Row) → row_at n old.rows ≡ Some before → row_at n new.rows ≡ Some after → AreAlike before after
  alike-rows n before after was is =
      let same : RowLeads [] n before after = lead.kept n before after was is in
      record {
        classes = λ name. same.classes name refl;
        text = same.text refl;
        inline = same.inline refl;
        disabled = same.disabled refl;
        private = same.private refl;
        kind = same.kind;
        id = same.id;
        depth = same.depth;
        binds = same.binds;
      }

  same-parents : (n : ℕ) → option_map number (parent_of n old.rows) ≡ option_map number (parent_of n new.rows)
  same-parents n = by (row_at n old.rows) (row_at n new.rows) refl refl
    where
      by : (before after : Option Row) → row_at n old.rows ≡ before → row_at n new.rows ≡ after → option_map number (parent_of n old.rows) ≡ option_map number (parent_of n new.rows)
      by None None was is = ap (option_map number) (parent-none n old.rows was ∙ sym (parent-none n new.rows is))
      by (Some row) (Some other) was is = lead.parents n row other was is
      by None (Some row) was is = absurd (false≢true (sym (ap is_some was) ∙ was-there n row is))
      by (Some row) None was is = absurd (false≢true (sym (ap is_some is) ∙ is-there row.depth n row refl was))

  -- what has a parent before has one after
  parent-now : (n : ℕ) (parent : Row) → parent_of n old.rows ≡ Some parent → (other : Row) × (parent_of n new.rows ≡ Some other) × (number other ≡ number parent)
  parent-now n parent was = by (parent_of n new.rows) refl
    where
      by : (found : Option Row) → parent_of n new.rows ≡ found → (other : Row) × (parent_of n new.rows ≡ Some other) × (number other ≡ number parent)
      by None is = let clash : Some (number parent) ≡ None = sym (ap (option_map number) was) ∙ (same-parents n ∙ ap (option_map number) is) in cc
      by (Some other) is =
          let e : Some (number parent) ≡ Some (number other) = sym (ap (option_map number) was) ∙ (same-parents n ∙ ap (option_map number) is) in
          (other, is, cc)

  pub same-rows : HaveSameRows old.rows new.rows
  same-rows = record {
    numbers = same-numbers;
    alike = alike-rows;
    parents = same-parents;
    order = λ n m parent n_was m_was.
        let one = parent-now n parent n_was in
        let two = parent-now m parent m_was in
        let first : row_at (number one.0) new.rows ≡ Some one.0 = parent-at new.rows is-tree.once n one.0 one.1 in
        let second : row_at (number two.0) new.rows ≡ Some two.0 = parent-at new.rows is-tree.once m two.0 two.1 in
        let e : Some one.0 ≡ Some two.0 = sym first ∙ (ap (λ (k : ℕ). row_at k new.rows) (one.2 ∙ sym two.2) ∙ second) in
        lead.moved n m parent one.0 n_was m_was one.1 (two.1 ∙ sym e) refl refl;
  }

-- ---- the pseudo state

same-end : (names : ℕ → Edit → Bool) (old new : Option NodeId) → ((old ≡ new → ⊥) → EndsNamed names [] old × EndsNamed names [] new) → old ≡ new
same-end names None None named = refl
same-end names None (Some node) named = absurd (false≢true (named (λ (e : None ≡ Some node). cc)).1)
same-end names (Some node) None named = absurd (false≢true (named (λ (e : Some node ≡ None). cc)).0)
same-end names (Some node) (Some other) named = elim (cases_eq node.0 other.0) [
  | inl same ↦ ap (λ (n : ℕ). Some (record { 0 = n })) same
  | inr differ ↦ absurd (false≢true (named (λ (e : Some node ≡ Some other). differ (ap (λ (o : Option NodeId). (unwrap_or o node).0) e))).0)
]

same-state : (old new : State) → StateLeads [] old new → old ≡ new
same-state old new lead =
    let focused : old.focused ≡ new.focused = same-end names_focus old.focused new.focused lead.focused in
    let pointed : old.pointed ≡ new.pointed = same-end names_pointed old.pointed new.pointed lead.pointed in
    let dark : old.dark ≡ new.dark = lead.dark refl in
    ap (λ (f : Option NodeId). record old { focused = f }) focused
    ∙ (ap (λ (p : Option NodeId). record old { focused = new.focused; pointed = p }) pointed
    ∙ ap (λ (d : Bool). record old { focused = new.focused; pointed = new.pointed; dark = d }) dark)

pub nothing-named : NothingNamed
nothing-named old new old_state state was-tree is-tree lead = (same-rows old new was-tree is-tree lead.rows_lead, same-state old_state state lead.state_leads)
