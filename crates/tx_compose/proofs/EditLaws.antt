-- Edits lead from what a screen showed to what it is to show.
use Rattle.std.proofs.Common.{◌≡◌, ℕ, ◌==◌, Bool, true, false, List, [], ◌∷◌, ◌++◌, Option, Some, None, ◌∙◌, refl, sym, ap, inl, inr}
use Rattle.std.proofs.lemmas.Bool.{cases_Bool, eq-eqb, eqb-true, false≢true}
use Rattle.std.proofs.lemmas.List.Folds.{list_any-append}
use Rattle.std.specs.List.{list_any}
use Rattle.std.specs.Prelude.{◌||◌, is_some}
use Rattle.tx_cascade.proofs.lemmas.Parents.{row-number}
use Rattle.tx_cascade.specs.EditLaws.{EditsLeadOn as TreesLeadOn, NoEditLeads}
use Rattle.tx_cascade.specs.Edits.{EndsNamed, Leads, RowLeads, RowsLead, StateLeads, names_class, names_content, names_dark, names_disabled, names_focus, names_inline, names_mounted, names_moved, names_pointed, names_removed, is_node}
use Rattle.tx_cascade.specs.declared.edit.Edit.{Edit}
use Rattle.tx_cascade.specs.declared.edit.Edit.TheVariants.{Scrolled, Resized}
use Rattle.tx_compose.specs.EditLaws.{EditsLeadOn, ResizedLeads, ScrolledLeads, TreeEditsLead}
use Rattle.tx_compose.specs.Following.{kept_scroll, names_resized, names_scrolled, scroll_for}
use Rattle.tx_compose.specs.Presented.{Presented}
use Rattle.tx_select.specs.declared.value.Pseudo.{Pseudo}
use Rattle.tx_tree.specs.Row.{number}
use Rattle.tx_tree.specs.Rows.{row_at}
use Rattle.tx_tree.specs.declared.row.NodeId.{NodeId}
use Rattle.tx_tree.specs.declared.row.Row.{Row}

-- ---- what one of two lists names

or_left : (a b : Bool) → (a || b) ≡ false → a ≡ false
or_left false b is = refl
or_left true b is = is

or_right : (a b : Bool) → (a || b) ≡ false → b ≡ false
or_right false b is = is
or_right true b is = absurd (false≢true (sym is))

or_second : (a b : Bool) → b ≡ true → (a || b) ≡ true
or_second true b is = refl
or_second false b is = is

-- ---- one edit more leads too

module _ (edit : Edit) (edits : List Edit) where
  unnamed : (names : Edit → Bool) → list_any names (edit ∷ edits) ≡ false → list_any names edits ≡ false
  unnamed names none = or_right (names edit) (list_any names edits) none

  named : (names : Edit → Bool) → list_any names edits ≡ true → list_any names (edit ∷ edits) ≡ true
  named names some = or_second (names edit) (list_any names edits) some

  row_leads : (n : ℕ) (old new : Row) → RowLeads edits n old new → RowLeads (edit ∷ edits) n old new
  row_leads n old new l =
      record {
        classes = λ name none. l.classes name (unnamed (names_class n name) none);
        text = λ none. l.text (unnamed (names_content n) none);
        inline = λ none. l.inline (unnamed (names_inline n) none);
        disabled = λ none. l.disabled (unnamed (names_disabled n) none);
        private = λ none. l.private (unnamed (names_content n) none);
        kind = l.kind;
        id = l.id;
        depth = l.depth;
        binds = l.binds;
      }

  rows_lead : (old new : List Row) → RowsLead edits old new → RowsLead (edit ∷ edits) old new
  rows_lead old new l =
      record {
        kept = λ n before after a b. row_leads n before after (l.kept n before after a b);
        mounted = λ n row parent a b c. named (names_mounted n (number parent)) (l.mounted n row parent a b c);
        removed = λ n row parent above a b c d. named (names_removed n (number parent)) (l.removed n row parent above a b c d);
        parents = l.parents;
        moved = λ n m parent other a b c d none others.
            l.moved n m parent other a b c d (unnamed (names_moved n (number parent)) none) (unnamed (names_moved m (number parent)) others);
      }

  ends_named : (names : ℕ → Edit → Bool) (end : Option NodeId) → EndsNamed names edits end → EndsNamed names (edit ∷ edits) end
  ends_named names None is = is
  ends_named names (Some node) is = named (names node.0) is

  state_leads : (old new : Pseudo) → StateLeads edits old new → StateLeads (edit ∷ edits) old new
  state_leads old new l =
      record {
        focused = λ differ. let ends = l.focused differ in (ends_named names_focus old.focused ends.0, ends_named names_focus new.focused ends.1);
        pointed = λ differ. let ends = l.pointed differ in (ends_named names_pointed old.pointed ends.0, ends_named names_pointed new.pointed ends.1);
        dark = λ none. l.dark (unnamed names_dark none);
      }

  pub leads_more : (old new : List Row) (before after : Pseudo) → Leads edits old before new after → Leads (edit ∷ edits) old before new after
  leads_more old new before after l = record { rows_lead = rows_lead old new l.rows_lead; state_leads = state_leads before after l.state_leads }

-- ---- single edits

pub tree_edits_lead : TreeEditsLead
tree_edits_lead edits before after lead stay same = record { rows = lead; scrolls = λ n old new a b none. stay new.node; size = λ none. same }

-- the one row that an edit names isn't the row with another number
other_row : (one node : NodeId) (n : ℕ) → node.0 ≡ n → (is_node n one || false) ≡ false → is_node node.0 one ≡ false
other_row one node n is none = ap (λ m. is_node m one) is ∙ or_left (is_node n one) false none

pub scrolled_leads : NoEditLeads → ScrolledLeads
scrolled_leads quiet before one scrolls stay =
    record {
      rows = leads_more (Scrolled one) [] before.rows before.rows before.pseudo before.pseudo (quiet before.rows before.pseudo);
      scrolls = λ n old new a b none. stay new.node (other_row one new.node n (row-number n before.rows new b) none);
      size = λ none. refl;
    }

pub resized_leads : NoEditLeads → ResizedLeads
resized_leads quiet before scrolls size stay =
    record {
      rows = leads_more Resized [] before.rows before.rows before.pseudo before.pseudo (quiet before.rows before.pseudo);
      scrolls = λ n old new a b none. stay new.node;
      size = λ none. absurd (false≢true (sym none));
    }

-- ---- edits that lead on

-- a row that is found where some row has its number
some_row : (n : ℕ) (rows : List Row) → is_some (row_at n rows) ≡ true → (row : Row) × (row_at n rows ≡ Some row)
some_row n rows is = by (row_at n rows) refl is
  where
    by : (found : Option Row) → row_at n rows ≡ found → is_some found ≡ true → (row : Row) × (row_at n rows ≡ Some row)
    by None at none = absurd (false≢true none)
    by (Some row) at some = (row, at)

-- how far rows are scrolled depends on their numbers alone
same_scroll : (shown : Presented) (a b : NodeId) → a.0 ≡ b.0 → scroll_for shown a ≡ scroll_for shown b
same_scroll shown a b same = ap (λ n. scroll_for shown (record { 0 = n })) same

same_kept : (shown : Presented) (a b : NodeId) → a.0 ≡ b.0 → kept_scroll shown a ≡ kept_scroll shown b
same_kept shown a b same = ap (λ n. kept_scroll shown (record { 0 = n })) same

pub edits_lead_on : TreesLeadOn → EditsLeadOn
edits_lead_on on first second before between after lead more once once_more stay =
    record {
      rows = on first second before.rows between.rows after.rows before.pseudo between.pseudo after.pseudo lead.rows more.rows once once_more stay;
      scrolls = λ n old new a b none.
          let parts = list_any-append (names_scrolled n) first second in
          let not_first = or_left (list_any (names_scrolled n) first) (list_any (names_scrolled n) second) (sym parts ∙ none) in
          let not_second = or_right (list_any (names_scrolled n) first) (list_any (names_scrolled n) second) (sym parts ∙ none) in
          let middle = some_row n between.rows (stay n (ap is_some a) (ap is_some b)) in
          let same : middle.0.node.0 ≡ new.node.0 = row-number n between.rows middle.0 middle.1 ∙ sym (row-number n after.rows new b) in
          sym (same_kept before middle.0.node new.node same)
          ∙ lead.scrolls n old middle.0 a middle.1 not_first
          ∙ same_scroll between middle.0.node new.node same
          ∙ more.scrolls n middle.0 new middle.1 b not_second;
      size = λ none.
          let parts = list_any-append names_resized first second in
          lead.size (or_left (list_any names_resized first) (list_any names_resized second) (sym parts ∙ none))
          ∙ more.size (or_right (list_any names_resized first) (list_any names_resized second) (sym parts ∙ none));
    }
