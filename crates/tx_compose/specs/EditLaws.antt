-- What leads from what a screen showed to what it is to show.
use Rattle.std.specs.Prelude.{◌≡◌, ℕ, Bool, false, List, [], ◌∷◌, ◌++◌, Option, Some}
use Rattle.std.specs.List.{list_any}
use Rattle.tx_cascade.specs.EditLaws.{StayBetween}
use Rattle.tx_cascade.specs.Edits.{Leads, is_node}
use Rattle.tx_cascade.specs.declared.edit.Edit.{Edit}
use Rattle.tx_cascade.specs.declared.edit.Edit.TheVariants.{Scrolled, Resized}
use Rattle.tx_compose.specs.Following.{EditsLead, kept_scroll, names_resized, names_scrolled, scroll_for}
use Rattle.tx_compose.specs.Presented.{Presented}
use Rattle.tx_geom.specs.declared.places.Size.{Size}
use Rattle.tx_tree.specs.Rows.{row_at}
use Rattle.tx_tree.specs.Walk.{NumbersDiffer}
use Rattle.tx_tree.specs.declared.row.NodeId.{NodeId}
use Rattle.tx_tree.specs.declared.row.Row.{Row}

-- every row is to be scrolled as the picture kept it
abbrev pub ScrollsStay : Presented → Presented → Type 0
ScrollsStay before after = (node : NodeId) → kept_scroll before node ≡ scroll_for after node

-- every row but this one is
abbrev pub OtherScrollsStay : NodeId → Presented → Presented → Type 0
OtherScrollsStay one before after = (node : NodeId) → is_node node.0 one ≡ false → kept_scroll before node ≡ scroll_for after node

-- Edits that lead from one tree and pseudo state to another lead where nothing else changed.
abbrev pub TreeEditsLead : Type 0
TreeEditsLead =
    (edits : List Edit) (before after : Presented) → Leads edits before.rows before.pseudo after.rows after.pseudo → ScrollsStay before after → before.size ≡ after.size
    → EditsLead edits before after

-- The edit that names a row leads where nothing else changed but how far that row is scrolled.
abbrev pub ScrolledLeads : Type 0
ScrolledLeads =
    (before : Presented) (node : NodeId) (scrolls : List (Option (ℕ × ℕ))) → OtherScrollsStay node before (record before { scrolls = scrolls })
    → EditsLead (Scrolled node ∷ []) before (record before { scrolls = scrolls })

-- The edit of a resize leads where nothing else changed but the size.
abbrev pub ResizedLeads : Type 0
ResizedLeads =
    (before : Presented) (scrolls : List (Option (ℕ × ℕ))) (size : Size) → ScrollsStay before (record before { scrolls = scrolls; size = size })
    → EditsLead (Resized ∷ []) before (record before { scrolls = scrolls; size = size })

-- What is to be shown changes once more before it is shown: every part of it that differs is named.
pub record LeadOn (edits : List Edit) (between after : Presented) : Type 0 where
  pub rows : Leads edits between.rows between.pseudo after.rows after.pseudo
  pub scrolls : (n : ℕ) (old new : Row) → row_at n between.rows ≡ Some old → row_at n after.rows ≡ Some new → list_any (names_scrolled n) edits ≡ false
      → scroll_for between new.node ≡ scroll_for after new.node
  pub size : list_any names_resized edits ≡ false → between.size ≡ after.size

-- Edits that lead from what was shown, followed by edits that lead on, lead all the way.
abbrev pub EditsLeadOn : Type 0
EditsLeadOn =
    (first second : List Edit) (before between after : Presented) → EditsLead first before between → LeadOn second between after
    → NumbersDiffer before.rows → NumbersDiffer between.rows → StayBetween before.rows between.rows after.rows
    → EditsLead (first ++ second) before after
