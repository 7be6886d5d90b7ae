-- When edits lead from what a screen showed to what it is to show.
use Rattle.std.specs.Prelude.{◌≡◌, ℕ, Bool, true, false, List, Option, Some, unwrap_or, option_map}
use Rattle.std.specs.List.{list_any}
use Rattle.tx_cascade.specs.Edits.{Leads, is_node}
use Rattle.tx_cascade.specs.declared.edit.Edit.{Edit}
use Rattle.tx_cascade.specs.declared.edit.Edit.TheVariants.{Scrolled, Resized}
use Rattle.tx_compose.specs.Frame.{entry_in}
use Rattle.tx_compose.specs.Presented.{Presented}
use Rattle.tx_node_map.specs.Held.{held}
use Rattle.tx_tree.specs.Rows.{row_at}
use Rattle.tx_tree.specs.declared.row.NodeId.{NodeId}
use Rattle.tx_tree.specs.declared.row.Row.{Row}

abbrev pub names_scrolled : ℕ → Edit → Bool
names_scrolled n (Scrolled node) = is_node n node
names_scrolled n _ = false

abbrev pub names_resized : Edit → Bool
names_resized Resized = true
names_resized _ = false

-- how far a row is to be scrolled: not at all, where nothing is said
abbrev pub scroll_for : Presented → NodeId → ℕ × ℕ
scroll_for shown node = unwrap_or (held shown.scrolls node.0) (0, 0)

-- how far it was scrolled in the picture: in range, where it took part
abbrev pub kept_scroll : Presented → NodeId → ℕ × ℕ
kept_scroll shown node = unwrap_or (option_map (λ entry. entry.scroll) (entry_in shown node)) (scroll_for shown node)

-- a row that is there before and after and that no edit names as scrolled is scrolled as the picture before kept it
abbrev pub ScrollsLead : List Edit → Presented → Presented → Type 0
ScrollsLead edits before after =
    (n : ℕ) (old new : Row) → row_at n before.rows ≡ Some old → row_at n after.rows ≡ Some new → list_any (names_scrolled n) edits ≡ false
    → kept_scroll before new.node ≡ scroll_for after new.node

-- Every part in which the one differs from the other is named by an edit: of the tree and of the pseudo state, the scrolls, and the size.
pub record EditsLead (edits : List Edit) (before after : Presented) : Type 0 where
  pub rows : Leads edits before.rows before.pseudo after.rows after.pseudo
  pub scrolls : ScrollsLead edits before after
  pub size : list_any names_resized edits ≡ false → before.size ≡ after.size
