-- When a list of edits leads from one tree and pseudo state to another: every part in which they differ is named by an edit.
use Rattle.std.specs.Prelude.{◌≡◌, ℕ, ◌==◌, ◌&&◌, ◌||◌, Bool, true, false, List, Option, Some, None, option_map}
use Rattle.std.specs.List.{list_any}
use Rattle.std.specs.Option.{option_map_or}
use Rattle.std.specs.Str.{bytes_eq}
use Rattle.tx_tree.specs.Classes.{has_name}
use Rattle.tx_tree.specs.Row.{number, has_number}
use Rattle.tx_tree.specs.Rows.{row_at, before_of, parent_of}
use Rattle.tx_tree.specs.declared.row.NodeId.{NodeId}
use Rattle.tx_tree.specs.declared.row.Row.{Row}
use Rattle.tx_select.specs.declared.value.Pseudo.{Pseudo as State}
use Rattle.tx_cascade.specs.declared.edit.Edit.{Edit}
use Rattle.tx_cascade.specs.declared.edit.Edit.TheVariants.{Class, Mounted, Removed, Moved, Text, Inline, Disabled, State as Private, Focus, Pointed, Dark}

-- ---- what an edit names

abbrev pub is_node : ℕ → NodeId → Bool
is_node n node = node.0 == n

abbrev pub is_end : ℕ → Option NodeId → Bool
is_end n end = option_map_or (is_node n) end false

abbrev pub names_class : ℕ → List ℕ → Edit → Bool
names_class n name (Class node held) = is_node n node && bytes_eq name held
names_class n name _ = false

abbrev pub names_mounted : ℕ → ℕ → Edit → Bool
names_mounted n parent (Mounted node above) = is_node n node && is_node parent above
names_mounted n parent _ = false

abbrev pub names_removed : ℕ → ℕ → Edit → Bool
names_removed n parent (Removed node above) = is_node n node && is_node parent above
names_removed n parent _ = false

abbrev pub names_moved : ℕ → ℕ → Edit → Bool
names_moved n parent (Moved node above) = is_node n node && is_node parent above
names_moved n parent _ = false

abbrev pub names_text : ℕ → Edit → Bool
names_text n (Text node) = is_node n node
names_text n _ = false

abbrev pub names_inline : ℕ → Edit → Bool
names_inline n (Inline node) = is_node n node
names_inline n _ = false

abbrev pub names_disabled : ℕ → Edit → Bool
names_disabled n (Disabled node) = is_node n node
names_disabled n _ = false

abbrev pub names_state : ℕ → Edit → Bool
names_state n (Private node) = is_node n node
names_state n _ = false

-- A text that is set moves the cursor and the chosen line too, and a reaction may change both.
abbrev pub names_content : ℕ → Edit → Bool
names_content n edit = names_text n edit || names_state n edit

-- as the row before, or as the row now
abbrev pub names_focus : ℕ → Edit → Bool
names_focus n (Focus from to) = is_end n from || is_end n to
names_focus n _ = false

abbrev pub names_pointed : ℕ → Edit → Bool
names_pointed n (Pointed from to) = is_end n from || is_end n to
names_pointed n _ = false

abbrev pub names_dark : Edit → Bool
names_dark Dark = true
names_dark _ = false

-- ---- rows

-- whether the row with one number comes before the row with another
abbrev pub comes_before : ℕ → ℕ → List Row → Bool
comes_before n m rows = list_any (has_number n) (before_of m rows)

-- Of a row that is there before and after, what no edit names is as it was, and so is what no edit can name. Of its classes it counts
-- which it has, not in which order or how often. A text and a private state are named by the edits of either.
pub record RowLeads (edits : List Edit) (n : ℕ) (old new : Row) : Type 0 where
  pub classes : (name : List ℕ) → list_any (names_class n name) edits ≡ false → has_name name old.classes.names ≡ has_name name new.classes.names
  pub text : list_any (names_content n) edits ≡ false → old.text ≡ new.text
  pub inline : list_any (names_inline n) edits ≡ false → old.inline ≡ new.inline
  pub disabled : list_any (names_disabled n) edits ≡ false → old.disabled ≡ new.disabled
  pub private : list_any (names_content n) edits ≡ false → old.private ≡ new.private
  pub kind : old.kind ≡ new.kind
  pub id : old.id ≡ new.id
  pub depth : old.depth ≡ new.depth
  pub binds : old.binds ≡ new.binds

-- A row that came is named with its parent. A row that went is named with its parent, unless that went too. A row that stays keeps
-- its parent. Of two children of one parent that changed their order, one is named.
pub record RowsLead (edits : List Edit) (old new : List Row) : Type 0 where
  pub kept : (n : ℕ) (before after : Row) → row_at n old ≡ Some before → row_at n new ≡ Some after → RowLeads edits n before after
  pub mounted : (n : ℕ) (row parent : Row) → row_at n old ≡ None → row_at n new ≡ Some row → parent_of n new ≡ Some parent
      → list_any (names_mounted n (number parent)) edits ≡ true
  pub removed : (n : ℕ) (row parent above : Row) → row_at n old ≡ Some row → row_at n new ≡ None → parent_of n old ≡ Some parent → row_at (number parent) new ≡ Some above
      → list_any (names_removed n (number parent)) edits ≡ true
  pub parents : (n : ℕ) (before after : Row) → row_at n old ≡ Some before → row_at n new ≡ Some after
      → option_map number (parent_of n old) ≡ option_map number (parent_of n new)
  pub moved : (n m : ℕ) (parent other : Row) → parent_of n old ≡ Some parent → parent_of m old ≡ Some parent → parent_of n new ≡ Some other → parent_of m new ≡ Some other
      → list_any (names_moved n (number parent)) edits ≡ false → list_any (names_moved m (number parent)) edits ≡ false
      → comes_before n m old ≡ comes_before n m new

-- ---- the pseudo state

-- Where another row is pointed out, the row before and the row now, as far as there are such, are named.
abbrev pub EndsNamed : (ℕ → Edit → Bool) → List Edit → Option NodeId → Type 0
EndsNamed names edits None = Unit {0}
EndsNamed names edits (Some node) = list_any (names node.0) edits ≡ true

pub record StateLeads (edits : List Edit) (old new : State) : Type 0 where
  pub focused : (old.focused ≡ new.focused → ⊥) → EndsNamed names_focus edits old.focused × EndsNamed names_focus edits new.focused
  pub pointed : (old.pointed ≡ new.pointed → ⊥) → EndsNamed names_pointed edits old.pointed × EndsNamed names_pointed edits new.pointed
  pub dark : list_any names_dark edits ≡ false → old.dark ≡ new.dark

-- ---- both

-- edits lead from one tree and pseudo state to another
pub record Leads (edits : List Edit) (old_rows : List Row) (old_state : State) (rows : List Row) (state : State) : Type 0 where
  pub rows_lead : RowsLead edits old_rows rows
  pub state_leads : StateLeads edits old_state state
