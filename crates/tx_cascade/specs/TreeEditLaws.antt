-- What the edits of a tree lead to.
use Rattle.std.specs.Prelude.{◌≡◌, ℕ, ◌+◌, List, [], ◌∷◌, Some, None, is_some, option_map}
use Rattle.tx_tree.specs.Classes.{has_name}
use Rattle.tx_tree.specs.Edits.{move_refusal}
use Rattle.tx_tree.specs.Mount.{mount_refusal, mounted}
use Rattle.tx_tree.specs.Row.{number}
use Rattle.tx_tree.specs.Rows.{row_at, parent_of, removed, moved}
use Rattle.tx_tree.specs.TreeValue.{TreeValue}
use Rattle.tx_tree.specs.WellFormed.{IsTree}
use Rattle.tx_tree.specs.declared.row.NewRow.{NewRow}
use Rattle.tx_tree.specs.declared.row.NodeId.{NodeId}
use Rattle.tx_tree.specs.declared.row.Row.{Row}
use Rattle.tx_select.specs.declared.value.Pseudo.{Pseudo as State}
use Rattle.tx_cascade.specs.Edits.{comes_before, Leads}
use Rattle.tx_cascade.specs.declared.edit.Edit.TheVariants.{Mounted, Removed, Moved}

-- the row of a node is below that of another, which is its parent
abbrev pub IsBelow : List Row → NodeId → NodeId → Type 0
IsBelow rows node parent = option_map (λ row. row.node) (parent_of node.0 rows) ≡ Some parent

-- Where a tree takes a new row, lets a row go or moves one, the edit that names the row with its parent leads from the rows before it
-- to the rows after it.
pub record ChangesOfTreesLead (tree : TreeValue) (state : State) : Type 0 where
  pub mount : (parent node : NodeId) (new : NewRow) → mount_refusal tree.rows tree.made parent.0 new ≡ None → node.0 ≡ tree.made + 1
      → Leads (Mounted node parent ∷ []) tree.rows state (mounted parent.0 node.0 new tree.rows) state
  pub remove : (node parent : NodeId) → IsBelow tree.rows node parent
      → Leads (Removed node parent ∷ []) tree.rows state (removed node.0 tree.rows) state
  pub move_before : (node before parent : NodeId) → IsBelow tree.rows node parent → move_refusal tree.rows node.0 before.0 ≡ None
      → Leads (Moved node parent ∷ []) tree.rows state (moved node.0 before.0 tree.rows) state

abbrev pub TreeEditsLead : Type 0
TreeEditsLead = (tree : TreeValue) (state : State) → IsTree tree → ChangesOfTreesLead tree state

-- two rows are equal, but for the order and the repeats of their classes
pub record AreAlike (row other : Row) : Type 0 where
  pub classes : (name : List ℕ) → has_name name row.classes.names ≡ has_name name other.classes.names
  pub text : row.text ≡ other.text
  pub inline : row.inline ≡ other.inline
  pub disabled : row.disabled ≡ other.disabled
  pub private : row.private ≡ other.private
  pub kind : row.kind ≡ other.kind
  pub id : row.id ≡ other.id
  pub depth : row.depth ≡ other.depth
  pub binds : row.binds ≡ other.binds

-- Two trees have rows of the same numbers. Rows of one number are alike and have parents of one number, and the children of a parent
-- stand in the same order.
pub record HaveSameRows (rows other : List Row) : Type 0 where
  pub numbers : (n : ℕ) → is_some (row_at n rows) ≡ is_some (row_at n other)
  pub alike : (n : ℕ) (before after : Row) → row_at n rows ≡ Some before → row_at n other ≡ Some after → AreAlike before after
  pub parents : (n : ℕ) → option_map number (parent_of n rows) ≡ option_map number (parent_of n other)
  pub order : (n m : ℕ) (parent : Row) → parent_of n rows ≡ Some parent → parent_of m rows ≡ Some parent → comes_before n m rows ≡ comes_before n m other

-- Where no edit leads from one tree and pseudo state to another, nothing differs.
abbrev pub NothingNamed : Type 0
NothingNamed = (old new : TreeValue) (old_state state : State) → IsTree old → IsTree new → Leads [] old.rows old_state new.rows state
    → HaveSameRows old.rows new.rows × (old_state ≡ state)
