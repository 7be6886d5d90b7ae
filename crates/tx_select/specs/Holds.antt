-- When a compound holds of a row of a tree. Rows stand in preorder.
use Rattle.std.specs.Prelude.{ℕ, ◌==◌, ◌&&◌, ◌||◌, Bool, true, false, not, List, Option, Some, None, is_some, is_none}
use Rattle.std.specs.List.{list_all, list_any}
use Rattle.std.specs.Option.{option_map_or}
use Rattle.tx_tree.specs.Classes.{has_name}
use Rattle.tx_tree.specs.Row.{number, has_number}
use Rattle.tx_tree.specs.Rows.{parent_of, ancestors_of, children_of, next_sibling_of, has_id}
use Rattle.tx_tree.specs.Edits.{is_first}
use Rattle.tx_tree.specs.declared.kind.Kind.{Kind}
use Rattle.tx_tree.specs.declared.row.NodeId.{NodeId}
use Rattle.tx_tree.specs.declared.row.Row.{Row}
use Rattle.tx_tree.specs.Kind.{is_called}
use Rattle.tx_select.specs.declared.value.Part.{Part}
use Rattle.tx_select.specs.declared.value.Part.TheVariants.{Id, Class, Pseudo}
use Rattle.tx_select.specs.declared.value.PseudoName.{PseudoName}
use Rattle.tx_select.specs.declared.value.PseudoName.TheVariants.{Hover, Focus, FocusWithin, Blur, Enabled, Disabled, Dark, Light, FirstChild, LastChild}
use Rattle.tx_select.specs.declared.value.Compound.{Compound}
use Rattle.tx_select.specs.declared.value.Pseudo.{Pseudo as State}

-- whether the row with a number is that of a node, if there is one
abbrev pub is_row_of : Option NodeId → ℕ → Bool
is_row_of None n = false
is_row_of (Some node) n = node.0 == n

-- whether it is an ancestor of that row
unfoldable pub is_above : Option NodeId → List Row → ℕ → Bool
is_above None rows n = false
is_above (Some node) rows n = list_any (has_number n) (ancestors_of node.0 rows)

-- whether it is the first of its parent's children, whatever their kinds; the Screen has no parent
unfoldable pub is_first_child : List Row → ℕ → Bool
is_first_child rows n = option_map_or (λ parent. is_first n (children_of (number parent) rows)) (parent_of n rows) false

-- whether it has a parent, and no child of it comes next
unfoldable pub is_last_child : List Row → ℕ → Bool
is_last_child rows n = is_some (parent_of n rows) && is_none (next_sibling_of n rows)

-- whether a row is disabled or has a disabled ancestor
unfoldable pub is_disabled : List Row → Row → Bool
is_disabled rows row = row.disabled || list_any (λ above. above.disabled) (ancestors_of (number row) rows)

unfoldable pub pseudo_holds : State → List Row → Row → PseudoName → Bool
pseudo_holds state rows row Hover = is_row_of state.pointed (number row) || is_above state.pointed rows (number row)
pseudo_holds state rows row Focus = is_row_of state.focused (number row)
pseudo_holds state rows row FocusWithin = is_row_of state.focused (number row) || is_above state.focused rows (number row)
pseudo_holds state rows row Blur = not (is_row_of state.focused (number row))
pseudo_holds state rows row Enabled = not (is_disabled rows row)
pseudo_holds state rows row Disabled = is_disabled rows row
pseudo_holds state rows row Dark = state.dark
pseudo_holds state rows row Light = not state.dark
pseudo_holds state rows row FirstChild = is_first_child rows (number row)
pseudo_holds state rows row LastChild = is_last_child rows (number row)

unfoldable pub part_holds : State → List Row → Row → Part → Bool
part_holds state rows row (Id name) = has_id name row
part_holds state rows row (Class name) = has_name name row.classes.names
part_holds state rows row (Pseudo pseudo) = pseudo_holds state rows row pseudo

-- a compound without a name of a kind holds of rows of every kind
unfoldable pub kind_holds : Option (List ℕ) → Kind → Bool
kind_holds None kind = true
kind_holds (Some name) kind = is_called kind name

unfoldable pub compound_holds : State → List Row → Row → Compound → Bool
compound_holds state rows row compound = kind_holds compound.kind row.kind && list_all (part_holds state rows row) compound.parts
