-- When a selector matches a row, and which rows it finds.
use Rattle.std.specs.Prelude.{◌≡◌, ◌⊎◌, ℕ, Bool, true, false, List, [], ◌∷◌, Option, Some, None, map, filter}
use Rattle.tx_tree.specs.Row.{number}
use Rattle.tx_tree.specs.Rows.{row_at, parent_of, ancestors_of}
use Rattle.tx_tree.specs.declared.row.NodeId.{NodeId}
use Rattle.tx_tree.specs.declared.row.Row.{Row}
use Rattle.tx_select.specs.Holds.{compound_holds}
use Rattle.tx_select.specs.declared.value.Compound.{Compound}
use Rattle.tx_select.specs.declared.value.Pseudo.{Pseudo as State}

-- whether a row is one of some
abbrev pub IsAmong : Row → List Row → Type 0
IsAmong row [] = ⊥
IsAmong row (first ∷ rows) = (first ≡ row) ⊎ IsAmong row rows

-- a row is the parent of another, for `>`, or an ancestor
abbrev pub IsJoined : List Row → Bool → Row → Row → Type 0
IsJoined rows true above row = parent_of (number row) rows ≡ Some above
IsJoined rows false above row = IsAmong above (ancestors_of (number row) rows)

-- One row for each compound, of which it holds. Each is joined to the next as the next compound says.
abbrev pub ArePlaced : State → List Row → List Compound → List Row → Type 0
ArePlaced state rows (compound ∷ []) (row ∷ []) = compound_holds state rows row compound ≡ true
ArePlaced state rows (compound ∷ next ∷ compounds) (row ∷ below ∷ places) =
    (compound_holds state rows row compound ≡ true) × IsJoined rows next.child row below × ArePlaced state rows (next ∷ compounds) (below ∷ places)
ArePlaced state rows _ _ = ⊥

-- the last row of some
abbrev pub last_row : List Row → Option Row
last_row [] = None
last_row (row ∷ []) = Some row
last_row (row ∷ next ∷ rows) = last_row (next ∷ rows)

-- These compounds match the row with a number: they can be placed so that the last one stands at that row.
pub record IsMatch (state : State) (rows : List Row) (n : ℕ) (compounds : List Compound) : Type 0 where
  pub row : Row
  pub there : row_at n rows ≡ Some row
  pub places : List Row
  pub placed : ArePlaced state rows compounds places
  pub last : last_row places ≡ Some row

-- These are the nodes of all rows that the compounds match, in document order: `test` tells which rows these are.
pub record AreMatches (state : State) (rows : List Row) (compounds : List Compound) (nodes : List NodeId) : Type 0 where
  pub test : Row → Bool
  pub sound : (row : Row) → test row ≡ true → IsMatch state rows (number row) compounds
  pub whole : (row : Row) → IsMatch state rows (number row) compounds → test row ≡ true
  pub are : nodes ≡ map (λ row. row.node) (filter test rows)

-- the first of some nodes
abbrev pub first_node : List NodeId → Option NodeId
first_node [] = None
first_node (node ∷ nodes) = Some node

-- this is the first node of all that match, or None where none does
pub record IsFirstMatch (state : State) (rows : List Row) (compounds : List Compound) (first : Option NodeId) : Type 0 where
  pub nodes : List NodeId
  pub all : AreMatches state rows compounds nodes
  pub is : first ≡ first_node nodes
