-- Nodes that are linked by their numbers, and the rows that they stand for.
use Rattle.std.specs.Prelude.{◌≡◌, ◌≢◌, ℕ, zero, suc, ◌<◌, ◌≤◌, length, Bool, true, false, List, [], ◌∷◌, Option, Some, None, is_some, slice_index, slice_index_or, flat_map}
pub use Rattle.tx_tree.specs.ChildLists.{times, first_or_zero, behind_in, last_or_zero, ahead_of, past_of, without_child, with_before, ahead_in}
use Rattle.tx_tree.specs.Kind.{holds_children, is_screen}
use Rattle.tx_tree.specs.Classes.{ClassList}
use Rattle.tx_tree.specs.Row.{plain}
use Rattle.tx_tree.specs.Spelled.{is_spelled}
use Rattle.tx_tree.specs.declared.row.Row.{Row}
use Rattle.tx_tree.specs.declared.row.NodeId.{NodeId}
use Rattle.tx_tree.specs.declared.tree.node.Node.{Node}

-- a node for each number that is in use
abbrev pub Slots : Type 0
Slots = ℕ → Option Node

-- the slots of a list, in which a node stands at its number
abbrev pub slots : List (Option Node) → Slots
slots nodes n = slice_index_or nodes n None

-- the row of a node, and then what its children stand for
abbrev pub rows_from : (ℕ → List Row) → Option Node → List Row
rows_from below None = []
rows_from below (Some node) = plain node.row ∷ flat_map below node.children

-- the rows of a node's subtree, down to some depth below it
unfoldable pub rows_at : ℕ → Slots → ℕ → List Row
rows_at zero at n = []
rows_at (suc levels) at n = rows_from (rows_at levels at) (at n)

-- all rows: those of the node 1, down to the depth 63
unfoldable pub rows_of : Slots → List Row
rows_of at = rows_at 64 at 1

-- the children in a slot
abbrev pub children_in : Option Node → List ℕ
children_in None = []
children_in (Some node) = node.children

-- the parent of the node in a slot, and its depth
abbrev pub place_in : Option Node → Option (ℕ × ℕ)
place_in None = None
place_in (Some node) = Some (node.parent, node.row.depth)

-- the same one by one, 0 where there is no node
abbrev pub parent_in : Option Node → ℕ
parent_in None = 0
parent_in (Some node) = node.parent

abbrev pub depth_in : Option Node → ℕ
depth_in None = 0
depth_in (Some node) = node.row.depth

-- what holds of each node: it agrees with its children and its parent
pub record IsNode (at : Slots) (n : ℕ) (node : Node) : Type 0 where
  pub numbered : node.row.node.0 ≡ n
  pub shallow : node.row.depth < 64
  pub points_back : (k : ℕ) → 0 < times k node.children → place_in (at k) ≡ Some (n, suc node.row.depth)
  pub may_hold : (k : ℕ) → 0 < times k node.children → holds_children node.row.kind ≡ true
  pub listed : n ≢ 1 → times n (children_in (at node.parent)) ≡ 1
  pub not_screen : n ≢ 1 → is_screen node.row.kind ≡ false
  pub is_root : n ≡ 1 → is_screen node.row.kind ≡ true

-- the links of all nodes agree, and the node 1 is the first
pub record IsLinked (at : Slots) : Type 0 where
  pub nowhere : at 0 ≡ None
  pub root : place_in (at 1) ≡ Some (0, 0)
  pub nodes : (n : ℕ) (node : Node) → at n ≡ Some node → IsNode at n node

-- the next sibling of each node is kept
abbrev pub KeepsNext : Slots → List ℕ → Type 0
KeepsNext at behind =
    (n : ℕ) (parent depth : ℕ) → place_in (at n) ≡ Some (parent, depth)
    → slice_index behind n ≡ behind_in n (children_in (at parent))

-- the id in a slot
abbrev pub id_in : Option Node → Option (List ℕ)
id_in None = None
id_in (Some node) = node.row.id

-- the map finds the node of each id, and nothing else
pub record KeepsIds (at : Slots) (find : List ℕ → Option ℕ) : Type 0 where
  pub found : (name : List ℕ) (n : ℕ) → id_in (at n) ≡ Some name → find name ≡ Some n
  pub known : (name : List ℕ) (n : ℕ) → find name ≡ Some n → id_in (at n) ≡ Some name

-- the room for further classes in a slot
abbrev pub spare_in : Option Node → ℕ
spare_in None = 0
spare_in (Some node) = node.row.classes.spare

-- a slot whose node has these children
abbrev pub with_children : List ℕ → Option Node → Option Node
with_children children None = None
with_children children (Some node) = Some (record node { children = children })

-- the nodes agree with each other, and what is kept beside them agrees with them
pub record IsKept (nodes : List (Option Node)) (behind : List ℕ) (find : List ℕ → Option ℕ) : Type 0 where
  pub linked : IsLinked (slots nodes)
  pub next : KeepsNext (slots nodes) behind
  pub ids : KeepsIds (slots nodes) find
  pub as_long : length behind ≡ length nodes
  pub few : length nodes ≤ 65537

-- no node that is there has less room for further classes than before
abbrev pub KeepsRoom : List (Option Node) → List (Option Node) → Type 0
KeepsRoom old new = (n : ℕ) → is_some (slots new n) ≡ true → spare_in (slots old n) ≤ spare_in (slots new n)

-- a slot whose row is changed
abbrev pub with_row : (Row → Row) → Option Node → Option Node
with_row change None = None
with_row change (Some node) = Some (record node { row = change node.row })

-- the classes in a slot
abbrev pub classes_in : Option Node → ClassList
classes_in None = record { names = []; spare = 0 }
classes_in (Some node) = node.row.classes

-- a slot whose row has these classes
abbrev pub with_own_classes : ClassList → Option Node → Option Node
with_own_classes classes slot = with_row (λ row. record row { classes = classes }) slot

-- a number as a node
abbrev pub node_id : ℕ → NodeId
node_id n = record { 0 = n }

-- whether the row in a slot, if there is one, has a spelling
abbrev pub slot_is_spelled : Option Node → Bool
slot_is_spelled None = true
slot_is_spelled (Some node) = is_spelled node.row
