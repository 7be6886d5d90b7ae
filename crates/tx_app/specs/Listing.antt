-- The lines of the rows that a selector matches as a run begins.
use Rattle.std.specs.Prelude.{◌≡◌, ℕ, List, [], ◌++◌, flat_map, Option, Some, None, codes, decimal}
use Rattle.std.specs.Option.{option_map_or}
use Rattle.tx_opening.specs.OpeningState.{opening_state}
use Rattle.tx_tree.specs.Kind.{kind_name}
use Rattle.tx_tree.specs.Rows.{row_at}
use Rattle.tx_tree.specs.declared.row.NodeId.{NodeId}
use Rattle.tx_tree.specs.declared.row.Row.{Row}
use Rattle.tx_select.specs.Match.{AreMatches}
use Rattle.tx_select.specs.SelectorValue.{SelectorValue}

-- a row's number, its kind, and its id, where it has one
abbrev pub id_bytes : Option (List ℕ) → List ℕ
id_bytes None = []
id_bytes (Some name) = codes " #" ++ name

abbrev pub match_line : Row → List ℕ
match_line row = decimal row.node.0 ++ codes " " ++ kind_name row.kind ++ id_bytes row.id ++ codes "\n"

-- a line for each node
abbrev pub node_line : List Row → NodeId → List ℕ
node_line rows node = option_map_or match_line (row_at node.0 rows) []

abbrev pub lines_of : List Row → List NodeId → List ℕ
lines_of rows nodes = flat_map (node_line rows) nodes

-- these are the lines of all rows that the selector matches, in document order
pub record ListsMatches (rows : List Row) (selector : SelectorValue) (lines : List ℕ) : Type 0 where
  pub nodes : List NodeId
  pub matches : AreMatches (opening_state rows) rows selector.compounds nodes
  pub are : lines ≡ lines_of rows nodes
