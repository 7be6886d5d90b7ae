-- How walks go over the rows.
use Rattle.std.specs.Prelude.{◌≡◌, ◌≤◌, ℕ, List, [], ◌∷◌, Option, Some, None, option_map}
use Rattle.std.specs.Option.{option_map_or}
use Rattle.tx_tree.specs.Rows.{row_at, before_of, from_of, next_of, parent_of, ancestors_of, count_of}
use Rattle.tx_tree.specs.declared.row.NodeId.{NodeId}
use Rattle.tx_tree.specs.declared.row.Row.{Row}

-- the rows from a node on, if there is one
abbrev pub rest_from : Option NodeId → List Row → List Row
rest_from None rows = []
rest_from (Some node) rows = from_of node.0 rows

-- the rows from a node on, if there is one, up to another, if there is one
abbrev pub rest_between : Option NodeId → Option NodeId → List Row → List Row
rest_between here None rows = rest_from here rows
rest_between here (Some end) rows = before_of end.0 (rest_from here rows)

-- the row of a node, if there is one, and its ancestors
abbrev pub rest_up_from : Option NodeId → List Row → List Row
rest_up_from None rows = []
rest_up_from (Some node) rows = option_map_or (λ row. row ∷ ancestors_of node.0 rows) (row_at node.0 rows) []

-- no number stands twice
abbrev pub NumbersDiffer : List Row → Type 0
NumbersDiffer rows = (n : ℕ) → count_of n rows ≤ 1

-- the ancestors of a row are its parent and the parent's ancestors
abbrev pub ClimbsOn : List Row → Type 0
ClimbsOn rows = (n : ℕ) → ancestors_of n rows ≡ rest_up_from (option_map (λ row. row.node) (parent_of n rows)) rows

-- where numbers differ, the rows from a node on are its own row and then those from the next one on
abbrev pub WalksOn : Type 0
WalksOn =
    (rows : List Row) → NumbersDiffer rows → (n : ℕ) (row : Row) → row_at n rows ≡ Some row
    → from_of n rows ≡ row ∷ rest_from (option_map (λ r. r.node) (next_of n rows)) rows
