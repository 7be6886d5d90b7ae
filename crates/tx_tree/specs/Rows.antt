-- Rows in preorder. Parent, subtree and next row are said of the list by depth alone.
use Rattle.std.specs.Prelude.{ℕ, zero, suc, ◌+◌, ◌==◌, Bool, nat_lt, cond, List, [], ◌∷◌, ◌++◌, Option, Some, None, find, filter, option_and_then}
use Rattle.std.specs.Option.{option_eq, option_map_or}
use Rattle.std.specs.Str.{bytes_eq}
use Rattle.tx_tree.specs.Row.{has_number}
use Rattle.tx_tree.specs.declared.row.Row.{Row}

-- the row with a number
abbrev pub row_at : ℕ → List Row → Option Row
row_at n rows = find (has_number n) rows

-- its depth
abbrev pub depth_of : ℕ → List Row → ℕ
depth_of n rows = option_map_or (λ row. row.depth) (row_at n rows) 0

-- the rows before the row with a number: all of them where there is none
abbrev pub before_of : ℕ → List Row → List Row
before_of n [] = []
before_of n (row ∷ rows) = cond (has_number n row) [] (row ∷ before_of n rows)

-- that row and the rows after it
abbrev pub from_of : ℕ → List Row → List Row
from_of n [] = []
from_of n (row ∷ rows) = cond (has_number n row) (row ∷ rows) (from_of n rows)

-- the first rows that are deeper than a depth, up to the next one that isn't
abbrev pub deeper : ℕ → List Row → List Row
deeper depth [] = []
deeper depth (row ∷ rows) = cond (nat_lt depth row.depth) (row ∷ deeper depth rows) []

-- the rows from there on
abbrev pub past : ℕ → List Row → List Row
past depth [] = []
past depth (row ∷ rows) = cond (nat_lt depth row.depth) (past depth rows) (row ∷ rows)

-- the first row with what is below it
abbrev pub first_subtree : List Row → List Row
first_subtree [] = []
first_subtree (row ∷ rows) = row ∷ deeper row.depth rows

-- the rows after that
abbrev pub past_subtree : List Row → List Row
past_subtree [] = []
past_subtree (row ∷ rows) = past row.depth rows

-- the row with a number and the rows below it
abbrev pub subtree_of : ℕ → List Row → List Row
subtree_of n rows = first_subtree (from_of n rows)

-- the rows after that subtree
abbrev pub after_of : ℕ → List Row → List Row
after_of n rows = past_subtree (from_of n rows)

-- the first row
abbrev pub first_row : List Row → Option Row
first_row [] = None
first_row (row ∷ rows) = Some row

-- the row after the first
abbrev pub second_row : List Row → Option Row
second_row [] = None
second_row (row ∷ rows) = first_row rows

-- the row after the row with a number
abbrev pub next_of : ℕ → List Row → Option Row
next_of n rows = second_row (from_of n rows)

-- the last row that is one less deep than a depth, or else the one given
abbrev pub last_above : ℕ → Option Row → List Row → Option Row
last_above depth found [] = found
last_above depth found (row ∷ rows) = last_above depth (cond (row.depth + 1 == depth) (Some row) found) rows

-- the parent of the row with a number: the last row before it that is one less deep
abbrev pub parent_of : ℕ → List Row → Option Row
parent_of n rows = option_and_then (λ row. last_above row.depth None (before_of n rows)) (row_at n rows)

-- its parent, the parent's parent, and so on: so many of them
abbrev pub ancestors_within : ℕ → ℕ → List Row → List Row
ancestors_within zero n rows = []
ancestors_within (suc count) n rows = option_map_or (λ row. row ∷ ancestors_within count row.node.0 rows) (parent_of n rows) []

-- all of them, up to the Screen: as many as it is deep
abbrev pub ancestors_of : ℕ → List Row → List Row
ancestors_of n rows = ancestors_within (depth_of n rows) n rows

-- the first row, where it is so deep
abbrev pub first_at : ℕ → List Row → Option Row
first_at depth [] = None
first_at depth (row ∷ rows) = cond (row.depth == depth) (Some row) None

-- the next sibling of the row with a number: the first row after its subtree, where it is as deep
abbrev pub next_sibling_of : ℕ → List Row → Option Row
next_sibling_of n rows = first_at (depth_of n rows) (after_of n rows)

-- the children of the first row: the rows below it that are one deeper
abbrev pub first_children : List Row → List Row
first_children [] = []
first_children (row ∷ rows) = filter (λ below. below.depth == row.depth + 1) (deeper row.depth rows)

-- the children of the row with a number
abbrev pub children_of : ℕ → List Row → List Row
children_of n rows = first_children (from_of n rows)

-- the rows without a subtree
abbrev pub removed : ℕ → List Row → List Row
removed n rows = before_of n rows ++ after_of n rows

-- the rows with a subtree directly before another row
abbrev pub moved : ℕ → ℕ → List Row → List Row
moved n before rows =
    let rest = removed n rows in
    before_of before rest ++ (subtree_of n rows ++ from_of before rest)

-- whether a row has this id
abbrev pub has_id : List ℕ → Row → Bool
has_id name row = option_eq bytes_eq row.id (Some name)

-- how many rows have a number
abbrev pub count_of : ℕ → List Row → ℕ
count_of n [] = 0
count_of n (row ∷ rows) = cond (has_number n row) 1 0 + count_of n rows
