-- A tree as contracts see it.
use Rattle.std.specs.Prelude.{◌≡◌, ◌≤◌, ◌+◌, ◌==◌, ℕ, true, List, is_some, if◌then◌else◌, slice_index}
use Rattle.tx_tree.specs.Rows.{row_at}
use Rattle.tx_tree.specs.declared.row.Row.{Row}

-- the rows in preorder, the number of nodes made so far, and for each number from 0 how many
-- classes more the row of that node has room for
pub record TreeValue : Type 0 where
  pub rows : List Row
  pub made : ℕ
  pub spares : List ℕ

-- the room that the row of a node has for further classes
abbrev pub spare_of : TreeValue → ℕ → ℕ
spare_of tree n = slice_index tree.spares n

-- the rows and the number of nodes made are as they were
pub record SameRows (old new : TreeValue) : Type 0 where
  pub rows : new.rows ≡ old.rows
  pub made : new.made ≡ old.made

-- no row that is there has less room for further classes than before
abbrev pub KeepsSpares : TreeValue → TreeValue → Type 0
KeepsSpares old new = (n : ℕ) → is_some (row_at n new.rows) ≡ true → spare_of old n ≤ spare_of new n

-- no row that is there has less room than before, but for one place of one row
abbrev pub LowersOne : ℕ → TreeValue → TreeValue → Type 0
LowersOne node old new = (n : ℕ) → is_some (row_at n new.rows) ≡ true → spare_of old n ≤ spare_of new n + (if n == node then 1 else 0)
