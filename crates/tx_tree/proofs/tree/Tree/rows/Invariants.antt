use Rattle.std.proofs.Common.{◌≡◌, ◌++◌, map}
use Rattle.tx_tree.specs.Row.{plain}
use Rattle.tx_tree.proofs.tree.Tree.rows.Given as goal

-- the copies, with the rows that are left, are all rows
abbrev pub invariant-loop-row : goal.invariant-loop-row
invariant-loop-row l = map plain l.copies.items ++ l.row-iterator ≡ l.self.rows
