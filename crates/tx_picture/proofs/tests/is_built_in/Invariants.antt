use Rattle.std.proofs.Common.{◌≡◌, ◌++◌, List}
use Rattle.tx_picture.proofs.tests.is_built_in.Given as goal
use Rattle.tx_picture.specs.Given.{AreBuiltIn}
use Rattle.tx_tree.specs.declared.row.Row.{Row}

-- the rows so far are of built-in kinds
abbrev pub invariant-loop-row : goal.invariant-loop-row
invariant-loop-row l = record {
  done : List Row;
  whole : done ++ l.row-iterator ≡ l.tree.rows;
  built : AreBuiltIn done;
}
