use Rattle.std.proofs.Common.{◌≡◌, ◌++◌, List}
use Rattle.tx_cascade.specs.Styles.{all_styles}
use Rattle.tx_sizes.specs.Forest.{styled_rows}
use Rattle.tx_tree.specs.declared.row.Row.{Row}
use Rattle.tx_sizes.proofs.rows.styled_rows.Given as goal

-- the rows so far have their styles
abbrev pub invariant-loop-row : goal.invariant-loop-row
invariant-loop-row l = record {
  done : List Row;
  whole : done ++ l.row-iterator ≡ l.tree.rows;
  made : l.rows.items ≡ styled_rows (all_styles l.styles.sheet l.styles.state l.tree.rows) done;
}
