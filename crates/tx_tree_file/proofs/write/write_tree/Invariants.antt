use Rattle.std.proofs.Common.{◌≡◌, ◌++◌}
use Rattle.std.specs.List.{list_all}
use Rattle.tx_tree_file.specs.Spelling.{spelling}
use Rattle.tx_tree_file.specs.TreeFile.{is_typed}
use Rattle.tx_tree_file.proofs.write.write_tree.Given as goal

-- what was written, with the rows that are left, is the whole tree; and all are as their types say where those left are
abbrev pub invariant-loop-row : goal.invariant-loop-row
invariant-loop-row l = record {
  text : l.out.items ++ spelling l.row-iterator ≡ spelling l.tree.rows;
  typed : list_all is_typed l.row-iterator ≡ list_all is_typed l.tree.rows;
}
