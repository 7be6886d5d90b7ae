use Rattle.std.proofs.Common.{◌≡◌, ◌++◌, drop, flat_map}
use Rattle.std.specs.List.{list_all}
use Rattle.tx_tree_file.specs.Spelling.{bind_line}
use Rattle.tx_tree_file.specs.TreeFile.{bind_is_typed}
use Rattle.tx_tree_file.proofs.write.push_bind_lines.Given as goal

-- what was written, with the bindings that are left, is all; and all are as their types say where those left are
abbrev pub invariant-loop-bind : goal.invariant-loop-bind
invariant-loop-bind l = record {
  text : l.out.items ++ flat_map (bind_line l.depth) (drop l.bind-index l.binds) ≡ l.fn.out.items ++ flat_map (bind_line l.depth) l.binds;
  typed : list_all bind_is_typed (drop l.bind-index l.binds) ≡ list_all bind_is_typed l.binds;
}
