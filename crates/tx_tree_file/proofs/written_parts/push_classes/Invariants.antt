use Rattle.std.proofs.Common.{◌≡◌, ◌++◌, drop}
use Rattle.std.specs.List.{list_all}
use Rattle.tx_text.specs.Name.{is_name}
use Rattle.tx_tree_file.specs.Spelling.{class_parts}
use Rattle.tx_tree_file.proofs.written_parts.push_classes.Given as goal

-- what was written, with the classes that are left, is all; and all are names where those left are
abbrev pub invariant-loop-class : goal.invariant-loop-class
invariant-loop-class l = record {
  text : l.out.items ++ class_parts (drop l.class-index l.classes) ≡ l.fn.out.items ++ class_parts l.classes;
  typed : list_all is_name (drop l.class-index l.classes) ≡ list_all is_name l.classes;
}
