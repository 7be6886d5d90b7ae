use Rattle.std.proofs.Common.{◌≡◌, ◌≤◌, ◌+◌, List, length}
use Rattle.tx_read.specs.Pieces.{pieces}
use Rattle.tx_tree.specs.declared.row.Row.{Row}
use Rattle.tx_tree_file.specs.Sections.{with_binds}
use Rattle.tx_tree_file.specs.TreeReading.{rows_behind}
use Rattle.tx_tree_file.proofs.section.read_section.Given as goal

-- what all gives is what is left to give once these bindings are read
abbrev pub invariant-loop-text : goal.invariant-loop-text
invariant-loop-text l = record {
  lines : l.line + length l.left ≤ l.done + length l.rest;
  later : l.done ≤ l.line;
  so : (before : List Row) (last : Row) → last.depth ≡ l.depth
      → rows_behind (pieces 10 l.rest) l.done (record { before = before; last = last }) ≡ rows_behind (pieces 10 l.left) l.line (record { before = before; last = with_binds l.binds.items last });
}

abbrev pub decreases-loop-text : goal.decreases-loop-text
decreases-loop-text l = length l.left
