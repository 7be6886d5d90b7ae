use Rattle.std.proofs.Common.{◌≡◌, ◌-◌, ◌^◌, length, IfSome}
use Rattle.tx_tree_file.specs.Sections.{rows_from, IsMet, IsGrown}
use Rattle.tx_tree_file.proofs.LastRows.{bytes_left}
use Rattle.tx_tree_file.proofs.read.add_rows.Given as goal

-- what all gives is what is left to give
abbrev pub invariant-loop-next : goal.invariant-loop-next
invariant-loop-next l = record {
  so : rows_from l.fn.tree.rows l.fn.first ≡ rows_from l.tree.rows l.next;
  grown : IsGrown l.tree l.path.items;
  met : IfSome l.next (IsMet (length l.path.items - 1) 0 (2 ^ 32 - 1));
}

abbrev pub decreases-loop-next : goal.decreases-loop-next
decreases-loop-next l = bytes_left l.next
