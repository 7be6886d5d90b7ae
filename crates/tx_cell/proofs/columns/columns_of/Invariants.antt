use Rattle.std.proofs.Common.{◌≡◌, ◌+◌, length}
use Rattle.std.specs.List.{flat_map}
use Rattle.unicode_segmentation.specs.Iter.{graphemes_left}
use Rattle.tx_cell.specs.Strip.{cluster_columns, line_cells}
use Rattle.tx_cell.specs.declared.pen.Pen.{Pen}
use Rattle.tx_cell.proofs.columns.columns_of.Given as goal

abbrev pub invariant-loop-cluster : goal.invariant-loop-cluster
invariant-loop-cluster l = (pen : Pen) → l.columns + length (flat_map (cluster_columns pen) (graphemes_left l.cluster-iterator)) ≡ length (line_cells l.line pen)
