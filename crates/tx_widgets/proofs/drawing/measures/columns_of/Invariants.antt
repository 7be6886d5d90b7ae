use Rattle.std.proofs.Common.{◌≡◌, ◌≤◌, ◌+◌, min, length}
use Rattle.std.specs.List.{flat_map}
use Rattle.unicode_segmentation.specs.Iter.{graphemes_left}
use Rattle.tx_cell.specs.Strip.{cluster_columns, line_cells}
use Rattle.tx_cell.specs.declared.pen.Pen.{Pen}
use Rattle.tx_widgets.specs.Measures.{most}
use Rattle.tx_widgets.proofs.drawing.measures.columns_of.Given as goal

abbrev pub invariant-loop-cluster : goal.invariant-loop-cluster
invariant-loop-cluster l = record {
  few : l.columns ≤ most;
  total : (pen : Pen) → min (l.columns + length (flat_map (cluster_columns pen) (graphemes_left l.cluster-iterator))) most ≡ min (length (line_cells l.line pen)) most;
}
