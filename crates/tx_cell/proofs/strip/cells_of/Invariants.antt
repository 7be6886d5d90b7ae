use Rattle.std.proofs.Common.{◌≡◌, ◌++◌}
use Rattle.std.specs.List.{flat_map}
use Rattle.unicode_segmentation.specs.Iter.{graphemes_left}
use Rattle.tx_cell.specs.Strip.{cluster_columns, line_cells}
use Rattle.tx_cell.proofs.strip.cells_of.Given as goal

abbrev pub invariant-loop-cluster : goal.invariant-loop-cluster
invariant-loop-cluster l = l.cells.items ++ flat_map (cluster_columns l.pen) (graphemes_left l.cluster-iterator) ≡ line_cells l.line l.pen
