use Rattle.std.proofs.Common.{◌≡◌, ◌++◌}
use Rattle.std.specs.List.{filter_map}
use Rattle.std.specs.Option.{option_map}
use Rattle.unicode_segmentation.specs.Iter.{graphemes_left}
use Rattle.tx_cell.specs.Cell.{cell_of}
use Rattle.tx_cell.specs.Wrap.{narrowed, line_heads}
use Rattle.tx_cell.proofs.wrapping.line_heads.Given as goal

abbrev pub invariant-loop-cluster : goal.invariant-loop-cluster
invariant-loop-cluster l =
    l.heads.items ++ filter_map (λ cluster. option_map (narrowed l.width) (cell_of cluster l.pen)) (graphemes_left l.cluster-iterator) ≡ line_heads l.width l.pen l.line
