use Rattle.std.proofs.Common.{◌≡◌, ◌+◌, length, true}
use Rattle.unicode_segmentation.specs.Grapheme.{graphemes}
use Rattle.unicode_segmentation.specs.Iter.{graphemes_left}
use Rattle.tx_widgets.specs.Field.{cells_of_clusters, clusters_before, clusters_from}
use Rattle.tx_widgets.proofs.drawing.field.place_of.Given as goal

abbrev pub invariant-loop-cluster : goal.invariant-loop-cluster
invariant-loop-cluster l = record {
  column : l.column + length (cells_of_clusters l.pen (clusters_before l.left (graphemes_left l.cluster-iterator)))
      ≡ length (cells_of_clusters l.pen (clusters_before l.at (graphemes true l.text)));
  here : clusters_from l.left (graphemes_left l.cluster-iterator) ≡ clusters_from l.at (graphemes true l.text);
  total : l.column + length (cells_of_clusters l.pen (graphemes_left l.cluster-iterator)) ≡ length (cells_of_clusters l.pen (graphemes true l.text));
}
