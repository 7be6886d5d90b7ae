use Rattle.std.proofs.Common.{◌≡◌, ◌∷◌, ◌∙◌, length-append, arith}
use Rattle.std.specs.List.{flat_map}
use Rattle.unicode_segmentation.specs.Iter.{graphemes_left}
use Rattle.tx_cell.specs.Strip.{cluster_columns}
use Rattle.tx_widgets.proofs.PenLemmas.{same_columns}
use Rattle.tx_widgets.proofs.drawing.measures.columns_of.Goals as goal

pub loop-cluster-preserved : goal.loop-cluster-preserved
loop-cluster-preserved c =
    let next : graphemes_left c.loop-cluster.cluster-iterator ≡ c.in-Some.cluster.now ∷ graphemes_left c.next.new.self = c.in-Some.ensures.steps in
    record {
      few = omega (arith, c.capped-columns.ensures);
      total = λ pen.
          let before = c.loop-cluster.invariant.total pen in
          let all = rw next at before in
          let parts = length-append (cluster_columns pen c.in-Some.cluster.now) (flat_map (cluster_columns pen) (graphemes_left c.next.new.self)) in
          let same = c.cluster_columns.ensures.columns ∙ same_columns c.in-Some.cluster.now _ pen in
          omega (arith, c.capped-columns.ensures, same, parts, all);
    }
