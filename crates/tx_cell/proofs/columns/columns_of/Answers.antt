use Rattle.std.proofs.Common.{◌≡◌, ◌∷◌, arith}
use Rattle.unicode_segmentation.specs.Iter.{graphemes_left}
use Rattle.tx_cell.proofs.StripLemmas.{columns_fit}
use Rattle.tx_cell.specs.Pen.{white_on_black}
use Rattle.tx_cell.proofs.columns.columns_of.Goals as goal

pub overflow_add-columns : goal.overflow_add-columns
overflow_add-columns c =
    let total = c.loop-cluster.invariant white_on_black in
    let next : graphemes_left c.loop-cluster.cluster-iterator ≡ c.in-Some.cluster.now ∷ graphemes_left c.next.new.self = c.in-Some.ensures.steps in
    let fit = columns_fit c.args.line.now c.in-Some.cluster.now (graphemes_left c.next.new.self) c.loop-cluster.columns _ c.utf8.line (rw next at total) (c.cluster_columns-columns.ensures.columns white_on_black) in
    omega (arith, fit)
