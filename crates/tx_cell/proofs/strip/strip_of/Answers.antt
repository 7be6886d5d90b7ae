use Rattle.std.proofs.Common.{◌++◌, ap, ◌∙◌}
use Rattle.tx_cell.specs.Strip.{with_tail}
use Rattle.tx_cell.proofs.StripLemmas.{IsWellFormed-append, IsWellFormed-with_tail, with_tails-more, own_at}
use Rattle.tx_cell.proofs.strip.strip_of.Goals as goal

pub loop-cell-preserved : goal.loop-cell-preserved
loop-cell-preserved c =
    let own = own_at c.args.heads.now c.loop-cell.cell-index c.cell-item.result c.requires.own c.loop-cell-test.true c.cell-item.is in
    record {
      cells = c.in_ok-push_whole.ensures.cells ∙ ap (λ cells. cells ++ with_tail c.cell-item.result) c.loop-cell.invariant.cells
          ∙ with_tails-more c.args.heads.now c.loop-cell.cell-index c.cell-item.result c.loop-cell-test.true c.cell-item.is;
      formed = rw c.in_ok-push_whole.ensures.cells (IsWellFormed-append _ _ c.loop-cell.invariant.formed (IsWellFormed-with_tail c.cell-item.result own));
    }
