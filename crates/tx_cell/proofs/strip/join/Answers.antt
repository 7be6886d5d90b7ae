use Rattle.std.proofs.Common.{◌++◌, ap, ◌∙◌}
use Rattle.tx_cell.proofs.StripLemmas.{IsWellFormed-append, joined-more}
use Rattle.tx_cell.proofs.strip.join.Goals as goal

pub loop-part-preserved : goal.loop-part-preserved
loop-part-preserved c =
    let more = c.in_ok-extend_from_slice.ensures.items ∙ ap (λ part. c.loop-part.cells.items ++ part) c.as_slice.ensures.cells in
    record {
      cells = more ∙ ap (λ cells. cells ++ c.part-item.result) c.loop-part.invariant.cells ∙ joined-more _ _ _ c.loop-part-test.true c.part-item.is;
      formed = rw more (IsWellFormed-append _ _ c.loop-part.invariant.formed c.as_slice.ensures.formed);
    }
