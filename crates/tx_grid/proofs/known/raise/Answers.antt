use Rattle.std.proofs.Common.{◌∙◌}
use Rattle.tx_grid.proofs.Steps.{larger_fits_nowhere}
use Rattle.tx_grid.proofs.known.raise.Goals as goal

pub loop-height-preserved : goal.loop-height-preserved
loop-height-preserved c = record {
  count = c.raise_one.ensures.count ∙ c.loop-height.invariant.count;
  board = λ rows taken b none. c.raise_one.ensures.board rows taken (c.loop-height.invariant.board rows taken b none)
      (larger_fits_nowhere c.args.columns rows taken c.args.span (record { columns = c.loop-width.width; rows = c.loop-height.height }) c.args.row
      c.loop-width.auto.width c.loop-height.auto.height none);
}
