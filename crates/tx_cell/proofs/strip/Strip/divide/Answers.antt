use Rattle.tx_cell.proofs.StripLemmas.{AreCuts-next}
use Rattle.tx_cell.proofs.strip.Strip.divide.Goals as goal

pub crop-requires-clause-inside : goal.crop-requires-clause-inside
crop-requires-clause-inside c = (AreCuts-next c.loop-cut.from _ c.loop-cut.cut-index c.args.cuts.now c.loop-cut-test.true c.loop-cut.invariant.order).1
