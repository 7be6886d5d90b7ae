use Rattle.std.proofs.Common.{arith}
use Rattle.tx_grid.proofs.Bits.{starts_one, starts_more}
use Rattle.tx_grid.proofs.taken.starts_of.Goals as goal

pub loop-count-init : goal.loop-count-init
loop-count-init c = record {
  least = omega arith;
  most = c.requires.least;
  starts = starts_one c.args.row (omega (arith, c.ranges.row.fits));
}

pub loop-count-preserved : goal.loop-count-preserved
loop-count-preserved c = record {
  least = omega (arith, c.loop-count.invariant.least);
  most = omega (arith, c.loop-count.invariant.most, c.loop-count-test.true, c.min-step.ensures);
  starts = starts_more c.args.row c.loop-count.count c.min-step.result c.loop-count.starts (omega (arith, c.min-step.ensures)) c.loop-count.invariant.starts;
}
