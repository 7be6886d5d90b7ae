use Rattle.std.proofs.Common.{◌≡◌, ◌*◌, take, pos}
use Rattle.std.specs.Prelude.{sum, ◌≤ℤ◌}
use Rattle.tx_box.proofs.axes.gap_sum.Given as goal

abbrev pub invariant-loop-gap : goal.invariant-loop-gap
invariant-loop-gap l = record {
  done : l.total ≡ pos (sum (take l.gap-index l.gaps));
  low : pos 0 ≤ℤ l.total;
  high : l.total ≤ℤ pos (4294967296 * l.gap-index);
}
