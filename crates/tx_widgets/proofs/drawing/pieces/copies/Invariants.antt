use Rattle.std.proofs.Common.{◌≡◌, ◌<◌, ◌≤◌, ◌-◌, length, replicate}
use Rattle.tx_cell.specs.Cell.{shown}
use Rattle.tx_widgets.proofs.drawing.pieces.copies.Given as goal

abbrev pub decreases-doubling : goal.decreases-doubling
decreases-doubling l = l.count - length l.strip

abbrev pub invariant-doubling : goal.invariant-doubling
invariant-doubling l = record {
  same : l.strip ≡ replicate (length l.strip) (shown l.fn.text 1 l.fn.pen);
  some : 0 < length l.strip;
  few : length l.strip ≤ l.count;
}
