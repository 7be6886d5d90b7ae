use Rattle.std.proofs.Common.{◌≡◌, ◌≤◌, length, take}
use Rattle.tx_cell.specs.Wrap.{trimmed}
use Rattle.tx_cell.proofs.wrapping.trimmed.Given as goal

abbrev pub decreases-loop-end : goal.decreases-loop-end
decreases-loop-end l = l.end

abbrev pub invariant-loop-end : goal.invariant-loop-end
invariant-loop-end l = record {
  inside : l.end ≤ length l.cells;
  same : trimmed (take l.end l.cells) ≡ trimmed l.cells;
}
