use Rattle.std.proofs.Common.{◌≡◌, drop, None}
use Rattle.tx_cell.specs.Wrap.{last_blank}
use Rattle.tx_cell.proofs.wrapping.last_blank.Given as goal

abbrev pub invariant-loop-index : goal.invariant-loop-index
invariant-loop-index l = last_blank (drop l.index l.cells) ≡ None
