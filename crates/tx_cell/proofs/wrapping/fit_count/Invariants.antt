use Rattle.std.proofs.Common.{◌≡◌, ◌+◌, drop}
use Rattle.tx_cell.specs.Wrap.{fit_count}
use Rattle.tx_cell.proofs.wrapping.fit_count.Given as goal

abbrev pub invariant-loop-count : goal.invariant-loop-count
invariant-loop-count l = l.count + fit_count l.room (drop l.count l.cells) ≡ fit_count l.width l.cells
