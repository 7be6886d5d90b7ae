use Rattle.std.proofs.Common.{◌≡◌, drop}
use Rattle.tx_cell.specs.Wrap.{skip_blanks}
use Rattle.tx_cell.proofs.wrapping.skip_blanks.Given as goal

abbrev pub invariant-loop-start : goal.invariant-loop-start
invariant-loop-start l = skip_blanks (drop l.start l.cells) ≡ skip_blanks l.cells
