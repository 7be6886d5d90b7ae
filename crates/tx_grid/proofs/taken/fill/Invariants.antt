use Rattle.tx_grid.proofs.Bits.{Filled}
use Rattle.tx_grid.proofs.taken.fill.Given as goal

-- the rows before this one are as they shall be, and the others as they were
abbrev pub invariant-loop-row : goal.invariant-loop-row
invariant-loop-row l = Filled l.fn.taken l.taken l.cells l.row
