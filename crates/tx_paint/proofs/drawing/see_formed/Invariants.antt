use Rattle.std.proofs.Common.{take}
use Rattle.std.specs.List.{All}
use Rattle.tx_cell.specs.Strip.{IsWellFormed}
use Rattle.tx_paint.proofs.drawing.see_formed.Given as goal

abbrev pub invariant-seeing : goal.invariant-seeing
invariant-seeing l = All IsWellFormed (take l.strip-index l.strips)
