use Rattle.std.proofs.Common.{◌≡◌, take}
use Rattle.tx_cell.specs.Strip.{IsWellFormed, joined}
use Rattle.tx_cell.proofs.strip.join.Given as goal

abbrev pub invariant-loop-part : goal.invariant-loop-part
invariant-loop-part l = record {
  cells : l.cells.items ≡ joined (take l.part-index l.parts);
  formed : IsWellFormed l.cells.items;
}
