use Rattle.std.proofs.Common.{◌≡◌, take}
use Rattle.std.specs.List.{flat_map}
use Rattle.tx_cell.specs.Strip.{IsWellFormed, with_tail}
use Rattle.tx_cell.proofs.strip.strip_of.Given as goal

abbrev pub invariant-loop-cell : goal.invariant-loop-cell
invariant-loop-cell l = record {
  cells : l.cells.items ≡ flat_map with_tail (take l.cell-index l.heads);
  formed : IsWellFormed l.cells.items;
}
