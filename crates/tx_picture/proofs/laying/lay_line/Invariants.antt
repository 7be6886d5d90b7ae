use Rattle.std.proofs.Common.{◌≡◌, List, drop, replicate}
use Rattle.tx_cell.specs.Cell.{CellValue}
use Rattle.tx_picture.proofs.LayLemmas.{laid_cells, with_row}
use Rattle.tx_picture.proofs.laying.lay_line.Given as goal
use Rattle.tx_picture.specs.Picture.{empty}

-- the row so far, over which laying the cells that are left gives what laying all of them gives
abbrev pub invariant-loop-x : goal.invariant-loop-x
invariant-loop-x l = record {
  row : List CellValue;
  grid : l.grid ≡ with_row l.fn.grid l.y row;
  left : laid_cells l.x (drop l.x l.cells) row ≡ laid_cells 0 l.cells (replicate l.fn.grid.size.width empty);
}
