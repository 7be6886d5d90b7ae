use Rattle.std.proofs.Common.{◌≡◌, map}
use Rattle.std.specs.List.{range_with_len}
use Rattle.tx_picture.proofs.cells.line_of.Given as goal
use Rattle.tx_picture.specs.Cells.{cell_by}
use Rattle.tx_picture.specs.Picture.{shown_cell}
use Rattle.tx_picture.specs.Ticks.{Composed}

-- the cells so far
abbrev pub invariant-loop-x : goal.invariant-loop-x
invariant-loop-x g l = record {
  cells : l.cells.items ≡ map (shown_cell (cell_by l.entries l.drawings l.y) l.owners) (range_with_len 0 l.x);
  ticks : Composed g.L.Ledger.ticked l.x l.fn.steps.ledger l.steps.ledger;
}
