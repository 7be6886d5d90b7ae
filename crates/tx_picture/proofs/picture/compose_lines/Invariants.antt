use Rattle.std.proofs.Common.{◌≡◌, ◌*◌, [], get_or}
use Rattle.tx_picture.proofs.PictureLemmas.{done_grid}
use Rattle.tx_picture.proofs.picture.compose_lines.Given as goal
use Rattle.tx_picture.specs.Cells.{cell_by}
use Rattle.tx_picture.specs.Picture.{shown_line}
use Rattle.tx_picture.specs.Ticks.{Composed}

-- the lines so far
abbrev pub invariant-loop-y : goal.invariant-loop-y
invariant-loop-y g l = record {
  grid : l.grid ≡ done_grid l.owners.size (λ y. shown_line (cell_by l.entries l.drawings y) (get_or l.owners.lines y [])) l.y;
  ticks : Composed g.L.Ledger.ticked (l.owners.size.width * l.y) l.fn.steps.ledger l.steps.ledger;
}
