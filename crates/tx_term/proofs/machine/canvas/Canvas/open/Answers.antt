use Rattle.tx_term.proofs.CanvasLemmas.{IsKept-opened}
use Rattle.tx_term.proofs.machine.canvas.Canvas.open.Goals as goal

pub invariant_of-result : goal.invariant_of-result
invariant_of-result c =
    rw (c.in_ok-grid.ensures.grid, c.in_ok-shown.ensures.grid, c.blank.ensures.cell, c.blank-2.ensures.cell, c.new.ensures) (IsKept-opened c.args.size c.requires.height)
