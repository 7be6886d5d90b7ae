use Rattle.tx_term.proofs.CanvasLemmas.{IsKept-erased}
use Rattle.tx_term.proofs.machine.canvas.Canvas.erase.Goals as goal

pub invariant_of-self : goal.invariant_of-self
invariant_of-self c =
    let nothing = rw (← c.self.view_is) at c.requires.nothing_held in
    rw (c.fill.ensures.grid, c.fill-2.ensures.grid, c.blank-blank.ensures.cell) (IsKept-erased _ _ nothing c.self.invariant)
