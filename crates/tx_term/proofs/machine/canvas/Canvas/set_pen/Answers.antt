use Rattle.tx_term.proofs.CanvasLemmas.{IsKept-pen}
use Rattle.tx_term.proofs.machine.canvas.Canvas.set_pen.Goals as goal

pub invariant_of-self : goal.invariant_of-self
invariant_of-self c =
    let nothing = rw (← c.self.view_is) at c.requires.nothing_held in
    IsKept-pen _ _ c.args.pen nothing c.self.invariant
