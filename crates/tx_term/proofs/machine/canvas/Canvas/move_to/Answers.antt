use Rattle.std.proofs.Common.{arith, ap}
use Rattle.tx_geom.specs.declared.places.Size.{Size}
use Rattle.tx_term.proofs.CanvasLemmas.{IsKept-at}
use Rattle.tx_term.proofs.machine.canvas.Canvas.move_to.Goals as goal

pub invariant_of-self : goal.invariant_of-self
invariant_of-self c =
    let nothing = rw (← c.self.view_is) at c.requires.nothing_held in
    let height = ap (λ (s : Size). s.height) c.size-size.ensures.size in
    let width = ap (λ (s : Size). s.width) c.size-size.ensures.size in
    let kept = c.self.invariant in
    IsKept-at _ _ _ _ nothing
    (omega (arith, kept.inside.row, height, c.saturating_sub-self-inside.ensures, c.min.ensures))
    (omega (arith, width, c.saturating_sub-self-inside-2.ensures, c.min-2.ensures))
    kept
