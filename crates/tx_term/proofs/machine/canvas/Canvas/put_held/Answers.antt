use Rattle.std.proofs.Common.{ap, sym}
use Rattle.tx_geom.specs.declared.places.Size.{Size}
use Rattle.tx_term.specs.Canvas.{put_held}
use Rattle.tx_term.proofs.CanvasLemmas.{IsKept-put}
use Rattle.tx_term.proofs.machine.canvas.Canvas.put_held.Goals as goal

pub draw-requires-clause-cell : goal.draw-requires-clause-cell
draw-requires-clause-cell c = c.fitting_cell-cell.ensures.inside c.self.inside.grid (ap (λ (s : Size). s.width) (sym c.size-width.ensures.size))

pub invariant_of-self : goal.invariant_of-self
unfolding put_held
invariant_of-self c =
    rw (c.draw.ensures.drawn, c.draw.ensures.columns, c.clear.ensures, c.fitting_cell-cell.ensures.cell, c.as_str.ensures.value, c.size-width.ensures.size) (IsKept-put _ _ c.self.invariant)
