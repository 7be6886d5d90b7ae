use Rattle.std.proofs.Common.{ap, sym, ◌∙◌}
use Rattle.tx_geom.specs.declared.places.Size.{Size}
use Rattle.tx_cell.specs.Grid.{GridValue}
use Rattle.tx_term.proofs.machine.canvas.Canvas.join.Goals as goal

pub draw-requires-clause-cell : goal.draw-requires-clause-cell
draw-requires-clause-cell c =
    c.fitting_cell-cell.ensures.inside c.take_back.new.grid (ap (λ (g : GridValue). g.size.width) c.take_back.ensures ∙ ap (λ (s : Size). s.width) (sym c.size-width.ensures.size))
