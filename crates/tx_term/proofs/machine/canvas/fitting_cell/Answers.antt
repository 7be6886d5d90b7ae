use Rattle.std.proofs.Common.{◌≡◌, subst, arith}
use Rattle.tx_term.specs.Canvas.{IsPutAt}
use Rattle.tx_term.proofs.machine.canvas.fitting_cell.Goals as goal

pub returns-then-column-width-clause-inside : goal.returns-then-column-width-clause-inside
returns-then-column-width-clause-inside c = λ grid wide x same.
    let cell : c.in_ok-cell.cell ≡ x = cc in
    let made = c.in_ok-cell.ensures.made in
    subst (IsPutAt grid c.args.column) cell (record { head = made.head; some = made.some; few = made.few; inside = omega (arith, c.if-column-width.true, c.width.ensures.width, wide) })
