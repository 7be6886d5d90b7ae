use Rattle.std.proofs.Common.{ap, ◌∙◌}
use Rattle.tx_cell.specs.Grid.{GridValue, with_row_of}
use Rattle.tx_term.proofs.CanvasLemmas.{drawn-back}
use Rattle.tx_term.proofs.machine.canvas.take_back.Goals as goal

pub returns-then-is_some : goal.returns-then-is_some
returns-then-is_some c =
    c.take_row.ensures.grid
    ∙ ap (λ (g : GridValue). with_row_of g c.args.before.now c.args.row) c.requires.drawn
    ∙ drawn-back c.args.before.now c.args.column c.args.row c.args.cell
