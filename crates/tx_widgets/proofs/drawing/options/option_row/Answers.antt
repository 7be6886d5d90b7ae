use Rattle.std.proofs.Common.{◌^◌}
use Rattle.tx_widgets.proofs.LineLemmas.{short-at}
use Rattle.tx_widgets.proofs.ResultLemmas.{ok_same}
use Rattle.tx_widgets.proofs.RowLemmas.{option_row-none, option_row-some}
use Rattle.tx_widgets.proofs.drawing.options.option_row.Goals as goal

pub option_cells-requires : goal.option_cells-requires
option_cells-requires c = record { short = short-at (2 ^ 32) _ c.args.number _ c.requires.short c.in-Some.ensures }

pub returns-in-None-clause-row : goal.returns-in-None-clause-row
returns-in-None-clause-row c = ok_same c.blanks.result _ _ (option_row-none c.args.chosen c.args.width c.args.pen _ c.args.number c.in-None.ensures) c.blanks.ensures

pub returns-in-Some-clause-row : goal.returns-in-Some-clause-row
returns-in-Some-clause-row c =
    ok_same c.option_cells.result _ _ (option_row-some c.args.chosen c.args.width c.args.pen c.option_pen-pen.result _ c.args.number _ c.in-Some.ensures c.option_pen-pen.ensures) c.option_cells.ensures.row
