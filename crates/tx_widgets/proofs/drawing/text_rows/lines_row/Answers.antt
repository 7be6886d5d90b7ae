use Rattle.tx_widgets.proofs.ResultLemmas.{ok_same}
use Rattle.tx_widgets.proofs.RowLemmas.{lines_row-some}
use Rattle.tx_widgets.proofs.drawing.text_rows.lines_row.Goals as goal

pub returns-in-Some-clause-row : goal.returns-in-Some-clause-row
returns-in-Some-clause-row c =
    ok_same c.placed.result _ _
    (lines_row-some c.args.face.now c.args.lines.now c.args.y c.top_row-top.result c.start_column-start.result c.args.widest c.len.result _ c.top_row-top.ensures c.if-y-top.false c.in-Some.ensures c.start_column-start.ensures.column c.requires.widest c.len.ensures.len)
    c.placed.ensures.row
