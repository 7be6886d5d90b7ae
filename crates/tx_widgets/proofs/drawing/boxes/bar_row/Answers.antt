use Rattle.std.proofs.Common.{◌-◌, ◌∙◌, arith}
use Rattle.std.proofs.lemmas.List.{length-replicate}
use Rattle.tx_widgets.specs.Drawing.{thick, thin}
use Rattle.tx_widgets.proofs.ResultLemmas.{ok_length}
use Rattle.tx_widgets.proofs.CutLemmas.{length-two}
use Rattle.tx_widgets.proofs.SingleLemmas.{line_cells-thick, line_cells-thin}
use Rattle.tx_widgets.proofs.drawing.boxes.bar_row.Goals as goal

pub copies-requires-clause-single : goal.copies-requires-clause-single
copies-requires-clause-single c = line_cells-thick c.args.pen

pub copies-requires-2-clause-single : goal.copies-requires-2-clause-single
copies-requires-2-clause-single c = line_cells-thin c.args.pen

pub returns-clause-width : goal.returns-clause-width
returns-clause-width c =
    let first = length-replicate c.args.done (thick c.args.pen) in
    let second = length-replicate (c.args.width - c.args.done) (thin c.args.pen) in
    let all = length-two _ _ _ _ c.in_ok-thick.ensures c.in_ok-thin.ensures in
    ok_length c.join_two.result _ _ (all ∙ omega (arith, first, second, c.requires)) c.join_two.ensures
