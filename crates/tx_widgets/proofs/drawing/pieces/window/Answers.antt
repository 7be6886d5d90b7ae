use Rattle.std.proofs.Common.{◌∙◌, ap, length}
use Rattle.tx_widgets.proofs.CutLemmas.{length-window, window-made}
use Rattle.tx_widgets.proofs.ResultLemmas.{ok_same, ok_length}
use Rattle.tx_widgets.proofs.drawing.pieces.window.Goals as goal

pub returns-clause-cells : goal.returns-clause-cells
returns-clause-cells c =
    ok_same c.join_two.result _ _
    (window-made c.args.from c.args.width c.args.pen c.args.strip.now c.len.result c.min.result c.saturating_sub.result _ _ c.requires.inside c.len.ensures.len c.min.ensures c.saturating_sub.ensures c.in_ok-part.ensures.cells c.in_ok-behind.ensures)
    c.join_two.ensures

pub returns-clause-width : goal.returns-clause-width
returns-clause-width c =
    ok_length c.join_two.result _ _
    (ap length (window-made c.args.from c.args.width c.args.pen c.args.strip.now c.len.result c.min.result c.saturating_sub.result _ _ c.requires.inside c.len.ensures.len c.min.ensures c.saturating_sub.ensures c.in_ok-part.ensures.cells c.in_ok-behind.ensures)
    ∙ length-window c.args.from c.args.width c.args.pen c.args.strip.now)
    c.join_two.ensures
