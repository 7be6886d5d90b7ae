use Rattle.std.proofs.Common.{◌<◌, ◌^◌, length, ap, subst, sym, ◌∙◌, lit<}
use Rattle.tx_cell.specs.Lines.{text_lines}
use Rattle.tx_cell.specs.Strip.{line_cells}
use Rattle.tx_widgets.proofs.LineLemmas.{first-short, text_lines-short}
use Rattle.tx_widgets.proofs.ResultLemmas.{ok_same, ok_length}
use Rattle.tx_widgets.proofs.RowLemmas.{box-made, length-box_row}
use Rattle.tx_widgets.proofs.drawing.boxes.box_row.Goals as goal

pub cells_of-requires-2 : goal.cells_of-requires-2
cells_of-requires-2 c = record {
  short = subst (λ line. length line < 2 ^ 32) (sym c.first_line.ensures)
      (first-short (2 ^ 32) (text_lines c.args.text.now) (lit< tt) (text_lines-short (2 ^ 32) c.args.text.now c.requires.short));
}

pub returns-clause-row : goal.returns-clause-row
returns-clause-row c =
    ok_same c.join_two.result _ _
    (box-made c.args.on c.args.width c.args.pen c.args.text.now c.in_ok-mark.mark c.in_ok-line.line c.in_ok-shown.shown c.in_ok-behind.behind c.min.result c.saturating_sub.result
    (c.in_ok-mark.ensures.cells ∙ ap (λ line. line_cells line c.args.pen) c.box_text.ensures)
    (c.in_ok-line.ensures.cells ∙ ap (λ line. line_cells line c.args.pen) c.first_line.ensures)
    c.min.ensures c.saturating_sub.ensures c.in_ok-shown.ensures.cells c.in_ok-behind.ensures.cells)
    c.join_two.ensures

pub returns-clause-width : goal.returns-clause-width
returns-clause-width c =
    ok_length c.join_two.result _ _
    (ap length (box-made c.args.on c.args.width c.args.pen c.args.text.now c.in_ok-mark.mark c.in_ok-line.line c.in_ok-shown.shown c.in_ok-behind.behind c.min.result c.saturating_sub.result
    (c.in_ok-mark.ensures.cells ∙ ap (λ line. line_cells line c.args.pen) c.box_text.ensures)
    (c.in_ok-line.ensures.cells ∙ ap (λ line. line_cells line c.args.pen) c.first_line.ensures)
    c.min.ensures c.saturating_sub.ensures c.in_ok-shown.ensures.cells c.in_ok-behind.ensures.cells)
    ∙ length-box_row c.args.on c.args.width c.args.pen c.args.text.now)
    c.join_two.ensures
