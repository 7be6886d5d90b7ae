use Rattle.tx_paint.proofs.MadeLemmas.{made-is, made-shape}
use Rattle.tx_paint.proofs.drawing.Drawing.of.Goals as goal

pub invariant_of-result : goal.invariant_of-result
invariant_of-result c = made-shape c.args.dark c.args.style.now c.args.under c.args.kind c.args.text c.args.private c.args.focused c.args.placement c.pen_over-pen.result c.gutter-gutter.result c.less-content.result c.content_align.result c.text_align.result c.edges_of.result c.viewport_of.result c.in_ok-lines.lines.items c.pen_over-pen.ensures.pen c.gutter-gutter.ensures c.less-content.ensures c.content_align.ensures c.text_align.ensures c.edges_of.ensures.edges c.viewport_of.ensures c.in_ok-lines.ensures.lines c.pen_over-pen.ensures.channels c.edges_of.ensures.channels c.in_ok-lines.ensures.width c.in_ok-lines.ensures.formed

pub returns-clause-drawing : goal.returns-clause-drawing
returns-clause-drawing c = made-is c.args.dark c.args.style.now c.args.under c.args.kind c.args.text c.args.private c.args.focused c.args.placement c.pen_over-pen.result c.gutter-gutter.result c.less-content.result c.content_align.result c.text_align.result c.edges_of.result c.viewport_of.result c.in_ok-lines.lines.items c.pen_over-pen.ensures.pen c.gutter-gutter.ensures c.less-content.ensures c.content_align.ensures c.text_align.ensures c.edges_of.ensures.edges c.viewport_of.ensures c.in_ok-lines.ensures.lines

pub returns-clause-shape : goal.returns-clause-shape
returns-clause-shape c = made-shape c.args.dark c.args.style.now c.args.under c.args.kind c.args.text c.args.private c.args.focused c.args.placement c.pen_over-pen.result c.gutter-gutter.result c.less-content.result c.content_align.result c.text_align.result c.edges_of.result c.viewport_of.result c.in_ok-lines.lines.items c.pen_over-pen.ensures.pen c.gutter-gutter.ensures c.less-content.ensures c.content_align.ensures c.text_align.ensures c.edges_of.ensures.edges c.viewport_of.ensures c.in_ok-lines.ensures.lines c.pen_over-pen.ensures.channels c.edges_of.ensures.channels c.in_ok-lines.ensures.width c.in_ok-lines.ensures.formed
