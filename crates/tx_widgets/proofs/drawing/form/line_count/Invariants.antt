use Rattle.std.proofs.Common.{◌≡◌, ◌+◌, length}
use Rattle.tx_cell.specs.Lines.{lines_left, text_lines}
use Rattle.tx_widgets.proofs.drawing.form.line_count.Given as goal

abbrev pub invariant-counting : goal.invariant-counting
invariant-counting l = l.count + length (lines_left l._line-iterator) ≡ length (text_lines l.text)
