use Rattle.std.proofs.Common.{◌≡◌, max}
use Rattle.tx_cell.specs.Lines.{lines_left, text_lines, widest}
use Rattle.tx_cell.specs.declared.pen.Pen.{Pen}
use Rattle.tx_cell.proofs.columns.measure.Given as goal

abbrev pub invariant-loop-line : goal.invariant-loop-line
invariant-loop-line l = (pen : Pen) → max l.widest (widest (lines_left l.line-iterator) pen) ≡ widest (text_lines l.text) pen
