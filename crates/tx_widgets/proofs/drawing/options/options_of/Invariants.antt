use Rattle.std.proofs.Common.{◌≡◌, ◌++◌, map}
use Rattle.tx_cell.specs.Lines.{lines_left, text_lines}
use Rattle.tx_widgets.proofs.drawing.options.options_of.Given as goal

abbrev pub invariant-loop-line : goal.invariant-loop-line
invariant-loop-line l = map (λ line. line.now) l.options.items ++ lines_left l.line-iterator ≡ text_lines l.text
