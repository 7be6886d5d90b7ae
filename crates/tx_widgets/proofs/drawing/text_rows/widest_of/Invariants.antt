use Rattle.std.proofs.Common.{◌≡◌, drop, max}
use Rattle.tx_widgets.specs.TextRows.{widest_of}
use Rattle.tx_widgets.proofs.drawing.text_rows.widest_of.Given as goal

abbrev pub invariant-loop-line : goal.invariant-loop-line
invariant-loop-line l = max l.widest (widest_of (drop l.line-index l.lines)) ≡ widest_of l.lines
