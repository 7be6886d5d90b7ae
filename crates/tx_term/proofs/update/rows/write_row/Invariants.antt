use Rattle.std.proofs.Common.{◌≡◌, ◌≤◌, ◌*◌, List, ◌++◌, length, drop, zip, false}
use Rattle.tx_term.specs.Drawing.{Draws, rest_marks}
use Rattle.tx_term.specs.Update.{Mark, units}
use Rattle.tx_term.proofs.update.rows.write_row.Given as goal

-- What was written, and then the marks of the rest, are the marks of the row.
abbrev pub invariant-loop-column : goal.invariant-loop-column
invariant-loop-column g l = record {
  marks : List Mark;
  drawn : Draws (g.K.Sink.seen l.fn.sink) (g.K.Sink.seen l.sink) l.fn.writer l.writer marks;
  few : length marks ≤ 2 * l.column;
  rest : rest_marks l.row false (units l.whole 0 (zip l.shown l.next)) ≡ marks ++ rest_marks l.row l.behind_plain (units l.whole l.column (drop l.column (zip l.shown l.next)));
}
