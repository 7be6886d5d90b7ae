use Rattle.std.proofs.Common.{◌≡◌, ◌≤◌, ◌*◌, List, ◌++◌, length, drop}
use Rattle.tx_term.specs.Drawing.{Draws}
use Rattle.tx_term.specs.Update.{Mark, rows_marks}
use Rattle.tx_term.proofs.update.rows.write_rows.Given as goal

-- What was written, and then the marks of the rows below, are the marks of all rows.
abbrev pub invariant-loop-row : goal.invariant-loop-row
invariant-loop-row g l = record {
  marks : List Mark;
  drawn : Draws (g.K.Sink.seen l.fn.sink) (g.K.Sink.seen l.sink) l.fn.writer l.writer marks;
  few : length marks ≤ 131070 * l.row;
  rest : rows_marks l.whole 0 l.shown.rows l.next.rows ≡ marks ++ rows_marks l.whole l.row (drop l.row l.shown.rows) (drop l.row l.next.rows);
}
