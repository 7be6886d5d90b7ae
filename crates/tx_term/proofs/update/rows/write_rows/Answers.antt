use Rattle.std.proofs.Common.{arith, ◌++◌, length-append, ap, ◌≤◌, length}
use Rattle.tx_geom.specs.declared.places.Size.{Size}
use Rattle.tx_term.proofs.DrawingLemmas.{Draws-then, rows_more, rows_end}
use Rattle.tx_term.specs.Update.{row_marks}
use Rattle.tx_term.proofs.update.rows.write_rows.Goals as goal

pub loop-row-preserved : goal.loop-row-preserved
loop-row-preserved g c =
    let so_far = c.loop-row.invariant in
    let here = row_marks c.args.whole c.loop-row.row c.row.result.now c.row-in-loop-row.result.now in
    record {
      marks = so_far.marks ++ here;
      drawn = Draws-then so_far.marks here so_far.drawn c.write_row.ensures.drawn;
      few = omega (arith, so_far.few, c.write_row.ensures.few, length-append so_far.marks here);
      rest = rows_more _ _ c.args.shown.now.rows c.args.next.now.rows _ _ _ so_far.marks c.row.ensures.cells c.row-in-loop-row.ensures.cells so_far.rest;
    }

pub returns-clause-counted : goal.returns-clause-counted
returns-clause-counted g c =
    let so_far = c.loop-row.invariant in
    omega (arith, so_far.drawn.bounded, so_far.few, c.loop-row.auto.row-end, c.requires.counted, c.requires.height, ap (λ (s : Size). s.height) c.size-row-end.ensures.size)

pub returns-clause-drawn : goal.returns-clause-drawn
returns-clause-drawn g c =
    let so_far = c.loop-row.invariant in
    let past : length c.args.next.now.rows ≤ c.loop-row.row =
    omega (arith, c.size-row-end.ensures.shape.height, ap (λ (s : Size). s.height) c.size-row-end.ensures.size, c.loop-row-test.false) in
    rw (rows_end _ _ c.args.shown.now.rows c.args.next.now.rows so_far.marks past so_far.rest) so_far.drawn
