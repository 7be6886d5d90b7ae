use Rattle.std.proofs.Common.{arith, refl, sym, subst, ◌++◌, length-append}
use Rattle.tx_term.proofs.DrawingLemmas.{Draws-then, row_more, row_end, zip-column}
use Rattle.tx_term.specs.Drawing.{DrawsColumn}
use Rattle.tx_term.proofs.update.rows.write_row.Goals as goal

pub loop-column-preserved : goal.loop-column-preserved
loop-column-preserved g c =
    let so_far = c.loop-column.invariant in
    let shown = c.args.shown.now in
    let next = c.args.next.now in
    let column = c.loop-column.column in
    let drawn = c.write_column-behind_plain.ensures c.args.whole _ _ (sym c.counts_as_differing-differs.ensures) in
    let pairs = zip-column shown next _ _ column _ _ c.loop-column-test.true c.requires.same c.index-shown-column.is c.index-next-column.is c.split_at.ensures.back c.split_at-in-loop-column.ensures.back in
    let here = subst (λ p. DrawsColumn (g.K.Sink.seen c.loop-column.sink) (g.K.Sink.seen c.write_column-behind_plain.new.sink) c.loop-column.writer c.write_column-behind_plain.new.writer
    c.args.row column c.args.whole c.loop-column.behind_plain c.write_column-behind_plain.result p) (sym pairs) drawn in
    record {
      marks = so_far.marks ++ here.marks;
      drawn = Draws-then so_far.marks here.marks so_far.drawn here.drawn;
      few = omega (arith, so_far.few, here.few, length-append so_far.marks here.marks);
      rest = row_more _ _ _ _ _ c.args.shown.now c.args.next.now _ _ _ so_far.marks here.marks refl refl so_far.rest here.rest;
    }

pub returns-clause-drawn : goal.returns-clause-drawn
returns-clause-drawn g c =
    let so_far = c.loop-column.invariant in
    rw (row_end _ _ _ _ c.args.shown.now c.args.next.now so_far.marks c.loop-column-test.false so_far.rest) so_far.drawn

pub returns-clause-few : goal.returns-clause-few
returns-clause-few g c =
    let so_far = c.loop-column.invariant in
    rw (row_end _ _ _ _ c.args.shown.now c.args.next.now so_far.marks c.loop-column-test.false so_far.rest) (omega (arith, so_far.few, c.loop-column.auto.column-end, c.requires.width))
