use Rattle.std.proofs.Common.{subst, sym, ◌∙◌, true≢false, arith}
use Rattle.tx_grid.specs.Taken.{IsFirstOpen}
use Rattle.tx_grid.proofs.Open.{closed_to, first_there, first_past, nowhere}
use Rattle.tx_grid.proofs.search.first_open.Goals as goal

pub returns-then-not-is_inside : goal.returns-then-not-is_inside
returns-then-not-is_inside c =
    nowhere c.args.columns c.args.rows c.args.taken.now c.args.span c.loop-row.row (λ h. true≢false (sym (c.is_inside.ensures.1 h) ∙ c.if-not-is_inside.true)) c.loop-row.invariant.closed

pub returns-in-Ok : goal.returns-in-Ok
returns-in-Ok c =
    subst (IsFirstOpen c.args.columns c.args.rows c.args.taken.now c.args.span) (sym c.cells_of.ensures)
    (first_there c.args.columns c.args.rows c.args.taken.now c.args.span c.loop-row.row c.in-Ok.column (c.is_inside.ensures.0 c.if-not-is_inside.false) c.loop-row.invariant.closed c.in-Ok.ensures)

pub loop-row-preserved : goal.loop-row-preserved
loop-row-preserved c = record {
  closed = closed_to c.args.columns c.args.rows c.args.taken.now c.args.span c.loop-row.row c.in-Err.next c.loop-row.invariant.closed c.in-Err.ensures;
  near = omega (arith, c.in-Err.ensures.near, c.requires.span.rows.most, c.requires.taken, c.loop-row-test.true);
}

pub returns-then-is_inside : goal.returns-then-is_inside
returns-then-is_inside c =
    subst (IsFirstOpen c.args.columns c.args.rows c.args.taken.now c.args.span) (sym c.cells_of-then-is_inside.ensures)
    (first_past c.args.columns c.args.rows c.args.taken.now c.args.span c.loop-row.row c.loop-row-test.false c.requires.width (c.is_inside-2.ensures.0 c.if-is_inside.true) c.loop-row.invariant.closed)

pub returns-else-is_inside : goal.returns-else-is_inside
returns-else-is_inside c =
    nowhere c.args.columns c.args.rows c.args.taken.now c.args.span c.loop-row.row (λ h. true≢false (sym (c.is_inside-2.ensures.1 h) ∙ c.if-is_inside.false)) c.loop-row.invariant.closed
