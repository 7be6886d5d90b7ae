use Rattle.tx_grid.proofs.Open.{joined_none, joined_more, first_in_row, next_row}
use Rattle.tx_grid.proofs.search.first_in_row.Goals as goal

pub loop-end-init : goal.loop-end-init
loop-end-init c = joined_none c.args.columns c.args.taken.now c.args.span c.args.row c.requires.width

pub loop-end-preserved : goal.loop-end-preserved
loop-end-preserved c =
    joined_more c.args.columns c.args.taken.now c.args.span c.args.row c.loop-end.end c.loop-end.joined c.loop-end.column c.row_at-joined.result c.in-Some.next
    c.row_at-joined.ensures c.loop-end-test.true c.loop-end.invariant c.in-Some.ensures

pub returns-in-None : goal.returns-in-None
returns-in-None c =
    next_row c.args.columns c.args.taken.now c.args.span c.args.row c.loop-end.end c.loop-end.joined c.loop-end.column c.row_at-joined.result
    c.row_at-joined.ensures c.loop-end-test.true c.loop-end.invariant c.in-None.ensures

pub returns : goal.returns
returns c = first_in_row c.args.columns c.args.taken.now c.args.span c.args.row c.loop-end.end c.loop-end.joined c.loop-end.column c.loop-end-test.false c.loop-end.invariant
