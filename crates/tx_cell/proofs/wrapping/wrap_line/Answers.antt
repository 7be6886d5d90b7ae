use Rattle.std.proofs.Common.{◌<◌, ◌^◌, arith, rules}
use Rattle.tx_cell.specs.Wrap.{columns, line_heads}
use Rattle.tx_cell.proofs.HeadLemmas.{FitHeads-line, wrapped_line-fit, wrapped_line-whole}
use Rattle.tx_cell.proofs.wrapping.wrap_line.Goals as goal

pub wrap_cells-requires : goal.wrap_cells-requires
wrap_cells-requires c =
    let fit = FitHeads-line c.args.width c.args.pen c.args.line.now (search rules) c.utf8.line in
    let few : columns (line_heads c.args.width c.args.pen c.args.line.now) < 2 ^ 32 = omega (arith, fit.short, c.requires) in
    rw (c.deref.ensures.value, c.in_ok-heads.ensures.heads) (record { own = fit.own; narrow = fit.narrow; short = few })

pub returns-clause-fit : goal.returns-clause-fit
returns-clause-fit c = wrapped_line-fit c.args.width c.args.pen c.args.line.now (search rules) c.utf8.line

pub returns-clause-whole : goal.returns-clause-whole
returns-clause-whole c = wrapped_line-whole c.args.width c.args.pen c.args.line.now (search rules) c.utf8.line

pub returns-in_err-heads-clause-fit : goal.returns-in_err-heads-clause-fit
returns-in_err-heads-clause-fit c = wrapped_line-fit c.args.width c.args.pen c.args.line.now (search rules) c.utf8.line

pub returns-in_err-heads-clause-whole : goal.returns-in_err-heads-clause-whole
returns-in_err-heads-clause-whole c = wrapped_line-whole c.args.width c.args.pen c.args.line.now (search rules) c.utf8.line
