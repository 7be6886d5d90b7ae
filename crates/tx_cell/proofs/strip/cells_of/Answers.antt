use Rattle.std.proofs.Common.{arith, rules, ◌≡◌, ◌<◌, ◌^◌, length, ◌∙◌}
use Rattle.tx_cell.specs.Strip.{line_cells}
use Rattle.tx_cell.proofs.AloneLemmas.{cell_of-graphemes}
use Rattle.tx_cell.proofs.PrintableLemmas.{line_cells-printable}
use Rattle.tx_cell.proofs.StripLemmas.{FitColumns-line}
use Rattle.tx_cell.proofs.strip.cells_of.Goals as goal
use Rattle.tx_cell.proofs.strip.cells_of.Goals.{In-None}

all_cells : (c : In-None) → c.loop-cluster.cells.items ≡ line_cells c.args.line.now c.args.pen
unfolding line_cells
all_cells c = search rules

pub invariant_of-result : goal.invariant_of-result
invariant_of-result c =
    let fit = FitColumns-line c.args.line.now c.args.pen (search rules) c.utf8.line in
    let small : length (line_cells c.args.line.now c.args.pen) < 2 ^ 32 = omega (arith, fit.short, c.requires) in
    rw (all_cells c) (record { formed = fit.formed; short = small })

pub returns-clause-printable : goal.returns-clause-printable
returns-clause-printable c = λ all. all_cells c ∙ line_cells-printable c.args.line.now c.args.pen all

pub returns-clause-clusters : goal.returns-clause-clusters
returns-clause-clusters c = cell_of-graphemes c.args.line.now c.args.pen c.utf8.line

pub returns-in_err-push_whole-clause-clusters : goal.returns-in_err-push_whole-clause-clusters
returns-in_err-push_whole-clause-clusters c = cell_of-graphemes c.args.line.now c.args.pen c.utf8.line
