use Rattle.std.proofs.Common.{◌≡◌, []}
use Rattle.tx_opening.specs.OpeningReading.{first_line, is_unknown}
use Rattle.tx_opening.proofs.judging.first_unknown.Given as goal

-- the line of the first of the rows that are left is that of the first of all
abbrev pub invariant-loop-row : goal.invariant-loop-row
invariant-loop-row l = first_line (is_unknown []) l.line l.row-iterator ≡ first_line (is_unknown []) 1 l.tree.rows
