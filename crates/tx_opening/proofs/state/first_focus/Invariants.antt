use Rattle.std.proofs.Common.{◌≡◌}
use Rattle.std.specs.List.{find}
use Rattle.tx_opening.specs.OpeningState.{may_have_focus}
use Rattle.tx_opening.proofs.state.first_focus.Given as goal

-- the first of the rows that are left is the first of all
abbrev pub invariant-loop-row : goal.invariant-loop-row
invariant-loop-row l = find (may_have_focus l.tree.rows) l.row-iterator ≡ find (may_have_focus l.tree.rows) l.tree.rows
