use Rattle.std.proofs.Common.{◌≡◌}
use Rattle.std.specs.List.{list_any}
use Rattle.tx_compose.specs.ScrollsKept.{is_out}
use Rattle.tx_compose.proofs.tests.has_out.Given as goal

-- the same of the rows that are left as of all
abbrev pub invariant-loop-row : goal.invariant-loop-row
invariant-loop-row l = list_any (is_out l.screen.accepted l.scrolls) l.row-iterator ≡ list_any (is_out l.screen.accepted l.scrolls) l.tree.rows
