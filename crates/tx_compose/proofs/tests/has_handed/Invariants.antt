use Rattle.std.proofs.Common.{◌≡◌}
use Rattle.std.specs.List.{list_any}
use Rattle.tx_compose.proofs.tests.has_handed.Given as goal
use Rattle.tx_tree.specs.Kind.{is_handed}

-- whether one of the rows that are left is handed in is whether one of all is
abbrev pub invariant-loop-row : goal.invariant-loop-row
invariant-loop-row l = list_any (λ row. is_handed row.kind) l.row-iterator ≡ list_any (λ row. is_handed row.kind) l.tree.rows
