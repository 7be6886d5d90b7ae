use Rattle.std.proofs.Common.{◌≡◌}
use Rattle.std.specs.List.{list_any}
use Rattle.tx_tree.specs.Rows.{ancestors_of}
use Rattle.tx_route.proofs.enabled.is_enabled.Given as goal

-- whether one of the rows that are left is disabled is whether one of all is
abbrev pub invariant-loop-above : goal.invariant-loop-above
invariant-loop-above l =
    list_any (λ above. above.disabled) l.above-iterator
    ≡ list_any (λ above. above.disabled) (ancestors_of l.row.node.0 l.tree.rows)
