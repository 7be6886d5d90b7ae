use Rattle.std.proofs.Common.{◌≡◌}
use Rattle.tx_tree.specs.Rows.{ancestors_of}
use Rattle.tx_select.specs.Holds.{compound_holds}
use Rattle.tx_select.specs.Climb.{is_placed}
use Rattle.tx_select.proofs.climb.climbs_on.Given as goal

-- what is found above from here on is what is found in all
abbrev pub invariant-loop-row : goal.invariant-loop-row
invariant-loop-row l =
    is_placed (compound_holds l.state l.tree.rows) l.compounds l.opens l.row-iterator ≡ is_placed (compound_holds l.state l.tree.rows) l.compounds l.fn.opens (ancestors_of l.fn.node.0 l.tree.rows)
