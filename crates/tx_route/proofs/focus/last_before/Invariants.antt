use Rattle.std.proofs.Common.{◌≡◌}
use Rattle.std.specs.Prelude.{filter}
use Rattle.tx_select.specs.Match.{last_row}
use Rattle.tx_tree.specs.Rows.{before_of}
use Rattle.tx_route.specs.Focus.{takes_focus, is_closed}
use Rattle.tx_route.proofs.focus.last_before.Given as goal

-- what is known of the rows above is so, and the last of the rows before the node that is looked at is the last of those before the first one
abbrev pub invariant-loop-ahead : goal.invariant-loop-ahead
invariant-loop-ahead g l =
    (l.above.disabled ≡ is_closed l.tree.rows l.above.parent)
    × (last_row (filter (takes_focus (g.S.Sight.frame l.sight) l.tree.rows) (before_of l.here.0 l.tree.rows))
    ≡ last_row (filter (takes_focus (g.S.Sight.frame l.sight) l.tree.rows) (before_of l.fn.node.0 l.tree.rows)))

abbrev pub decreases-loop-ahead : goal.decreases-loop-ahead
decreases-loop-ahead g l = l.here.0
