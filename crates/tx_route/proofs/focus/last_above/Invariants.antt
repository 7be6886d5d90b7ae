use Rattle.std.proofs.Common.{◌≡◌, length}
use Rattle.std.specs.Prelude.{filter}
use Rattle.tx_select.specs.Match.{last_row}
use Rattle.tx_tree.specs.Rows.{before_of}
use Rattle.tx_route.specs.Focus.{takes_focus}
use Rattle.tx_route.proofs.focus.last_above.Given as goal

-- the last of the rows before the node that is looked at is the last of those before the first one
abbrev pub invariant-loop-parent : goal.invariant-loop-parent
invariant-loop-parent g l =
    last_row (filter (takes_focus (g.S.Sight.frame l.sight) l.tree.rows) (before_of l.here.0 l.tree.rows))
    ≡ last_row (filter (takes_focus (g.S.Sight.frame l.sight) l.tree.rows) (before_of l.fn.node.0 l.tree.rows))

abbrev pub decreases-loop-parent : goal.decreases-loop-parent
decreases-loop-parent g l = length (before_of l.here.0 l.tree.rows)
