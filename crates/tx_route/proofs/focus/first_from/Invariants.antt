use Rattle.std.proofs.Common.{◌≡◌, length}
use Rattle.std.specs.List.{find}
use Rattle.tx_tree.specs.Walk.{rest_from}
use Rattle.tx_route.specs.Focus.{takes_focus, is_closed}
use Rattle.tx_route.proofs.focus.first_from.Given as goal

-- what is known of the rows above is so, and the first of the rows that are left is the first of all
abbrev pub invariant-loop-here : goal.invariant-loop-here
invariant-loop-here g l =
    (l.above.disabled ≡ is_closed l.tree.rows l.above.parent)
    × (find (takes_focus (g.S.Sight.frame l.sight) l.tree.rows) (rest_from l.here l.tree.rows)
    ≡ find (takes_focus (g.S.Sight.frame l.sight) l.tree.rows) (rest_from l.fn.from l.tree.rows))

abbrev pub decreases-loop-here : goal.decreases-loop-here
decreases-loop-here g l = length (rest_from l.here l.tree.rows)
