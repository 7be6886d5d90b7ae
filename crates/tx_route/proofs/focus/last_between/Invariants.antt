use Rattle.std.proofs.Common.{◌≡◌, length, option_map}
use Rattle.std.specs.Prelude.{filter}
use Rattle.std.specs.Option.{option_or}
use Rattle.tx_select.specs.Match.{last_row}
use Rattle.tx_tree.specs.Walk.{rest_between, rest_from}
use Rattle.tx_route.specs.Focus.{takes_focus, is_closed}
use Rattle.tx_route.proofs.focus.last_between.Given as goal

-- what is known of the rows above is so, and the last of the rows that are left, or else the last one so far, is the last of all
abbrev pub invariant-loop-here : goal.invariant-loop-here
invariant-loop-here g l =
    (l.above.disabled ≡ is_closed l.tree.rows l.above.parent)
    × (option_or (option_map (λ row. row.node) (last_row (filter (takes_focus (g.S.Sight.frame l.sight) l.tree.rows) (rest_between l.here l.end l.tree.rows)))) l.last
    ≡ option_map (λ row. row.node) (last_row (filter (takes_focus (g.S.Sight.frame l.sight) l.tree.rows) (rest_between l.fn.from l.end l.tree.rows))))

abbrev pub decreases-loop-here : goal.decreases-loop-here
decreases-loop-here g l = length (rest_from l.here l.tree.rows)
