use Rattle.std.proofs.Common.{None, option_map, sym, ap, ◌∙◌}
use Rattle.std.specs.List.{find}
use Rattle.tx_tree.specs.Row.{plain}
use Rattle.tx_route.specs.Focus.{takes_focus}
use Rattle.tx_route.proofs.Steps.{nowhere}
use Rattle.tx_route.proofs.focus.first_from.Goals as goal

pub returns-in_default-row : goal.returns-in_default-row
returns-in_default-row g c =
    let rows = c.args.tree.now.rows in
    let test = takes_focus (g.S.Sight.frame c.args.sight.now) rows in
    let none = nowhere rows c.in-Some.node c.loop-here.here None c.in-Some.is (sym c.row.ensures ∙ ap (option_map (λ row. plain row.now)) c.in_default-row.is) in
    ap (λ rs. option_map (λ row. row.node) (find test rs)) (sym none) ∙ ap (option_map (λ row. row.node)) c.loop-here.invariant.1
