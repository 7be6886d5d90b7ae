use Rattle.std.proofs.Common.{option_map, sym, ap, ◌∙◌}
use Rattle.tx_route.specs.Focus.{takes_focus}
use Rattle.tx_route.proofs.Steps.{parent-before, fewer-above, between-some, between-none}
use Rattle.tx_route.proofs.focus.last_above.Goals as goal

pub returns-then-is_some : goal.returns-then-is_some
returns-then-is_some g c =
    let rows = c.args.tree.now.rows in
    let test = takes_focus (g.S.Sight.frame c.args.sight.now) rows in
    let above = parent-before rows c.loop-parent.here.0 c.in-Some.parent c.parent.result c.in-Some.is c.parent.ensures in
    between-some test c.in-Some.parent.0 c.loop-parent.here.0 rows above c.last_between-last.result c.last_between-last.ensures (sym c.is_some.ensures ∙ c.if-is_some.true)
    ∙ ap (option_map (λ row. row.node)) c.loop-parent.invariant

pub loop-parent-smaller : goal.loop-parent-smaller
loop-parent-smaller g c =
    let rows = c.args.tree.now.rows in
    fewer-above c.in-Some.parent.0 c.loop-parent.here.0 rows (parent-before rows c.loop-parent.here.0 c.in-Some.parent c.parent.result c.in-Some.is c.parent.ensures)

pub loop-parent-preserved : goal.loop-parent-preserved
loop-parent-preserved g c =
    let rows = c.args.tree.now.rows in
    let test = takes_focus (g.S.Sight.frame c.args.sight.now) rows in
    let above = parent-before rows c.loop-parent.here.0 c.in-Some.parent c.parent.result c.in-Some.is c.parent.ensures in
    between-none test c.in-Some.parent.0 c.loop-parent.here.0 rows above c.last_between-last.result c.last_between-last.ensures (sym c.is_some.ensures ∙ c.if-is_some.false)
    ∙ c.loop-parent.invariant
