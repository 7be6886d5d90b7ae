use Rattle.std.proofs.Common.{option_map, sym, ap, ◌∙◌}
use Rattle.tx_route.specs.Focus.{takes_focus, is_in_order}
use Rattle.tx_route.proofs.Ahead.{ahead-taken, ahead-left}
use Rattle.tx_route.proofs.focus.last_before.Goals as goal

pub returns-then-is_in_order : goal.returns-then-is_in_order
unfolding is_in_order
returns-then-is_in_order g c =
    let rows = c.args.tree.now.rows in
    let test = takes_focus (g.S.Sight.frame c.args.sight.now) rows in
    ahead-taken test rows c.root-root.ensures.known.once c.in-Some.ahead c.loop-ahead.here.0 c.in-Some.ensures.ahead (sym c.is_in_order.ensures.told ∙ c.if-is_in_order.true)
    ∙ ap (option_map (λ row. row.node)) c.loop-ahead.invariant.1

pub loop-ahead-preserved : goal.loop-ahead-preserved
unfolding is_in_order
loop-ahead-preserved g c =
    let rows = c.args.tree.now.rows in
    let test = takes_focus (g.S.Sight.frame c.args.sight.now) rows in (
      c.is_in_order.ensures.known,
      ahead-left test rows c.root-root.ensures.known.once c.in-Some.ahead c.loop-ahead.here.0 c.in-Some.ensures.ahead (sym c.is_in_order.ensures.told ∙ c.if-is_in_order.false)
          ∙ c.loop-ahead.invariant.1,
    )
