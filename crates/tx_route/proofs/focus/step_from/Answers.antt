use Rattle.std.proofs.Common.{sym, ap, ◌∙◌}
use Rattle.tx_route.specs.Focus.{focus_order, is_in_order, step_along, takes_focus}
use Rattle.tx_route.proofs.Steps.{outside}
use Rattle.tx_route.proofs.focus.step_from.Goals as goal

pub returns-then-not-is_in_order : goal.returns-then-not-is_in_order
unfolding is_in_order
returns-then-not-is_in_order g c =
    let rows = c.args.tree.now.rows in
    let frame = g.S.Sight.frame c.args.sight.now in
    c.end_row-then-not-is_in_order.ensures
    ∙ (sym (outside (takes_focus frame rows) c.args.back rows c.root-root.ensures.known.once c.in-Some.node (sym c.is_in_order.ensures.told ∙ c.if-not-is_in_order.true))
    ∙ sym (ap (step_along c.args.back (focus_order frame rows)) c.in-Some.is))
