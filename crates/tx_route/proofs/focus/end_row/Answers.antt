use Rattle.std.proofs.Common.{None, sym, ap, ◌∙◌}
use Rattle.tx_route.specs.Focus.{takes_focus, focus_order, step_along}
use Rattle.tx_route.proofs.Steps.{from-root, to-end}
use Rattle.tx_route.proofs.focus.end_row.Goals as goal

pub returns-then-back : goal.returns-then-back
returns-then-back g c =
    let rows = c.args.tree.now.rows in
    let frame = g.S.Sight.frame c.args.sight.now in
    c.last_between.ensures
    ∙ (to-end (takes_focus frame rows) rows c.root-root.result c.root-root.ensures.first ∙ sym (ap (λ back. step_along back (focus_order frame rows) None) c.if-back.true))

pub returns-else-back : goal.returns-else-back
returns-else-back g c =
    let rows = c.args.tree.now.rows in
    let frame = g.S.Sight.frame c.args.sight.now in
    c.first_from.ensures
    ∙ (from-root (takes_focus frame rows) rows c.root-root.result c.root-root.ensures.first ∙ sym (ap (λ back. step_along back (focus_order frame rows) None) c.if-back.false))
