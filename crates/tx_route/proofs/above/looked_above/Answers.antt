use Rattle.std.proofs.Common.{sym, ap, ◌∙◌}
use Rattle.tx_route.specs.Focus.{is_closed}
use Rattle.tx_route.proofs.Climbs.{closed-above, same-node}
use Rattle.tx_route.proofs.above.looked_above.Goals as goal

pub returns-then-eq-clause-told : goal.returns-then-eq-clause-told
returns-then-eq-clause-told c =
    let rows = c.args.tree.now.rows in
    c.requires
    ∙ (ap (is_closed rows) (sym (same-node c.parent-parent.result c.args.above.parent (sym c.eq.ensures ∙ c.if-eq.true)))
    ∙ closed-above rows c.root-root.ensures.known.once c.args.node.0 c.parent-parent.result c.parent-parent.ensures)

pub returns-clause-told : goal.returns-clause-told
returns-clause-told c =
    c.is_closed.ensures ∙ closed-above c.args.tree.now.rows c.root-root.ensures.known.once c.args.node.0 c.parent-parent.result c.parent-parent.ensures
