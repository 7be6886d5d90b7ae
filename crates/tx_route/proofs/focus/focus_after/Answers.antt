use Rattle.std.proofs.Common.{◌≡◌, ◌↔◌, [], true, None, subst, sym}
use Rattle.std.specs.Prelude.{IfSome}
use Rattle.tx_route.specs.Focus.{focus_order, is_in_order, takes_focus}
use Rattle.tx_route.proofs.Steps.{step-none, step-in}
use Rattle.tx_route.proofs.focus.focus_after.Goals as goal

pub returns-clause-none : goal.returns-clause-none
returns-clause-none g c =
    let order = focus_order (g.S.Sight.frame c.args.sight.now) c.args.tree.now.rows in
    subst (λ o. o ≡ None ↔ order ≡ []) (sym c.step_from.ensures) (step-none c.args.back c.args.pseudo.now.focused order)

pub returns-clause-in_order : goal.returns-clause-in_order
unfolding is_in_order
returns-clause-in_order g c =
    let rows = c.args.tree.now.rows in
    let frame = g.S.Sight.frame c.args.sight.now in
    subst (λ o. IfSome o (λ node. is_in_order frame rows node.0 ≡ true)) (sym c.step_from.ensures)
    (step-in (takes_focus frame rows) c.args.back rows c.root-root.ensures.known.once c.args.pseudo.now.focused)
