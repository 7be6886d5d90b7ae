use Rattle.std.proofs.Common.{option_map, sym, ap, ◌∙◌}
use Rattle.std.specs.Prelude.{filter}
use Rattle.std.specs.Option.{option_or}
use Rattle.tx_select.specs.Match.{last_row}
use Rattle.tx_route.specs.Focus.{is_in_order, takes_focus}
use Rattle.tx_route.proofs.Steps.{previous-step, last-from}
use Rattle.tx_route.proofs.focus.previous_row.Goals as goal

pub returns-in-Some : goal.returns-in-Some
unfolding is_in_order
returns-in-Some g c =
    let rows = c.args.tree.now.rows in
    let test = takes_focus (g.S.Sight.frame c.args.sight.now) rows in
    ap (λ before. option_or before (option_map (λ row. row.node) (last_row (filter test rows)))) (sym c.in-Some.is)
    ∙ sym (previous-step test rows c.args.node c.requires c.last_before.result c.last_before.ensures)

pub returns-in-None : goal.returns-in-None
unfolding is_in_order
returns-in-None g c =
    let rows = c.args.tree.now.rows in
    let test = takes_focus (g.S.Sight.frame c.args.sight.now) rows in
    c.last_between.ensures
    ∙ (last-from test rows c.args.node (sym c.in-None.is ∙ c.last_before.ensures)
    ∙ (ap (λ before. option_or before (option_map (λ row. row.node) (last_row (filter test rows)))) (sym c.in-None.is)
    ∙ sym (previous-step test rows c.args.node c.requires c.last_before.result c.last_before.ensures)))
