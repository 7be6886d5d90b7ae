use Rattle.std.proofs.Common.{option_map, sym, ap, ◌∙◌}
use Rattle.std.specs.Prelude.{filter}
use Rattle.std.specs.Option.{option_or}
use Rattle.tx_tree.specs.Rows.{first_row}
use Rattle.tx_route.specs.Focus.{is_in_order, takes_focus}
use Rattle.tx_route.proofs.Steps.{next-step, from-root}
use Rattle.tx_route.proofs.focus.next_row.Goals as goal

pub returns-in-Some : goal.returns-in-Some
unfolding is_in_order
returns-in-Some g c =
    let rows = c.args.tree.now.rows in
    let test = takes_focus (g.S.Sight.frame c.args.sight.now) rows in
    ap (λ behind. option_or behind (option_map (λ row. row.node) (first_row (filter test rows)))) (sym c.in-Some.is)
    ∙ sym (next-step test c.walk.ensures rows c.root-root.ensures.known.once c.args.node c.requires c.next.result c.first_from.result c.next.ensures c.first_from.ensures)

pub returns-in-None : goal.returns-in-None
unfolding is_in_order
returns-in-None g c =
    let rows = c.args.tree.now.rows in
    let test = takes_focus (g.S.Sight.frame c.args.sight.now) rows in
    c.first_from-in-None.ensures
    ∙ (from-root test rows c.root-root.result c.root-root.ensures.first
    ∙ (ap (λ behind. option_or behind (option_map (λ row. row.node) (first_row (filter test rows)))) (sym c.in-None.is)
    ∙ sym (next-step test c.walk.ensures rows c.root-root.ensures.known.once c.args.node c.requires c.next.result c.first_from.result c.next.ensures c.first_from.ensures)))
