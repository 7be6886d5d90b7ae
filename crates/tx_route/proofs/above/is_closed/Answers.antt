use Rattle.std.proofs.Common.{sym, ap, ◌∙◌}
use Rattle.std.specs.Prelude.{option_map}
use Rattle.tx_tree.specs.Row.{plain}
use Rattle.tx_route.proofs.Climbs.{closed-at}
use Rattle.tx_route.proofs.above.is_closed.Goals as goal

pub returns : goal.returns
returns c =
    closed-at c.args.tree.now.rows c.args.node c.in-Some.there (plain c.in-Some-row.row.now) c.in-Some.is
    (sym c.row.ensures ∙ ap (option_map (λ row. plain row.now)) c.in-Some-row.is) c.is_enabled.result c.is_enabled.ensures
