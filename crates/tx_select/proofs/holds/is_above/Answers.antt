use Rattle.std.proofs.Common.{rules, tests, sym, ap, ◌∙◌}
use Rattle.std.proofs.lemmas.Iterator.Search.{any_from_yields_List}
use Rattle.std.proofs.lemmas.Iterator.Consumers.{YieldsList-from_first}
use Rattle.tx_tree.specs.Row.{plain, has_number}
use Rattle.tx_select.specs.Holds.{is_above}
use Rattle.tx_select.proofs.holds.is_above.Goals as goal

pub returns-in-Some : goal.returns-in-Some
unfolding is_above
returns-in-Some c =
    any_from_yields_List (has_number c.args.row.0) _ _ _ c.any.ensures.ran (YieldsList-from_first (λ row. plain row.now) (λ rows. rows) _ c.ancestors.ensures) (λ x b q k. search (rules, tests))
    ∙ sym (ap (λ node. is_above node c.args.tree.now.rows c.args.row.0) c.in-Some.is)
