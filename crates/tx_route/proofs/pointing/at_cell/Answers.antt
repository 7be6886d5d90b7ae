use Rattle.std.proofs.Common.{Some, sym, ap, ◌∙◌}
use Rattle.std.specs.Prelude.{option_map}
use Rattle.tx_tree.specs.Row.{plain}
use Rattle.tx_route.proofs.Counted.{row-node}
use Rattle.tx_route.proofs.pointing.at_cell.Goals as goal

pub at_row-requires : goal.at_row-requires
at_row-requires g c =
    let node = row-node c.in-Some.owner c.args.tree.now.rows (plain c.in-Some-row.row.now) (sym c.row.ensures ∙ ap (option_map (λ row. plain row.now)) c.in-Some-row.is) in
    sym c.owner.ensures.owner ∙ (c.in-Some.is ∙ ap Some (sym node))
