use Rattle.std.proofs.Common.{◌≡◌, ◌*◌, replicate, ap}
use Rattle.tx_cell.proofs.GridLemmas.{IsArray-filled, rows_of-replicate}
use Rattle.tx_cell.proofs.grid.Grid.open.Goals as goal

pub invariant_of-result : goal.invariant_of-result
invariant_of-result c =
    let items : c.in_ok-cells.cells.items ≡ replicate (c.args.size.width * c.args.size.height) c.args.fill = c.in_ok-cells.ensures.items_if_clones_equal (λ y is. is) in
    rw items (IsArray-filled c.args.size c.args.fill c.width-is_narrow.ensures.known c.requires.narrow)

pub returns : goal.returns
returns c =
    let items : c.in_ok-cells.cells.items ≡ replicate (c.args.size.width * c.args.size.height) c.args.fill = c.in_ok-cells.ensures.items_if_clones_equal (λ y is. is) in
    record { grid = rw items (ap (λ rows. record { size = c.args.size; rows = rows }) (rows_of-replicate c.args.size.width c.args.size.height c.args.fill)) }
