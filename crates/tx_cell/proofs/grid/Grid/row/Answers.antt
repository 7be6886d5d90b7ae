use Rattle.std.proofs.Common.{arith, ◌≡◌, ◌+◌, ◌-◌, ◌*◌}
use Rattle.tx_cell.proofs.GridLemmas.{slice_get-rows_of, IsGrid-kept}
use Rattle.tx_cell.proofs.grid.Grid.row.Goals as goal

pub returns-clause-cells : goal.returns-clause-cells
returns-clause-cells c =
    let width = c.self.inside.size.width in
    let start = c.args.y * width in
    let wide : start + width - start ≡ width = omega arith in
    rw (c.deref.ensures.value, wide, ← c.self.view_is) (slice_get-rows_of width _ c.args.y c.self.inside.cells.items (rw (← c.self.view_is) at c.requires.row))

pub returns-clause-shape : goal.returns-clause-shape
returns-clause-shape c = rw (← c.self.view_is) (IsGrid-kept _ _ c.self.invariant)
