use Rattle.tx_cell.proofs.GridLemmas.{IsGrid-kept}
use Rattle.tx_cell.proofs.grid.Grid.size.Goals as goal

pub returns-clause-shape : goal.returns-clause-shape
returns-clause-shape c = rw (← c.self.view_is) (IsGrid-kept _ _ c.self.invariant)
