use Rattle.tx_grid.proofs.Steps.{ArePlaced}
use Rattle.tx_grid.proofs.placing.stand.Given as goal

-- the children before this one are placed
abbrev pub invariant-loop-asked : goal.invariant-loop-asked
invariant-loop-asked l = ArePlaced l.columns l.rows l.spans l.asked-index l.places.items l.taken.items l.known.items
