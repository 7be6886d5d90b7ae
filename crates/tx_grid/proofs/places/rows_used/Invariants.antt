use Rattle.std.proofs.Common.{◌≡◌, max, drop}
use Rattle.tx_grid.specs.Standing.{rows_used}
use Rattle.tx_grid.proofs.places.rows_used.Given as goal

-- the rows used so far and by what is left are those used by all
abbrev pub invariant-loop-place : goal.invariant-loop-place
invariant-loop-place l = max l.used (rows_used (drop l.place-index l.places)) ≡ rows_used l.places
