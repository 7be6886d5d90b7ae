use Rattle.tx_grid.proofs.Open.{IsJoined}
use Rattle.tx_grid.proofs.search.first_in_row.Given as goal

-- the rows from `end` on are joined, and the column is the first one that they leave open
abbrev pub invariant-loop-end : goal.invariant-loop-end
invariant-loop-end l = IsJoined l.columns l.taken l.span l.row l.end l.joined l.column

abbrev pub decreases-loop-end : goal.decreases-loop-end
decreases-loop-end l = l.end
