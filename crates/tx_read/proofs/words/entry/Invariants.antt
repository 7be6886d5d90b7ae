use Rattle.std.proofs.Common.{◌≡◌, map, drop}
use Rattle.tx_read.specs.Words.{entry}
use Rattle.tx_read.proofs.words.entry.Given as goal

-- what the rest has is what the whole table has
abbrev pub invariant-loop-row : goal.invariant-loop-row
invariant-loop-row g l = entry (map (λ row. (row.0.now, row.1)) (drop l.row-index l.table)) l.word ≡ entry (map (λ row. (row.0.now, row.1)) l.table) l.word
