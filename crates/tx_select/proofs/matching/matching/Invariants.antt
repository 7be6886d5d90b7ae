use Rattle.std.proofs.Common.{◌≡◌, ◌++◌, map, filter}
use Rattle.tx_tree.specs.Row.{number}
use Rattle.tx_select.specs.Climb.{is_match}
use Rattle.tx_select.proofs.matching.matching.Given as goal

-- the nodes so far, with those of the rows that are left, are all
abbrev pub invariant-loop-row : goal.invariant-loop-row
invariant-loop-row l =
    l.nodes.items ++ map (λ row. row.node) (filter (λ row. is_match l.pseudo l.tree.rows l.compounds (number row)) l.row-iterator)
    ≡ map (λ row. row.node) (filter (λ row. is_match l.pseudo l.tree.rows l.compounds (number row)) l.tree.rows)
