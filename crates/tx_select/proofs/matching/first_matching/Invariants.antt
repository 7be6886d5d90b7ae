use Rattle.std.proofs.Common.{◌≡◌}
use Rattle.std.specs.List.{find}
use Rattle.tx_tree.specs.Row.{number}
use Rattle.tx_select.specs.Climb.{is_match}
use Rattle.tx_select.proofs.matching.first_matching.Given as goal

-- the first of the rows that are left is the first of all
abbrev pub invariant-loop-row : goal.invariant-loop-row
invariant-loop-row l =
    find (λ row. is_match l.pseudo l.tree.rows l.compounds (number row)) l.row-iterator
    ≡ find (λ row. is_match l.pseudo l.tree.rows l.compounds (number row)) l.tree.rows
