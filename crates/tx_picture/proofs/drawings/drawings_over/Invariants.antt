use Rattle.std.proofs.Common.{◌≡◌, ◌++◌, drop}
use Rattle.tx_node_map.specs.Held.{held}
use Rattle.tx_picture.proofs.drawings.drawings_over.Given as goal
use Rattle.tx_picture.specs.Drawings.{drawings}

-- the drawings so far, with those of the entries that are left, are those of all
abbrev pub invariant-loop-entry : goal.invariant-loop-entry
invariant-loop-entry l =
    l.all.items ++ drawings l.styles (held l.owners.spots) (drop l.entry-index l.entries) ≡ drawings l.styles (held l.owners.spots) l.entries
