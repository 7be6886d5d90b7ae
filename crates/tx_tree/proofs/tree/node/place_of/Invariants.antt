use Rattle.std.proofs.Common.{◌≡◌, ◌+◌, ◌<◌, length, drop}
use Rattle.tx_tree.specs.ChildLists.{times, ahead_of}
use Rattle.tx_tree.proofs.tree.node.place_of.Given as goal

-- the child stands in the rest, behind what was passed
abbrev pub invariant-loop-place : goal.invariant-loop-place
invariant-loop-place l =
    (length (ahead_of l.child l.children) ≡ l.place + length (ahead_of l.child (drop l.place l.children)))
    × (0 < times l.child (drop l.place l.children))
