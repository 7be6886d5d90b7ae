use Rattle.std.proofs.Common.{drop}
use Rattle.tx_map.specs.Lookup.{AreFound}
use Rattle.tx_node_map.specs.Held.{held}
use Rattle.tx_map.proofs.map.places_of.Given as goal

-- the entries from a place on are found
abbrev pub invariant-loop-at : goal.invariant-loop-at
invariant-loop-at l = AreFound (held l.places) l.at (drop l.at l.entries)

abbrev pub decreases-loop-at : goal.decreases-loop-at
decreases-loop-at l = l.at
