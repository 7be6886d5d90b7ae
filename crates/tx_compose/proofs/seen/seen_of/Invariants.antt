use Rattle.std.proofs.Common.{drop}
use Rattle.tx_cascade.specs.Styles.{all_styles}
use Rattle.tx_compose.specs.Seen.{AreSeen}
use Rattle.tx_compose.proofs.seen.seen_of.Given as goal
use Rattle.tx_node_map.specs.Held.{held}
use Rattle.tx_owner.specs.Owner.{is_seen}

-- the entries from a place on are looked up
abbrev pub invariant-loop-at : goal.invariant-loop-at
invariant-loop-at l = AreSeen (is_seen (all_styles l.styles.sheet l.styles.state l.styles.rows)) (drop l.at l.entries) (held l.seen)

abbrev pub decreases-loop-at : goal.decreases-loop-at
decreases-loop-at l = l.at
