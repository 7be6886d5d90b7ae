use Rattle.std.proofs.Common.{◌+◌, ◌-◌, ◌*◌, length}
use Rattle.tx_map.specs.Subtrees.{setting, seen_container}
use Rattle.tx_map.proofs.Walking.{IsGoneOver}
use Rattle.tx_node_map.specs.Held.{held, nothing}
use Rattle.tx_map.proofs.walk.+walking.Given as goal

abbrev pub decreases-push_row : goal.decreases-push_row
decreases-push_row g l = 3 * length l.behind.now + 1

abbrev pub decreases-push_children : goal.decreases-push_children
decreases-push_children g l = 3 * length l.rows.now

abbrev pub decreases-push_child : goal.decreases-push_child
decreases-push_child g l = 3 * length l.behind.now + 2

-- the children before a place were gone over
abbrev pub invariant-push_children-loop-at : goal.invariant-push_children-loop-at
invariant-push_children-loop-at g l =
    IsGoneOver g.L.Ledger.ticked (setting nothing (held l.scrolls) l.screen) l.frame.depth l.rows (seen_container l.container l.frame l.key) l.regions
    l.fn.found.items l.found.items l.fn.steps.ledger l.steps.ledger l.at l.used l.place

abbrev pub decreases-push_children-loop-at : goal.decreases-push_children-loop-at
decreases-push_children-loop-at g l = length l.rows - l.at
