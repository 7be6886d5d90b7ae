use Rattle.std.proofs.Common.{◌≡◌, ◌+◌, ◌-◌, ◌≤◌, length}
use Rattle.tx_node_map.specs.Held.{held}
use Rattle.tx_node_map.proofs.map.NodeMap.reserve.Given as goal

-- places were added, and what is held is the same
abbrev pub invariant-loop-node : goal.invariant-loop-node
invariant-loop-node g l = record {
  same : held l.self-inside.places.items ≡ held l.fn.self;
  longer : length l.fn.self ≤ length l.self-inside.places.items;
}

abbrev pub decreases-loop-node : goal.decreases-loop-node
decreases-loop-node g l = (l.node.0 + 1) - length l.self-inside.places.items
