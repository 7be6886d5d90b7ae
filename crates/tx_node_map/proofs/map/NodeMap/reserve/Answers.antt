use Rattle.std.proofs.Common.{arith, ap, ◌∙◌}
use Rattle.tx_node_map.specs.Held.{held}
use Rattle.tx_node_map.proofs.lemmas.Places.{held_grown}
use Rattle.tx_node_map.proofs.map.NodeMap.reserve.Goals as goal

pub loop-node-preserved : goal.loop-node-preserved
loop-node-preserved g c = record {
  same = ap held c.in_ok-push.ensures.items ∙ held_grown _ ∙ c.loop-node.invariant.same;
  longer = omega (arith, c.in_ok-push.ensures.len, c.loop-node.invariant.longer);
}
