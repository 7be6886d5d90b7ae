use Rattle.std.proofs.Common.{◌≡◌, ◌++◌, drop}
use Rattle.tx_app.specs.Listing.{lines_of}
use Rattle.tx_app.proofs.listing.lines_of.Given as goal

-- the lines so far, with those of the nodes that are left, are all
abbrev pub invariant-loop-node : goal.invariant-loop-node
invariant-loop-node l = l.lines.items ++ lines_of l.tree.rows (drop l.node-index l.nodes) ≡ lines_of l.tree.rows l.nodes
