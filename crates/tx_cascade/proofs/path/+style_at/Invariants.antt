use Rattle.std.proofs.Common.{length}
use Rattle.tx_cascade.specs.Cascade.{up_from}
use Rattle.tx_cascade.proofs.path.+style_at.Given as goal

-- how many rows stand from this one up
abbrev pub decreases-style_at : goal.decreases-style_at
decreases-style_at g l = length (up_from l.tree.now.rows l.node.0)
