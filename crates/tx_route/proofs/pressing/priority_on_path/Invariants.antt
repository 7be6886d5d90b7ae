use Rattle.std.proofs.Common.{◌≡◌, reverse}
use Rattle.std.specs.Option.{option_or}
use Rattle.tx_route.specs.Pressing.{path_to, priority_on}
use Rattle.tx_route.proofs.pressing.priority_on_path.Given as goal

-- the first of the rows that are left, read from the Screen down, or else the one found so far, is the first of the path
abbrev pub invariant-loop-above : goal.invariant-loop-above
invariant-loop-above l = option_or (priority_on l.key (reverse l.above-iterator)) l.first ≡ priority_on l.key (path_to l.fn.node.0 l.tree.rows)
