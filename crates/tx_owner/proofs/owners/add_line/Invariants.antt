use Rattle.std.proofs.Common.{◌≡◌, ℕ, drop}
use Rattle.std.specs.Prelude.{option_map}
use Rattle.std.specs.List.{position_from}
use Rattle.std.specs.Option.{option_or}
use Rattle.tx_node_map.specs.Held.{held}
use Rattle.tx_owner.specs.Owner.{is_entry_of}
use Rattle.tx_owner.proofs.owners.add_line.Given as goal

abbrev pub invariant-loop-x : goal.invariant-loop-x
invariant-loop-x l = (n : ℕ) → held l.spots n ≡ option_or (option_map (λ x. (x, l.y)) (position_from (is_entry_of l.entries n) l.x (drop l.x l.line))) (held l.fn.spots n)

abbrev pub decreases-loop-x : goal.decreases-loop-x
decreases-loop-x l = l.x
