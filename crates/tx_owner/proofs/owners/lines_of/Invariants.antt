use Rattle.std.proofs.Common.{◌≡◌, map}
use Rattle.std.specs.List.{range_with_len}
use Rattle.tx_owner.specs.Panes.{first_at}
use Rattle.tx_owner.proofs.owners.lines_of.Given as goal

abbrev pub invariant-loop-y : goal.invariant-loop-y
invariant-loop-y l = l.lines.items ≡ map (λ y. map (λ x. first_at x y l.panes) (range_with_len 0 l.size.width)) (range_with_len 0 l.y)
