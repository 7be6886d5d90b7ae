use Rattle.std.proofs.Common.{◌≡◌, drop}
use Rattle.std.specs.List.{find}
use Rattle.tx_route.specs.Bindings.{is_on}
use Rattle.tx_route.proofs.bindings.action_on.Given as goal

-- the first of the bindings that are left is the first of all
abbrev pub invariant-loop-bind : goal.invariant-loop-bind
invariant-loop-bind l = find (is_on l.key l.priority) (drop l.bind-index l.binds) ≡ find (is_on l.key l.priority) l.binds
