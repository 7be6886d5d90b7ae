use Rattle.std.proofs.Common.{◌≡◌, ◌++◌, drop, map}
use Rattle.std.specs.List.{enumerate_from}
use Rattle.tx_cascade.specs.Reaching.{reached, all_reached}
use Rattle.tx_cascade.proofs.reaching.push_declarations.Given as goal

-- those so far, with those that are left, are all
abbrev pub invariant-loop-place : goal.invariant-loop-place
invariant-loop-place l =
    l.all.items ++ map (reached l.origin l.weight l.rule) (enumerate_from l.place (drop l.place l.declarations))
    ≡ l.fn.all.items ++ all_reached l.origin l.weight l.rule l.declarations
