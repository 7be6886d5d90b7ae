use Rattle.std.proofs.Common.{◌≡◌, drop, None, option_copied}
use Rattle.std.specs.List.{fold}
use Rattle.tx_cascade.proofs.Greatest.{greater_where}
use Rattle.tx_cascade.specs.Cascade.{counts}
use Rattle.tx_cascade.specs.Key.{key_parts}
use Rattle.tx_cascade.proofs.winning.winner.Given as goal

-- the winner so far, with what is left, is the winner of all
abbrev pub invariant-loop-one : goal.invariant-loop-one
invariant-loop-one l =
    fold (greater_where (counts l.property l.only_default) (λ one. key_parts one.key)) (option_copied l.best) (drop l.one-index l.all)
    ≡ fold (greater_where (counts l.property l.only_default) (λ one. key_parts one.key)) None l.all
