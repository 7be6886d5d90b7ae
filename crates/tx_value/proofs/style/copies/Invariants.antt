use Rattle.std.proofs.Common.{◌≡◌, ◌++◌, drop}
use Rattle.tx_value.proofs.style.copies.Given as goal

-- the copies so far, with what is left, are all values
abbrev pub invariant-loop-value : goal.invariant-loop-value
invariant-loop-value l = l.copies.items ++ drop l.value-index l.values ≡ l.values
