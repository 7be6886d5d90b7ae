use Rattle.std.proofs.Common.{◌≡◌, ◌++◌, drop}
use Rattle.tx_value.specs.Declarations.{all_initial}
use Rattle.tx_value.proofs.declaration.all_initial.Given as goal

-- the pairs so far, with those of what is left, are all
abbrev pub invariant-loop-property : goal.invariant-loop-property
invariant-loop-property l = l.pairs.items ++ all_initial (drop l.property-index l.properties) ≡ all_initial l.properties
