use Rattle.std.proofs.Common.{◌≡◌, ◌++◌, drop, map}
use Rattle.tx_value.specs.Initial.{initial}
use Rattle.tx_value.proofs.style.initial_values.Given as goal

-- the values so far, with those of what is left, are all
abbrev pub invariant-loop-property : goal.invariant-loop-property
invariant-loop-property l = l.values.items ++ map initial (drop l.property-index l.properties) ≡ map initial l.properties
