use Rattle.std.proofs.Common.{◌≡◌, drop}
use Rattle.std.specs.List.{fold}
use Rattle.tx_value.specs.Style.{initial_style, with_value}
use Rattle.tx_cascade.specs.Cascade.{value_below}
use Rattle.tx_cascade.proofs.below.style_below.Given as goal

-- the style so far, with the values that are left, has all
abbrev pub invariant-loop-property : goal.invariant-loop-property
invariant-loop-property l =
    fold (λ style p. with_value style p (value_below l.above l.all p)) l.style (drop l.property-index l.property-items)
    ≡ fold (λ style p. with_value style p (value_below l.above l.all p)) initial_style l.property-items
