use Rattle.tx_cascade.proofs.SameStyles.{SameOn}
use Rattle.tx_cascade.proofs.sameness.is_same_style.Given as goal

-- where the values that are left are the same, all are
abbrev pub invariant-loop-property : goal.invariant-loop-property
invariant-loop-property l = SameOn l.first l.second l.property-index l.property-items
