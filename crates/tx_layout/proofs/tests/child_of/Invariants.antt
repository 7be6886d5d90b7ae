use Rattle.tx_layout.specs.Style.{IsBoxStyle}
use Rattle.tx_layout.proofs.tests.child_of.Given as goal

abbrev pub invariant-loop-property : goal.invariant-loop-property
invariant-loop-property l = IsBoxStyle l.style
