use Rattle.std.proofs.Common.{All, length, ◌≤◌}
use Rattle.tx_layout.specs.Style.{IsBoxStyle}
use Rattle.tx_layout.proofs.tests.children_of.Given as goal

abbrev pub invariant-loop-word : goal.invariant-loop-word
invariant-loop-word l = record { styles : All IsBoxStyle l.children.items; count : length l.children.items ≤ 20 }
