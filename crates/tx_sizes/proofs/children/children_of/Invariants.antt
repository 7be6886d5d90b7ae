use Rattle.std.proofs.Common.{◌≡◌, ◌-◌, ◌≤◌, length, All}
use Rattle.tx_layout.specs.Style.{IsBoxStyle}
use Rattle.tx_sizes.proofs.Gathering.{Gathered}
use Rattle.tx_sizes.proofs.children.children_of.Given as goal

abbrev pub invariant-loop-at : goal.invariant-loop-at
invariant-loop-at l = record {
  gathered : Gathered l.container l.depth l.rows l.at l.styles.items l.starts.items;
  accepted : All IsBoxStyle l.styles.items;
  few : length l.styles.items ≤ l.at;
  as_many : length l.styles.items ≡ length l.starts.items;
}

abbrev pub decreases-loop-at : goal.decreases-loop-at
decreases-loop-at l = length l.rows - l.at
