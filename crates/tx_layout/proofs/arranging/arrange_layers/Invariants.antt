use Rattle.std.proofs.Common.{◌≡◌, ◌≤◌, length, ℕ, All, Option}
use Rattle.tx_layout.specs.declared.styles.Ask.{Ask}
use Rattle.tx_layout.specs.Ask.{Means}
use Rattle.tx_layout.specs.Arrangement.{AreWithinReach, arranged_layer, together, seen}
use Rattle.tx_layout.specs.Children.{IsChild, runs}
use Rattle.tx_layout.proofs.Lists.{Reached}
use Rattle.tx_layout.proofs.arranging.arrange_layers.Given as goal

abbrev pub invariant-loop-rest : goal.invariant-loop-rest
invariant-loop-rest g l = record {
  done : (meaning : Ask → Option ℕ) → Means (goal.F-post g l.measure) l.setting.count meaning
      → Reached (arranged_layer meaning l.kind l.grid l.align l.setting.basis) (together l.setting.count) (runs l.ordered) (runs l.rest) (seen l.laid);
  children : All (IsChild l.setting.count) l.rest;
  count : length l.rest ≤ 65536;
  near : AreWithinReach l.laid.placed.items;
  places : length l.laid.placed.items ≡ l.setting.count;
}

abbrev pub decreases-loop-rest : goal.decreases-loop-rest
decreases-loop-rest g l = length l.rest
