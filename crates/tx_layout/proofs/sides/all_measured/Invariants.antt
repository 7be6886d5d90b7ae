use Rattle.std.proofs.Common.{◌≡◌, drop, [], ℕ, length, All, Option}
use Rattle.tx_layout.specs.declared.styles.Ask.{Ask}
use Rattle.tx_layout.specs.Ask.{Means}
use Rattle.tx_box.specs.Item.{IsSized}
use Rattle.tx_layout.specs.Sides.{measured}
use Rattle.tx_layout.specs.Steps.{each_of}
use Rattle.tx_layout.proofs.Lists.{prefixed}
use Rattle.tx_layout.proofs.sides.all_measured.Given as goal

abbrev pub invariant-loop-child : goal.invariant-loop-child
invariant-loop-child g l = record {
  done : (meaning : Ask → Option ℕ) → Means (goal.F-post g l.measure) l.setting.count meaning
      → prefixed [] (each_of (measured meaning l.axis l.setting.basis.area) l.initial.children) ≡ prefixed l.items.items (each_of (measured meaning l.axis l.setting.basis.area) (drop l.child-index l.children));
  sized : All IsSized l.items.items;
  count : length l.items.items ≡ l.child-index;
}
