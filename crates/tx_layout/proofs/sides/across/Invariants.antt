use Rattle.std.proofs.Common.{◌≡◌, drop, take, [], ℕ, length, All, Option}
use Rattle.tx_layout.specs.declared.styles.Ask.{Ask}
use Rattle.tx_layout.specs.Ask.{Means}
use Rattle.tx_layout.specs.Children.{IsChild}
use Rattle.tx_layout.specs.Sides.{across_one}
use Rattle.tx_layout.specs.Steps.{each_of}
use Rattle.tx_layout.proofs.Lists.{prefixed}
use Rattle.tx_layout.proofs.sides.across.Given as goal

abbrev pub invariant-loop-child : goal.invariant-loop-child
invariant-loop-child g l = record {
  done : (meaning : Ask → Option ℕ) → Means (goal.F-post g l.measure) l.setting.count meaning
      → prefixed [] (each_of (across_one meaning l.axis l.setting.basis) l.initial.children)
      ≡ prefixed (take l.child-index l.children) (each_of (across_one meaning l.axis l.setting.basis) (drop l.child-index l.children));
  children : All (IsChild l.setting.count) l.children;
  count : length l.children ≡ length l.initial.children;
}
