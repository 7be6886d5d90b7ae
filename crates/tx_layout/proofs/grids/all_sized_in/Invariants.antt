use Rattle.std.proofs.Common.{◌≡◌, drop, take, [], ℕ, All, Option}
use Rattle.tx_layout.specs.declared.styles.Ask.{Ask}
use Rattle.tx_layout.specs.Ask.{Means}
use Rattle.tx_layout.specs.Grid.{sized_in, IsFramed}
use Rattle.tx_layout.specs.Steps.{each_of}
use Rattle.tx_layout.proofs.Lists.{prefixed}
use Rattle.tx_layout.proofs.grids.all_sized_in.Given as goal

abbrev pub invariant-loop-framed : goal.invariant-loop-framed
invariant-loop-framed g l = record {
  done : (meaning : Ask → Option ℕ) → Means (goal.F-post g l.measure) l.count meaning
      → prefixed [] (each_of (sized_in meaning l.axis l.screen) l.initial.frames)
      ≡ prefixed (take l.framed-index l.frames) (each_of (sized_in meaning l.axis l.screen) (drop l.framed-index l.frames));
  frames : All (IsFramed l.count) l.frames;
}
