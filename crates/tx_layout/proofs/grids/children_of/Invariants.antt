use Rattle.std.proofs.Common.{◌≡◌, drop, ◌++◌, All}
use Rattle.std.specs.Prelude.{map}
use Rattle.tx_layout.specs.declared.children.Framed.{Framed}
use Rattle.tx_layout.specs.Children.{IsChild}
use Rattle.tx_layout.proofs.grids.children_of.Given as goal

abbrev pub invariant-loop-framed : goal.invariant-loop-framed
invariant-loop-framed l = record {
  done : map (λ (f : Framed). f.child) l.initial.frames ≡ l.children.items ++ map (λ (f : Framed). f.child) (drop l.framed-index l.frames);
  children : All (IsChild l.count) l.children.items;
}
