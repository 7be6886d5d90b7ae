use Rattle.std.proofs.Common.{◌≡◌, drop, take, length, ◌++◌, All}
use Rattle.tx_layout.specs.Sides.{with_spans}
use Rattle.tx_layout.specs.Children.{IsChild}
use Rattle.tx_layout.proofs.sides.take_spans.Given as goal

abbrev pub invariant-loop-index : goal.invariant-loop-index
invariant-loop-index l = record {
  done : with_spans l.axis l.initial.children l.spans ≡ take l.index l.children ++ with_spans l.axis (drop l.index l.children) (drop l.index l.spans);
  children : All (IsChild l.count) l.children;
  count : length l.children ≡ length l.initial.children;
}
