use Rattle.std.proofs.Common.{◌≡◌, drop, ◌++◌, length, All}
use Rattle.std.specs.Prelude.{map}
use Rattle.tx_grid.specs.Standing.{AreSpans}
use Rattle.tx_layout.specs.Grid.{spans_of}
use Rattle.tx_layout.proofs.grids.spans_of.Given as goal

abbrev pub invariant-loop-child : goal.invariant-loop-child
invariant-loop-child l = record {
  done : map spans_of l.initial.children ≡ l.spans.items ++ map spans_of (drop l.child-index l.children);
  spans : All AreSpans l.spans.items;
  count : length l.spans.items ≡ l.child-index;
}
