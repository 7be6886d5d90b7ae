use Rattle.std.proofs.Common.{All, ◌≤◌, length}
use Rattle.tx_grid.specs.Standing.{AreSpans}
use Rattle.tx_grid.proofs.tests.spans_of.Given as goal

abbrev pub invariant-loop-word : goal.invariant-loop-word
invariant-loop-word l = record {
  spans : All AreSpans l.spans.items;
  count : length l.spans.items ≤ 20;
}
