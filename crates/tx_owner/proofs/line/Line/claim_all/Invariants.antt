use Rattle.std.proofs.Common.{◌≡◌, ℕ, ◌<◌, drop, length}
use Rattle.std.specs.Option.{option_or}
use Rattle.tx_owner.specs.Lines.{held_at}
use Rattle.tx_owner.specs.Panes.{first_at}
use Rattle.tx_owner.proofs.line.Line.claim_all.Given as goal

abbrev pub invariant-loop-pane : goal.invariant-loop-pane
invariant-loop-pane l = record {
  count : length l.self ≡ length l.fn.self;
  cells : (x : ℕ) → x < length l.fn.self
      → option_or (held_at l.self x) (first_at x l.y (drop l.pane-index l.panes)) ≡ option_or (held_at l.fn.self x) (first_at x l.y l.panes);
}
