use Rattle.std.proofs.Common.{◌≡◌, ℕ, ◌-◌, ◌≤◌, ◌<◌, length, min}
use Rattle.std.specs.Prelude.{None}
use Rattle.tx_owner.specs.Lines.{claimed, held_at}
use Rattle.tx_owner.proofs.line.Line.claim_within.Given as goal

abbrev pub invariant-loop-at : goal.invariant-loop-at
invariant-loop-at l = record {
  count : length l.self ≡ length l.initial.self;
  on : l.from ≤ l.at;
  within : l.at ≤ length l.self;
  free : l.at < length l.self → held_at l.self l.at ≡ None;
  cells : (x : ℕ) → held_at l.self x ≡ claimed l.from (min l.at l.end) l.place x (held_at l.fn.self x);
}

abbrev pub decreases-loop-at : goal.decreases-loop-at
decreases-loop-at l = l.end - l.at
