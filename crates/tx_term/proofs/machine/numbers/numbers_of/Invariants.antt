use Rattle.std.proofs.Common.{◌≡◌, ◌≤◌, length, drop, None, []}
use Rattle.tx_term.specs.Sequence.{numbers_behind}
use Rattle.tx_term.proofs.machine.numbers.numbers_of.Given as goal

-- The numbers so far, with those of the rest, are all numbers.
abbrev pub invariant-loop-byte : goal.invariant-loop-byte
invariant-loop-byte l = record {
  few : length l.numbers.items ≤ l.byte-index;
  rest : numbers_behind [] None l.bytes ≡ numbers_behind l.numbers.items l.here (drop l.byte-index l.bytes);
}
