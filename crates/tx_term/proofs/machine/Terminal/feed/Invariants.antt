use Rattle.std.proofs.Common.{◌≡◌, take, fold}
use Rattle.tx_term.specs.Machine.{step}
use Rattle.tx_term.proofs.machine.Terminal.feed.Given as goal

-- The bytes so far were read.
abbrev pub invariant-loop-byte : goal.invariant-loop-byte
invariant-loop-byte l = l.self ≡ fold step l.fn.self (take l.byte-index l.bytes)
