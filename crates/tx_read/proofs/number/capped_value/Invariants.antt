use Rattle.std.proofs.Common.{◌≡◌, ◌-◌, ◌^◌, min, take}
use Rattle.tx_read.specs.Number.{value}
use Rattle.tx_read.proofs.number.capped_value.Given as goal

-- the number that the digits so far write
abbrev pub invariant-loop-byte : goal.invariant-loop-byte
invariant-loop-byte l = l.value ≡ min (value (take l.byte-index l.bytes)) (2 ^ 64 - 1)
