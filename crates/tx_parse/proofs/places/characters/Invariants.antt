use Rattle.std.proofs.Common.{◌≡◌, ◌≤◌, drop}
use Rattle.tx_parse.specs.Places.{characters_from}
use Rattle.tx_parse.proofs.places.characters.Given as goal

-- the characters of the bytes so far, and those from here on, are the characters of all
abbrev pub invariant-loop-byte : goal.invariant-loop-byte
invariant-loop-byte l = (characters_from l.count (drop l.byte-index l.bytes) ≡ characters_from 0 l.bytes) × (l.count ≤ l.byte-index)
