use Rattle.std.proofs.Common.{◌≡◌, ◌++◌, drop}
use Rattle.tx_value.specs.Parts.{parts_of}
use Rattle.tx_value.proofs.parts.parts_of.Given as goal

-- the parts so far, with those of what is left, are all
abbrev pub invariant-loop-token : goal.invariant-loop-token
invariant-loop-token l = l.parts.items ++ parts_of (drop l.token-index l.tokens) ≡ parts_of l.tokens
