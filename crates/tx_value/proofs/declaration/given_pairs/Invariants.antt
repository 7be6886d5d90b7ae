use Rattle.std.proofs.Common.{◌≡◌, drop}
use Rattle.tx_read.specs.Answer.{or_refused}
use Rattle.tx_lex.specs.Lexemes.{lexemes}
use Rattle.tx_value.specs.Declarations.{pairs_from}
use Rattle.tx_value.specs.declared.fault.ValueFault.TheVariants.{BadValue}
use Rattle.tx_value.proofs.Joined.{behind_all}
use Rattle.tx_value.proofs.declaration.given_pairs.Given as goal

-- the pairs so far, with those of the properties that are left, are those of all
abbrev pub invariant-loop-place : goal.invariant-loop-place
invariant-loop-place l =
    or_refused BadValue (behind_all l.pairs.items (pairs_from l.what (lexemes l.text l.parts) l.place (drop l.place l.properties)))
    ≡ or_refused BadValue (pairs_from l.what (lexemes l.text l.parts) 0 l.properties)
