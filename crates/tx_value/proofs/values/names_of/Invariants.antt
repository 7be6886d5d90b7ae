use Rattle.std.proofs.Common.{◌≡◌, drop}
use Rattle.tx_read.specs.Answer.{or_refused}
use Rattle.tx_lex.specs.Lexemes.{lexemes}
use Rattle.tx_value.specs.Values.{name_of}
use Rattle.tx_value.specs.Values.{each}
use Rattle.tx_value.specs.declared.fault.ValueFault.TheVariants.{BadValue}
use Rattle.tx_value.proofs.Joined.{behind_all}
use Rattle.tx_value.proofs.values.names_of.Given as goal

-- the items so far, with those of what is left, are those of all
abbrev pub invariant-loop-part : goal.invariant-loop-part
invariant-loop-part l =
    or_refused BadValue (behind_all l.names.items (each name_of (lexemes l.text (drop l.part-index l.parts)))) ≡ or_refused BadValue (each name_of (lexemes l.text l.parts))
