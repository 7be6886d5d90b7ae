use Rattle.std.proofs.Common.{◌≡◌, drop, Some}
use Rattle.tx_lex.specs.Lexemes.{lexemes}
use Rattle.tx_value.specs.Values.{marks_of, marked}
use Rattle.tx_value.proofs.values.marks_of.Given as goal

-- the marks so far, with those of what is left, are those of all
abbrev pub invariant-loop-part : goal.invariant-loop-part
invariant-loop-part l = marked (Some l.marks) (marks_of (lexemes l.text (drop l.part-index l.parts))) ≡ marks_of (lexemes l.text l.parts)
