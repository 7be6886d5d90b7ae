use Rattle.std.proofs.Common.{◌-◌, length}
use Rattle.tx_lex.specs.Lexemes.{lexemes_from}
use Rattle.tx_parse.specs.Seen.{found_in}
use Rattle.tx_parse.proofs.SheetSteps.{SheetSoFar}
use Rattle.tx_parse.proofs.sheets.sheet.Given as goal

abbrev pub invariant-loop-first : goal.invariant-loop-first
invariant-loop-first l = SheetSoFar (found_in l.text l.found) (lexemes_from l.text l.tokens l.behind) (lexemes_from l.text l.tokens 0)

abbrev pub decreases-loop-first : goal.decreases-loop-first
decreases-loop-first l = length l.tokens - l.behind
