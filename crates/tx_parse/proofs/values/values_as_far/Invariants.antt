use Rattle.std.proofs.Common.{◌-◌, ◌≤◌, length}
use Rattle.tx_lex.specs.Lexemes.{lexemes, lexemes_from}
use Rattle.tx_parse.specs.Seen.{defined_in}
use Rattle.tx_parse.proofs.ValueSteps.{SoFar}
use Rattle.tx_parse.proofs.values.values_as_far.Given as goal

abbrev pub invariant-loop-token : goal.invariant-loop-token
invariant-loop-token l = SoFar (defined_in l.text l.variables) (lexemes l.text l.found.items) (lexemes_from l.text l.tokens l.behind) (lexemes_from l.text l.tokens l.at) × (l.at ≤ l.behind)

abbrev pub decreases-loop-token : goal.decreases-loop-token
decreases-loop-token l = length l.tokens - l.behind
