use Rattle.std.proofs.Common.{◌-◌, ◌≤◌, length}
use Rattle.tx_lex.specs.Lexemes.{lexemes_from}
use Rattle.tx_parse.specs.Seen.{defined_in, body_of}
use Rattle.tx_parse.proofs.BodySteps.{BodySoFar}
use Rattle.tx_parse.proofs.blocks.body.Given as goal

abbrev pub invariant-loop-end : goal.invariant-loop-end
invariant-loop-end l = BodySoFar l.inline (defined_in l.text l.variables) (body_of l.found) (lexemes_from l.text l.tokens l.behind) (lexemes_from l.text l.tokens l.at) (length l.tokens - l.behind) × (l.at ≤ l.behind)

abbrev pub decreases-loop-end : goal.decreases-loop-end
decreases-loop-end l = length l.tokens - l.behind
