use Rattle.std.proofs.Common.{◌≡◌, ◌≤◌, ◌-◌, ℕ, List, length}
use Rattle.tx_lex.specs.Lexemes.{lexemes_from}
use Rattle.tx_lex.specs.Blanks.{past_blanks}
use Rattle.tx_lex.proofs.lexemes.past_blanks.Given as goal

-- what stands behind the blanks from here on is what stands behind all of them
abbrev pub invariant-loop-first : goal.invariant-loop-first
invariant-loop-first l = ((text : List ℕ) → past_blanks (lexemes_from text l.tokens l.behind) ≡ past_blanks (lexemes_from text l.tokens l.at)) × (l.at ≤ l.behind)

abbrev pub decreases-loop-first : goal.decreases-loop-first
decreases-loop-first l = length l.tokens - l.behind
