use Rattle.std.proofs.Common.{◌≡◌, ◌≤◌, ◌-◌, ℕ, List, false, length}
use Rattle.tx_lex.specs.Lexemes.{lexemes_from}
use Rattle.tx_select.specs.SelectorReading.{spaces_behind}
use Rattle.tx_select.proofs.reader.spaces.Given as goal

-- what is passed from here on is what is passed in all
abbrev pub invariant-loop-first : goal.invariant-loop-first
invariant-loop-first l = ((text : List ℕ) → spaces_behind l.spaced (lexemes_from text l.tokens l.behind) ≡ spaces_behind false (lexemes_from text l.tokens l.at)) × (l.at ≤ l.behind)

abbrev pub decreases-loop-first : goal.decreases-loop-first
decreases-loop-first l = length l.tokens - l.behind
