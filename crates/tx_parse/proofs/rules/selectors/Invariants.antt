use Rattle.std.proofs.Common.{◌≡◌, ◌≤◌, ◌-◌, length}
use Rattle.tx_lex.specs.Lexemes.{lexemes_from}
use Rattle.tx_parse.specs.SheetReading.{selectors_from, selectors_at}
use Rattle.tx_parse.proofs.rules.selectors.Given as goal

-- the selectors so far, and those from here on, are the selectors in all
abbrev pub invariant-loop-count : goal.invariant-loop-count
invariant-loop-count l = record {
  gives : selectors_from (64 - l._count) l.found.items (lexemes_from l.text l.tokens l.behind) ≡ selectors_at (lexemes_from l.text l.tokens l.at);
  few : length l.found.items ≤ l._count;
}
