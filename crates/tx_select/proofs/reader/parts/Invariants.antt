use Rattle.std.proofs.Common.{◌≡◌, ◌≤◌, ◌-◌, length}
use Rattle.tx_read.specs.Reading.{behind_items, many}
use Rattle.tx_lex.specs.Lexemes.{lexemes_from, first_is}
use Rattle.tx_select.specs.Lexemes.{begins_part}
use Rattle.tx_select.specs.SelectorReading.{part_at}
use Rattle.tx_select.proofs.reader.parts.Given as goal

-- the parts so far, and those from here on, are the parts in all
abbrev pub invariant-loop-found : goal.invariant-loop-found
invariant-loop-found l = record {
  within : l.at ≤ l.behind;
  read : behind_items l.parts.items (many length (first_is begins_part) part_at (lexemes_from l.text l.tokens l.behind)) ≡ many length (first_is begins_part) part_at (lexemes_from l.text l.tokens l.at);
}

abbrev pub decreases-loop-found : goal.decreases-loop-found
decreases-loop-found l = length l.tokens - l.behind
