use Rattle.std.proofs.Common.{◌≡◌, ◌≤◌, ◌-◌}
use Rattle.tx_lex.specs.Lexemes.{lexemes_from}
use Rattle.tx_select.specs.SelectorReading.{compounds_at, selector_at}
use Rattle.tx_select.proofs.Steps.{with_front}
use Rattle.tx_select.proofs.reader.compounds.Given as goal

-- the compounds so far, and those from here on, are the compounds in all
abbrev pub invariant-loop-count : goal.invariant-loop-count
invariant-loop-count l = record {
  within : l.at ≤ l.behind;
  read : with_front l.compounds.items (compounds_at (16 - l._count) l.child (lexemes_from l.text l.tokens l.behind)) ≡ selector_at (lexemes_from l.text l.tokens l.at);
}
