use Rattle.std.proofs.Common.{◌≡◌, ◌≤◌, ◌-◌, length}
use Rattle.tx_read.specs.Reading.{behind_items}
use Rattle.tx_lex.specs.Lexing.{lexed, of_run, spot_at, tokens_from}
use Rattle.tx_lex.proofs.lexer.scan.Given as goal

-- the tokens so far, and what is read from here on, are what is read in all
abbrev pub invariant-loop-place : goal.invariant-loop-place
invariant-loop-place l = record {
  within : l.place ≤ length l.bytes;
  few : length l.tokens.items ≤ l.place;
  read : of_run (behind_items l.tokens.items (tokens_from (spot_at l.bytes l.place))) ≡ lexed l.bytes;
}

abbrev pub decreases-loop-place : goal.decreases-loop-place
decreases-loop-place l = length l.bytes - l.place
