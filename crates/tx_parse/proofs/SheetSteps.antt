-- The steps of reading the variables and rules of a sheet.
use Rattle.std.proofs.Common.{◌≡◌, ℕ, suc, ◌-◌, ◌≤◌, ◌<◌, List, ◌∷◌, length, Ok, ap, sym, ◌∙◌, arith}
use Rattle.tx_lex.specs.Lexemes.{Lexeme, lexemes_from}
use Rattle.tx_lex.specs.declared.token.Token.{Token}
use Rattle.tx_read.specs.Reading.{in_turn}
use Rattle.tx_parse.specs.Grammar.{Found, nothing_found}
use Rattle.tx_lex.specs.Blanks.{past_blanks}
use Rattle.tx_parse.specs.SheetReading.{part_at, next_in_sheet, sheet_from, sheet_at}
use Rattle.tx_parse.proofs.BodySteps.{above, length_from}
use Rattle.tx_parse.proofs.LocalBodies.{past_shorter}
use Rattle.tx_parse.proofs.LocalSheets.{part_shorter}
use Rattle.tx_parse.proofs.Turns.{turn_ok}

-- What was found so far, and what is read from here on, is what is read in all.
pub record SheetSoFar (found : Found) (here start : List Lexeme) : Type 0 where
  pub most : ℕ
  pub enough : length here ≤ most
  pub same : next_in_sheet (sheet_from most) found here ≡ sheet_at start

pub sheet_init : (found : Found) (here start : List Lexeme) → found ≡ nothing_found → here ≡ past_blanks start → SheetSoFar found here start
unfolding sheet_at sheet_from
sheet_init found here start none past = record {
  most = length start;
  enough = let same : length here ≡ length (past_blanks start) = ap length past in let shorter : length (past_blanks start) ≤ length start = past_shorter start in omega (arith, same, shorter);
  same = ap (λ f. next_in_sheet (sheet_from (length start)) f here) none ∙ ap (next_in_sheet (sheet_from (length start)) nothing_found) past;
}

one_more : (most : ℕ) (found : Found) (ts next : List Lexeme) → next ≡ past_blanks ts → sheet_from (suc most) found ts ≡ next_in_sheet (sheet_from most) found next
unfolding sheet_from
one_more most found ts next past = ap (next_in_sheet (sheet_from most) found) (sym past)

-- what is left gets shorter
next_shorter : (found more : Found) (here rest next : List Lexeme) → part_at found here ≡ Ok (more, rest) → next ≡ past_blanks rest → length next < length here
next_shorter found more here rest next part past =
    let same : length next ≡ length (past_blanks rest) = ap length past in
    let blank : length (past_blanks rest) ≤ length rest = past_shorter rest in
    let short : length rest < length here = part_shorter found more here rest part in
    omega (arith, same, blank, short)

pub sheet_next : (found more : Found) (here start rest next : List Lexeme) (t : Lexeme) (ts : List Lexeme) → SheetSoFar found here start → here ≡ t ∷ ts → part_at found here ≡ Ok (more, rest) → next ≡ past_blanks rest
    → SheetSoFar more next start
sheet_next found more here start rest next t ts so_far is part past =
    let shorter : length next < length here = next_shorter found more here rest next part past in
    let n : (n : ℕ) × (so_far.most ≡ suc n) = above so_far.most (length next) (omega (arith, shorter, so_far.enough)) in
    record {
      most = n.0;
      enough = omega (arith, shorter, so_far.enough, n.1);
      same = sym (one_more n.0 more rest next past)
          ∙ ap (λ m. sheet_from m more rest) (sym n.1)
          ∙ sym (turn_ok (part_at found) (sheet_from so_far.most) here rest more part)
          ∙ ap (in_turn (part_at found) (sheet_from so_far.most)) is
          ∙ sym (ap (next_in_sheet (sheet_from so_far.most) found) is) ∙ so_far.same;
    }

-- so the number of tokens that are left gets less
pub fewer_left : (text : List ℕ) (tokens : List Token) (found more : Found) (at rest next : ℕ) → part_at found (lexemes_from text tokens at) ≡ Ok (more, lexemes_from text tokens rest)
    → lexemes_from text tokens next ≡ past_blanks (lexemes_from text tokens rest) → length tokens - next < length tokens - at
fewer_left text tokens found more at rest next part past =
    let shorter : length (lexemes_from text tokens next) < length (lexemes_from text tokens at) =
    next_shorter found more (lexemes_from text tokens at) (lexemes_from text tokens rest) (lexemes_from text tokens next) part past in
    let one : length (lexemes_from text tokens next) ≡ length tokens - next = length_from text tokens next in
    let two : length (lexemes_from text tokens at) ≡ length tokens - at = length_from text tokens at in
    omega (arith, shorter, one, two)
