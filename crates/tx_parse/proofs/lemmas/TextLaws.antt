-- Bytes are read exactly where they are a sheet, or an inline text, in the grammar.
use Rattle.std.proofs.Common.{◌≡◌, ℕ, List, [], Option, Some, None, Ok, Err, refl, ap, ◌∙◌}
use Rattle.tx_lex.specs.Lexemes.{Lexeme}
use Rattle.tx_lex.specs.Lexing.{lexed}
use Rattle.tx_lex.specs.declared.token.Fault.{Fault}
use Rattle.tx_parse.specs.Grammar.{Body, Found}
use Rattle.tx_parse.specs.SheetReading.{Read, sheet_at, inline_at}
use Rattle.tx_parse.specs.Texts.{tokens_of, of_lexer, reported, judged, sheet_of, inline_of, IsSheetText, IsInlineText}
use Rattle.tx_parse.proofs.AgainBodies.{inline_again}
use Rattle.tx_parse.proofs.AgainSheets.{sheet_again}
use Rattle.tx_parse.proofs.FoundSheets.{sheet_found, inline_found}

-- what was judged good was read, and no byte is at fault
judged_good : {A : Type 0} (bytes : List ℕ) (fault : Option Fault) (read : Read A) (a : A) → judged bytes fault read ≡ Ok a → (fault ≡ None) × (rest : List Lexeme) × (read ≡ Ok (a, rest))
judged_good {A = A} bytes None (Ok found) a is = let same : found.0 ≡ a = cc in (refl, found.1, ap (λ x. Ok (x, found.1)) same)
judged_good bytes (Some fault) (Ok found) a is = absurd (let clash : Err (of_lexer fault) ≡ Ok a = is in cc)
judged_good bytes None (Err wrong) a is = absurd (let clash : Err (reported bytes None wrong) ≡ Ok a = is in cc)
judged_good bytes (Some fault) (Err wrong) a is = absurd (let clash : Err (reported bytes (Some fault) wrong) ≡ Ok a = is in cc)

good_judged : {A : Type 0} (bytes : List ℕ) (fault : Option Fault) (read : Read A) (a : A) → fault ≡ None → read ≡ Ok (a, []) → judged bytes fault read ≡ Ok a
good_judged bytes fault read a none is = ap (λ f. judged bytes f read) none ∙ ap (judged bytes None) is

pub sheet_text : (bytes : List ℕ) (found : Found) → sheet_of bytes ≡ Ok found → IsSheetText bytes found
unfolding sheet_of
sheet_text bytes found is =
    let good : ((lexed bytes).fault ≡ None) × (rest : List Lexeme) × (sheet_at (tokens_of bytes) ≡ Ok (found, rest)) = judged_good bytes (lexed bytes).fault (sheet_at (tokens_of bytes)) found is in
    record { sound = good.0; grammar = (sheet_found (tokens_of bytes) good.1 found good.2).0 }

pub text_sheet : (bytes : List ℕ) (found : Found) → IsSheetText bytes found → sheet_of bytes ≡ Ok found
unfolding sheet_of
text_sheet bytes found is = good_judged bytes (lexed bytes).fault (sheet_at (tokens_of bytes)) found is.sound (sheet_again (tokens_of bytes) found is.grammar)

pub inline_text : (bytes : List ℕ) (body : Body) → inline_of bytes ≡ Ok body → IsInlineText bytes body
unfolding inline_of
inline_text bytes body is =
    let good : ((lexed bytes).fault ≡ None) × (rest : List Lexeme) × (inline_at (tokens_of bytes) ≡ Ok (body, rest)) = judged_good bytes (lexed bytes).fault (inline_at (tokens_of bytes)) body is in
    record { sound = good.0; grammar = (inline_found (tokens_of bytes) good.1 body good.2).0 }

pub text_inline : (bytes : List ℕ) (body : Body) → IsInlineText bytes body → inline_of bytes ≡ Ok body
unfolding inline_of
text_inline bytes body is = good_judged bytes (lexed bytes).fault (inline_at (tokens_of bytes)) body is.sound (inline_again (tokens_of bytes) body is.grammar)
