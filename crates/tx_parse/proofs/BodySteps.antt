-- The steps of reading declarations one behind another.
use Rattle.std.proofs.Common.{◌≡◌, ℕ, zero, suc, ◌-◌, ◌≤◌, ◌<◌, Bool, false, cond, List, length, drop, Ok, refl, ap, sym, ◌∙◌, arith}
use Rattle.std.proofs.lemmas.List.{length-map, length-drop}
use Rattle.tx_lex.specs.Lexemes.{Lexeme, lexeme, lexemes_from}
use Rattle.tx_lex.specs.declared.token.Token.{Token}
use Rattle.tx_read.specs.Reading.{in_turn}
use Rattle.tx_parse.specs.Grammar.{Body, nothing}
use Rattle.tx_lex.specs.Blanks.{past_blanks}
use Rattle.tx_parse.specs.SheetReading.{ends_body, past_end, item_at, next_in_body, body_from, body_at}
use Rattle.tx_parse.specs.Variables.{Defined}
use Rattle.tx_parse.proofs.Turns.{turn_ok}

-- how many tokens there are from a number on
pub length_from : (text : List ℕ) (tokens : List Token) (at : ℕ) → length (lexemes_from text tokens at) ≡ length tokens - at
length_from text tokens at = length-map (drop at tokens) (lexeme text) ∙ length-drop at tokens

-- a number above another is one more than a third
pub above : (most less : ℕ) → less < most → (n : ℕ) × (most ≡ suc n)
above zero less is = absurd (omega (arith, is))
above (suc n) less is = (n, refl)

-- The declarations so far, and those from here on, are the declarations in all. So many tokens are left at most.
pub record BodySoFar (inline : Bool) (defined : Defined) (found : Body) (here start : List Lexeme) (left : ℕ) : Type 0 where
  pub most : ℕ
  pub enough : left ≤ most
  pub same : next_in_body (body_from most inline defined) inline defined found here ≡ body_at inline defined start

pub body_init : (inline : Bool) (defined : Defined) (text : List ℕ) (tokens : List Token) (found : Body) (at behind : ℕ)
    → found ≡ nothing → lexemes_from text tokens behind ≡ past_blanks (lexemes_from text tokens at) → at ≤ behind
    → BodySoFar inline defined found (lexemes_from text tokens behind) (lexemes_from text tokens at) (length tokens - behind)
unfolding body_at body_from
body_init inline defined text tokens found at behind none past within = record {
  most = length (lexemes_from text tokens at);
  enough = let long : length (lexemes_from text tokens at) ≡ length tokens - at = length_from text tokens at in omega (arith, long, within);
  same = ap (λ f. next_in_body (body_from (length (lexemes_from text tokens at)) inline defined) inline defined f (lexemes_from text tokens behind)) none
      ∙ ap (next_in_body (body_from (length (lexemes_from text tokens at)) inline defined) inline defined nothing) past;
}

-- where the body doesn't end, an item comes
goes_on : (inline : Bool) (defined : Defined) (found : Body) (here : List Lexeme) (most : ℕ) → ends_body inline here ≡ false
    → next_in_body (body_from most inline defined) inline defined found here ≡ in_turn (item_at inline defined found) (body_from most inline defined) here
goes_on inline defined found here most ends =
    ap (λ b. cond b (Ok (found, past_end inline here)) (in_turn (item_at inline defined found) (body_from most inline defined) here)) ends

one_more : (most : ℕ) (inline : Bool) (defined : Defined) (found : Body) (ts next : List Lexeme) → next ≡ past_blanks ts
    → body_from (suc most) inline defined found ts ≡ next_in_body (body_from most inline defined) inline defined found next
unfolding body_from
one_more most inline defined found ts next past = ap (next_in_body (body_from most inline defined) inline defined found) (sym past)

pub body_next : (inline : Bool) (defined : Defined) (found more : Body) (here start rest next : List Lexeme) (left less : ℕ) → BodySoFar inline defined found here start left
    → ends_body inline here ≡ false → item_at inline defined found here ≡ Ok (more, rest) → next ≡ past_blanks rest → less < left → BodySoFar inline defined more next start less
body_next inline defined found more here start rest next left less so_far ends item past fewer =
    let n : (n : ℕ) × (so_far.most ≡ suc n) = above so_far.most less (omega (arith, fewer, so_far.enough)) in
    record {
      most = n.0;
      enough = omega (arith, fewer, so_far.enough, n.1);
      same = sym (one_more n.0 inline defined more rest next past)
          ∙ ap (λ m. body_from m inline defined more rest) (sym n.1)
          ∙ sym (turn_ok (item_at inline defined found) (body_from so_far.most inline defined) here rest more item)
          ∙ sym (goes_on inline defined found here so_far.most ends) ∙ so_far.same;
    }
