-- Spaces and comments are left out of tokens as of lexemes.
use Rattle.std.proofs.Common.{◌≡◌, ℕ, Bool, true, false, not, List, [], ◌∷◌, cond, refl, ap, ◌∙◌}
use Rattle.std.proofs.lemmas.Bool.{and_parts}
use Rattle.std.specs.List.{list_all}
use Rattle.tx_lex.specs.Blanks.{without_blanks}
use Rattle.tx_lex.specs.Lexemes.{lexeme, lexemes, is_blank}
use Rattle.tx_lex.specs.declared.token.Token.{Token}
use Rattle.tx_value.specs.Parts.{is_part, parts_of}

one_lexeme : (text : List ℕ) (t : Token) (ts : List Token) (b : Bool) → without_blanks (lexemes text ts) ≡ lexemes text (parts_of ts)
    → cond b (lexeme text t ∷ without_blanks (lexemes text ts)) (without_blanks (lexemes text ts)) ≡ lexemes text (cond b (t ∷ parts_of ts) (parts_of ts))
one_lexeme text t ts true rest = ap (λ xs. lexeme text t ∷ xs) rest
one_lexeme text t ts false rest = rest

pub left_out : (text : List ℕ) (tokens : List Token) → without_blanks (lexemes text tokens) ≡ lexemes text (parts_of tokens)
left_out text [] = refl
left_out text (t ∷ tokens) = one_lexeme text t tokens (not (is_blank t.kind)) (left_out text tokens)

-- nothing is left out where all are parts
all_parts : (tokens : List Token) → list_all is_part tokens ≡ true → parts_of tokens ≡ tokens
all_parts [] all = refl
all_parts (t ∷ tokens) all =
    let both = and_parts (is_part t) _ all in
    rw both.0 (ap (λ xs. t ∷ xs) (all_parts tokens both.1))

pub none_left_out : (text : List ℕ) (tokens : List Token) → list_all is_part tokens ≡ true → without_blanks (lexemes text tokens) ≡ lexemes text tokens
none_left_out text tokens all = left_out text tokens ∙ ap (lexemes text) (all_parts tokens all)
