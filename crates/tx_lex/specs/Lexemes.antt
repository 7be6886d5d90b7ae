-- Tokens as readers of grammars see them: each with its bytes and its place.
use Rattle.std.specs.Prelude.{◌≡◌, ◌<◌, ℕ, ◌+◌, ◌-◌, Bool, true, false, nat_eq, List, [], ◌∷◌, length, take, drop, map, Option, Some, None}
use Rattle.tx_lex.specs.declared.token.Token.{Token}
use Rattle.tx_lex.specs.declared.token.TokenKind.{TokenKind}
use Rattle.tx_lex.specs.declared.token.TokenKind.TheVariants.{Space, Comment, Name, Hash, Variable, Number, Mark}

pub record Lexeme : Type 0 where
  pub kind : TokenKind
  pub bytes : List ℕ
  pub place : ℕ

-- the bytes of a token of a text
abbrev pub token_bytes : List ℕ → Token → List ℕ
token_bytes text token = take (token.to - token.from) (drop token.from text)

abbrev pub lexeme : List ℕ → Token → Lexeme
lexeme text token = record { kind = token.kind; bytes = token_bytes text token; place = token.from }

abbrev pub lexemes : List ℕ → List Token → List Lexeme
lexemes text tokens = map (lexeme text) tokens

-- those from a number on
abbrev pub lexemes_from : List ℕ → List Token → ℕ → List Lexeme
lexemes_from text tokens at = lexemes text (drop at tokens)

-- the token of a number, where there is one
abbrev pub IsNth : List Token → ℕ → Option Token → Type 0
IsNth tokens at (Some token) = (drop at tokens ≡ token ∷ drop (at + 1) tokens) × (at < length tokens)
IsNth tokens at None = drop at tokens ≡ []

-- ---- kinds

abbrev pub is_space : TokenKind → Bool
is_space Space = true
is_space _ = false

-- a space or a comment
abbrev pub is_blank : TokenKind → Bool
is_blank Space = true
is_blank Comment = true
is_blank _ = false

abbrev pub is_name_token : TokenKind → Bool
is_name_token Name = true
is_name_token _ = false

abbrev pub is_hash : TokenKind → Bool
is_hash Hash = true
is_hash _ = false

abbrev pub is_variable : TokenKind → Bool
is_variable Variable = true
is_variable _ = false

abbrev pub is_number : TokenKind → Bool
is_number Number = true
is_number _ = false

-- this mark
abbrev pub is_mark : ℕ → TokenKind → Bool
is_mark byte (Mark mark) = nat_eq mark byte
is_mark byte _ = false

-- whether the first one passes a test
abbrev pub first_is : (TokenKind → Bool) → List Lexeme → Bool
first_is test [] = false
first_is test (t ∷ ts) = test t.kind
