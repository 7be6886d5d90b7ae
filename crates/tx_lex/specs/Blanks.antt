-- Spaces and comments among tokens.
use Rattle.std.specs.Prelude.{List, [], ◌∷◌, not, filter, if◌then◌else◌}
use Rattle.tx_lex.specs.Lexemes.{Lexeme, is_blank}

-- what is after spaces and comments
abbrev pub past_blanks : List Lexeme → List Lexeme
past_blanks [] = []
past_blanks (t ∷ ts) = if is_blank t.kind then past_blanks ts else t ∷ ts

-- spaces and comments left out
abbrev pub without_blanks : List Lexeme → List Lexeme
without_blanks ts = filter (λ t. not (is_blank t.kind)) ts
