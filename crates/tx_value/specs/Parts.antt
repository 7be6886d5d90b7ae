-- Tokens that are no spaces and no comments.
use Rattle.std.specs.Prelude.{Bool, not, List, filter}
use Rattle.tx_lex.specs.Lexemes.{is_blank}
use Rattle.tx_lex.specs.declared.token.Token.{Token}

abbrev pub is_part : Token → Bool
is_part token = not (is_blank token.kind)

abbrev pub parts_of : List Token → List Token
parts_of tokens = filter is_part tokens
