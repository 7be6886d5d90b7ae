-- Which tokens a selector has, and where.
use Rattle.std.specs.Prelude.{Bool, ◌||◌}
use Rattle.tx_lex.specs.Lexemes.{is_blank, is_name_token, is_hash, is_mark}
use Rattle.tx_lex.specs.declared.token.TokenKind.{TokenKind}

-- `#`, or `.` or `:`
abbrev pub begins_part : TokenKind → Bool
begins_part kind = is_hash kind || is_mark 46 kind || is_mark 58 kind

-- a name, `*`, or what begins a part
abbrev pub begins_compound : TokenKind → Bool
begins_compound kind = is_name_token kind || is_mark 42 kind || begins_part kind

-- `>`
abbrev pub is_child_mark : TokenKind → Bool
is_child_mark kind = is_mark 62 kind

-- what may stand after a compound, or after a part of it, so that the selector goes on
abbrev pub goes_on : TokenKind → Bool
goes_on kind = is_blank kind || is_child_mark kind || begins_compound kind
