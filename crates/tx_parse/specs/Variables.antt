-- Variables, and the tokens that values stand for.
use Rattle.std.specs.Prelude.{ℕ, Bool, ◌||◌, List, [], ◌∷◌, ◌++◌, drop, Option, Some, None, is_some, if◌then◌else◌}
use Rattle.std.specs.Map.{lookup}
use Rattle.std.specs.Str.{bytes_eq}
use Rattle.indexmap.specs.IndexMap.{insert_entry}
use Rattle.tx_lex.specs.Lexemes.{Lexeme, is_name_token, is_hash, is_variable, is_number, is_mark}
use Rattle.tx_lex.specs.declared.token.TokenKind.{TokenKind}
use Rattle.tx_text.specs.Name.{is_name}
use Rattle.tx_value.specs.Theme.{theme_name_of}

-- a token that values may have: a name, a hash, a number, a variable, `,`, `(` or `)`
abbrev pub is_value : TokenKind → Bool
is_value kind = is_name_token kind || (is_hash kind || (is_number kind || (is_variable kind || (is_mark 44 kind || (is_mark 40 kind || is_mark 41 kind)))))

-- ---- what is defined

-- the variables that a sheet has defined so far, each by its latest definition: the name, and the tokens that it stands for
abbrev pub Defined : Type 0
Defined = List (List ℕ × List Lexeme)

-- what the latest definition says
abbrev pub latest : {V : Type 0} → List ℕ → List (List ℕ × V) → Option V
latest name entries = lookup (bytes_eq name) entries

-- a variable defined, or defined anew
abbrev pub with_definition : List ℕ → List Lexeme → Defined → Defined
with_definition name stand defined = insert_entry bytes_eq defined name stand

-- ---- what tokens stand for

-- a variable of the theme stands for itself
abbrev pub or_of_theme : Lexeme → Option (List Lexeme) → Option (List Lexeme)
or_of_theme t (Some stand) = Some stand
or_of_theme t None = if is_some (theme_name_of (drop 1 t.bytes)) then Some (t ∷ []) else None

-- a variable, whose name has at most 64 bytes, stands for the tokens of its latest definition
abbrev pub variable_stands_for : Defined → Lexeme → Option (List Lexeme)
variable_stands_for defined t = if is_name (drop 1 t.bytes) then or_of_theme t (latest (drop 1 t.bytes) defined) else None

-- What a token of values stands for: a variable for its definition, any other token for itself.
unfoldable pub stands_for : Defined → Lexeme → Option (List Lexeme)
stands_for defined t = if is_variable t.kind then variable_stands_for defined t else Some (t ∷ [])

abbrev pub both : Option (List Lexeme) → Option (List Lexeme) → Option (List Lexeme)
both (Some front) (Some rest) = Some (front ++ rest)
both (Some front) None = None
both None rest = None

-- what tokens stand for one after another, where each stands for something
abbrev pub stand_for : Defined → List Lexeme → Option (List Lexeme)
stand_for defined [] = Some []
stand_for defined (t ∷ ts) = both (stands_for defined t) (stand_for defined ts)
