-- Names and keywords, each found in its table.
use Rattle.std.specs.Prelude.{ℕ, Bool, false, List, [], ◌∷◌, Option, Some, None, bytes_eq, is_some, if◌then◌else◌}
use Rattle.std.specs.List.{list_any}
use Rattle.tx_read.specs.Words.{entry}
use Rattle.tx_lex.specs.Lexemes.{Lexeme, is_name_token}
use Rattle.tx_value.specs.Tables.{names, keywords}
use denote.Enum.Bare.{sameb}
use Rattle.tx_value.specs.contracts.value.Word.{the_type}
use Rattle.tx_value.specs.declared.value.Word.{Word}
use Rattle.tx_value.specs.declared.property.Named.{Named}

-- what a table has at a name, where there is a table
abbrev pub entry_in : {A : Type 0} → Option (List (List ℕ × A)) → List ℕ → Option A
entry_in None name = None
entry_in (Some table) name = entry table name

-- what a lexeme that is a name stands for
abbrev pub name_in : {A : Type 0} → (List ℕ → Option A) → Lexeme → Option A
name_in meaning t = if is_name_token t.kind then meaning t.bytes else None

-- whether a lexeme is this name
abbrev pub is_word : List ℕ → Lexeme → Bool
is_word word t = if is_name_token t.kind then bytes_eq t.bytes word else false

-- whether this name is the only lexeme
abbrev pub is_only : List ℕ → List Lexeme → Bool
is_only word [] = false
is_only word (t ∷ []) = is_word word t
is_only word (t ∷ t' ∷ ts) = false

-- ---- keywords

abbrev pub same_word : Word → Word → Bool
same_word a b = sameb the_type a b

-- whether a keyword is one of these
abbrev pub among : List Word → Word → Bool
among choices word = list_any (same_word word) choices

abbrev pub if_among : List Word → Option Word → Option Word
if_among choices None = None
if_among choices (Some word) = if among choices word then Some word else None

-- the keyword of a name
unfoldable pub keyword : List ℕ → Option Word
keyword name = entry keywords name

-- a keyword, where it is one of these
abbrev pub word_of : List Word → Lexeme → Option Word
word_of choices t = if_among choices (name_in keyword t)

-- ---- names of declarations

-- all of them
unfoldable pub all_names : List (List ℕ × Named)
all_names = names

-- what a name of a declaration stands for
abbrev pub meaning_of : List ℕ → Option Named
meaning_of name = entry all_names name

-- whether a name is that of a declaration
abbrev pub is_known : List ℕ → Bool
is_known name = is_some (meaning_of name)
