-- Sheets and inline texts as bytes.
use Rattle.std.specs.Prelude.{◌≡◌, ℕ, List, [], ◌∷◌, ◌++◌, length, Option, Some, None, Result, Ok, Err, unwrap_or}
use Rattle.tx_lex.specs.Lexing.{lexed}
use Rattle.tx_lex.specs.Lexemes.{Lexeme, lexemes}
use Rattle.tx_lex.specs.declared.token.Fault.{Fault}
use Rattle.tx_lex.specs.declared.token.LexKind.{LexKind}
use Rattle.tx_lex.specs.declared.token.LexKind.TheVariants as lex
use Rattle.tx_lex.specs.declared.token.Scanned.{Scanned}
use Rattle.tx_lex.specs.declared.token.Token.{Token}
use Rattle.tx_parse.specs.Grammar.{Body, Found, IsSheet, IsBody}
use Rattle.tx_parse.specs.declared.fault.Wrong.{Wrong}
use Rattle.tx_parse.specs.SheetReading.{Read, sheet_at, inline_at}
use Rattle.tx_parse.specs.Places.{line_of, column_of}
use Rattle.tx_parse.specs.declared.fault.SheetKind.{SheetKind}
use Rattle.tx_parse.specs.declared.fault.SheetKind.TheVariants.{Unclosed, BadByte, NumberTooLong}
use Rattle.tx_parse.specs.declared.fault.SheetFault.{SheetFault}
use Rattle.tx_parse.specs.declared.fault.SheetFault.TheVariants.{Text, NoMemory}

-- ---- the tokens of bytes

-- the comment in which the tokens end, if they do: its first byte comes before the fault in it
abbrev pub last_comment : Option Fault → List Token
last_comment None = []
last_comment (Some fault) = comment_of fault.comment
  where
    comment_of : Option Token → List Token
    comment_of None = []
    comment_of (Some token) = token ∷ []

-- the tokens up to the first byte that is at fault
abbrev pub tokens_in : Scanned → List Token
tokens_in scanned = scanned.tokens ++ last_comment scanned.fault

abbrev pub tokens_of : List ℕ → List Lexeme
tokens_of bytes = lexemes bytes (tokens_in (lexed bytes))

-- ---- faults

-- what is wrong in the bytes, and the offset of the byte that is told
abbrev pub Report : Type 0
Report = SheetKind × ℕ

abbrev pub kind_of : LexKind → SheetKind
kind_of lex.Unclosed = Unclosed
kind_of lex.BadByte = BadByte
kind_of lex.NumberTooLong = NumberTooLong

abbrev pub of_lexer : Fault → Report
of_lexer fault = (kind_of fault.kind, fault.place)

-- a fault that is met where the tokens run out: the byte at fault, where there is one
abbrev pub at_end : List ℕ → Option Fault → Wrong → Report
at_end bytes None wrong = (wrong.kind, unwrap_or wrong.place (length bytes))
at_end bytes (Some fault) wrong = of_lexer fault

abbrev pub reported : List ℕ → Option Fault → Wrong × List Lexeme → Report
reported bytes fault (wrong, []) = at_end bytes fault wrong
reported bytes fault (wrong, t ∷ ts) = (wrong.kind, unwrap_or wrong.place t.place)

-- what is read of bytes: all tokens are read, and then no byte is at fault
abbrev pub judged : {A : Type 0} → List ℕ → Option Fault → Read A → Result A Report
judged bytes None (Ok found) = Ok found.0
judged bytes (Some fault) (Ok found) = Err (of_lexer fault)
judged bytes fault (Err wrong) = Err (reported bytes fault wrong)

-- a fault with its line and its column
abbrev pub fault_at : List ℕ → Report → SheetFault
fault_at bytes report = Text (line_of bytes report.1) (column_of bytes report.1) report.0

-- what was read, seen so, or the fault with its line and its column
abbrev pub located : {A B : Type 0} → (A → B) → List ℕ → Result A Report → Result B SheetFault
located view bytes (Ok found) = Ok (view found)
located view bytes (Err report) = Err (fault_at bytes report)

-- what such a fault tells: out of memory tells nothing
abbrev pub told : SheetFault → Option SheetFault
told (Text line column kind) = Some (Text line column kind)
told NoMemory = None

-- ---- the readings

unfoldable pub sheet_of : List ℕ → Result Found Report
sheet_of bytes = judged bytes (lexed bytes).fault (sheet_at (tokens_of bytes))

unfoldable pub inline_of : List ℕ → Result Body Report
inline_of bytes = judged bytes (lexed bytes).fault (inline_at (tokens_of bytes))

-- the bytes are such a sheet, such an inline text
pub record IsSheetText (bytes : List ℕ) (found : Found) : Type 0 where
  pub sound : (lexed bytes).fault ≡ None
  pub grammar : IsSheet (tokens_of bytes) found

pub record IsInlineText (bytes : List ℕ) (body : Body) : Type 0 where
  pub sound : (lexed bytes).fault ≡ None
  pub grammar : IsBody [] (tokens_of bytes) body
