-- How a line of a script is read from the left.
use Rattle.std.specs.Prelude.{ℕ, Bool, true, false, ◌==◌, not, nat_le, nat_lt, List, [], ◌∷◌, length, Option, Some, None, Result, Ok, Err, codes, bytes_eq, option_and_then, if◌then◌else◌}
use Rattle.std.specs.List.{list_all}
use Rattle.std.specs.Str.{is_utf8}
use Rattle.tx_read.specs.Answer.{or_refused}
use Rattle.tx_read.specs.Number.{number_at_most}
use Rattle.tx_read.specs.Pieces.{behind}
use Rattle.tx_read.specs.Reading.{Reader, ◌>>=◌, in_turn}
use Rattle.tx_text.specs.Name.{is_name}
use Rattle.tx_tree.specs.Spelled.{no_line_feed}
use Rattle.tx_tree.specs.declared.bind.Key.{Key}
use Rattle.tx_tree.specs.declared.row.NewRow.{NewRow}
use Rattle.tx_tree_file.specs.Parts.{word, past_word, quoted, before_brace, key_of}
use Rattle.tx_tree_file.specs.TreeReading.{row_of, is_empty}
use Rattle.tx_select.specs.SelectorValue.{SelectorValue}
use Rattle.tx_select.specs.Texts.{selector_of}
use Rattle.tx_parse.specs.Grammar.{Body}
use Rattle.tx_parse.specs.Texts.{Report, inline_of}
use Rattle.tx_route.specs.declared.input.Input.{Input}
use Rattle.tx_route.specs.declared.input.Input.TheVariants as input
use Rattle.tx_pilot.specs.declared.fault.LineFault.{LineFault}
use Rattle.tx_pilot.specs.declared.fault.LineFault.TheVariants.{Line, NoMemory}
use Rattle.tx_pilot.specs.declared.fault.LineKind.{LineKind}
use Rattle.tx_pilot.specs.declared.fault.LineKind.TheVariants.{TooLong, BadByte, Expected, BadKey, BadNumber, BadSelector, BadInline}
use Rattle.tx_pilot.specs.declared.verb.Verb.{Verb}
use Rattle.tx_pilot.specs.declared.verb.Verb.TheVariants.{Press, Click, Hover, Pause, Resize, Class, Text, Style, Disable, Enable, Mount, Remove, Before, Advance, Theme}
use Rattle.tx_pilot.specs.Lines.{is_quote_next}
use Rattle.tx_pilot.specs.Verbs.{verb_of}

-- a value and the bytes after it, or the kind of the fault that is met
abbrev pub Reads : Type 0 → Type 0
Reads A = Reader (List ℕ) LineKind A

-- what takes all bytes that are left
abbrev pub Takes : Type 0 → Type 0
Takes A = List ℕ → Result A LineKind

-- ---- single words, each after one blank

-- the bytes after the blank
abbrev pub spaced : Takes (List ℕ)
spaced bytes = or_refused Expected (behind (codes " ") bytes)

abbrev pub some_word : Reads (List ℕ)
some_word bytes = if is_empty (word bytes) then Err Expected else Ok (word bytes, past_word bytes)

-- a word of one byte or more, and what stands after it
abbrev pub word_at : Reads (List ℕ)
word_at bytes = spaced bytes >>= some_word

-- this, read of a word before these bytes
abbrev pub with_rest : {A : Type 0} → LineKind → Option A → Reads A
with_rest kind read rest = or_refused kind read >>= (λ a. Ok (a, rest))

unfoldable pub key_at : Reads Key
key_at bytes = in_turn word_at (λ name. with_rest BadKey (key_of name)) bytes

abbrev pub at_least : ℕ → ℕ → Option ℕ
at_least least n = if nat_le least n then Some n else None

-- a number of a range
abbrev pub number_in : ℕ → ℕ → List ℕ → Option ℕ
number_in least most digits = option_and_then (at_least least) (number_at_most most digits)

unfoldable pub number_at : ℕ → ℕ → Reads ℕ
number_at least most bytes = in_turn word_at (λ digits. with_rest BadNumber (number_in least most digits)) bytes

-- a text in quotes
abbrev pub utf8_of : List ℕ × List ℕ → Option (List ℕ × List ℕ)
utf8_of found = if is_utf8 found.0 then Some found else None

abbrev pub string_of : Option (List ℕ) → Option (List ℕ × List ℕ)
string_of rest = option_and_then utf8_of (option_and_then (quoted false) rest)

unfoldable pub string_at : Reads (List ℕ)
string_at bytes = or_refused Expected (string_of (behind (codes " \"") bytes))

-- a text in quotes that is a selector
abbrev pub selector_or : Result SelectorValue ℕ → Result SelectorValue LineKind
selector_or (Ok selector) = Ok selector
selector_or (Err place) = Err BadSelector

unfoldable pub target_at : Reads SelectorValue
target_at bytes = in_turn string_at (λ text rest. selector_or (selector_of text) >>= (λ selector. Ok (selector, rest))) bytes

-- ---- what stands at the end of a line

-- nothing
abbrev pub ended : {A : Type 0} → A → Takes A
ended a bytes = if is_empty bytes then Ok a else Err Expected

abbrev pub last : {A : Type 0} → Reads A → Takes A
last reader bytes = reader bytes >>= (λ found. ended found.0 found.1)

-- a name with a mark before it
abbrev pub marked : {A : Type 0} → (List ℕ → A) → List ℕ → Result A LineKind
marked make name = if is_name name then Ok (make name) else Err Expected

-- the class that comes or goes
abbrev pub class_of : SelectorValue → List ℕ → Result Input LineKind
class_of target [] = Err Expected
class_of target (mark ∷ name) =
    if mark == 43 then marked (input.AddClass target) name
    else if mark == 45 then marked (input.RemoveClass target) name
    else Err Expected

-- whether this is read as declarations
abbrev pub is_body : Result Body Report → Bool
is_body (Ok body) = true
is_body (Err report) = false

abbrev pub are_declarations : List ℕ → Bool
are_declarations text = if is_utf8 text then is_body (inline_of text) else false

abbrev pub inline_or : List ℕ → Result (List ℕ) LineKind
inline_or text = if are_declarations text then Ok text else Err BadInline

-- a text in braces
unfoldable pub last_inline : Takes (List ℕ)
last_inline bytes = or_refused Expected (option_and_then before_brace (behind (codes " {") bytes)) >>= inline_or

-- a row
abbrev pub row_or : NewRow → Result NewRow LineKind
row_or row = if are_declarations row.inline then Ok row else Err BadInline

unfoldable pub last_row : Takes NewRow
last_row bytes = spaced bytes >>= (λ rest. or_refused Expected (row_of rest)) >>= row_or

-- dark or light
abbrev pub last_theme : Takes Bool
last_theme bytes =
    if bytes_eq bytes (codes " dark") then Ok true
    else if bytes_eq bytes (codes " light") then Ok false
    else Err Expected

-- ---- the words after the first one

abbrev pub two_numbers : ℕ → ℕ → ℕ → ℕ → Takes (ℕ × ℕ)
two_numbers least most low high bytes =
    number_at least most bytes >>= (λ first. last (number_at low high) first.1 >>= (λ second. Ok (first.0, second)))

-- a place of the screen, or a target
abbrev pub point : (ℕ → ℕ → Input) → (SelectorValue → Input) → Takes Input
point at on bytes =
    if is_quote_next bytes then last target_at bytes >>= (λ target. Ok (on target))
    else two_numbers 0 9999 0 9999 bytes >>= (λ place. Ok (at place.0 place.1))

-- a target, and all that is left
abbrev pub with_target : {A : Type 0} → Takes A → Takes (SelectorValue × A)
with_target more bytes = target_at bytes >>= (λ target. more target.1 >>= (λ a. Ok (target.0, a)))

abbrev pub input_behind : Verb → Takes Input
input_behind Press bytes = last key_at bytes >>= (λ key. Ok (input.Press key))
input_behind Click bytes = point input.ClickAt input.Click bytes
input_behind Hover bytes = point input.HoverAt input.Hover bytes
input_behind Pause bytes = ended input.Pause bytes
input_behind Resize bytes = two_numbers 1 1024 1 512 bytes >>= (λ size. Ok (input.Resize (record { width = size.0; height = size.1 })))
input_behind Class bytes = target_at bytes >>= (λ target. spaced target.1 >>= class_of target.0)
input_behind Text bytes = with_target (last string_at) bytes >>= (λ found. Ok (input.SetText found.0 found.1))
input_behind Style bytes = with_target last_inline bytes >>= (λ found. Ok (input.SetInline found.0 found.1))
input_behind Disable bytes = last target_at bytes >>= (λ target. Ok (input.Disable target))
input_behind Enable bytes = last target_at bytes >>= (λ target. Ok (input.Enable target))
input_behind Mount bytes = with_target last_row bytes >>= (λ found. Ok (input.Mount found.0 found.1))
input_behind Remove bytes = last target_at bytes >>= (λ target. Ok (input.Remove target))
input_behind Before bytes = with_target (last target_at) bytes >>= (λ found. Ok (input.Before found.0 found.1))
input_behind Advance bytes = with_target (last (number_at 0 1000000)) bytes >>= (λ found. Ok (input.Advance found.0 found.1))
input_behind Theme bytes = last_theme bytes >>= (λ dark. Ok (input.Theme dark))

-- ---- a whole line

abbrev pub input_by : Option Verb → Takes Input
input_by None bytes = Err Expected
input_by (Some verb) bytes = input_behind verb bytes

-- the input of bytes without a line feed
unfoldable pub input_of : Takes Input
input_of line = input_by (verb_of (word line)) (past_word line)

abbrev pub some_input : Result Input LineKind → Result (Option Input) LineKind
some_input read = read >>= (λ input. Ok (Some input))

-- The input of a line, none of an empty one, or the first rule that the line breaks.
unfoldable pub line_of : Takes (Option Input)
line_of line =
    if nat_lt 65536 (length line) then Err TooLong
    else if not (is_utf8 line) then Err BadByte
    else if not (list_all no_line_feed line) then Err Expected
    else if is_empty line then Ok None
    else some_input (input_of line)

-- what a fault tells: its kind
abbrev pub told : LineFault → Option LineKind
told (Line kind) = Some kind
told NoMemory = None
