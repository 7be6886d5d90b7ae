-- Reading the parts of a line. Each reader gives a value and the bytes after it, or nothing where the bytes are none
-- that may stand there.
use Rattle.std.specs.Prelude.{ℕ, zero, suc, ◌-◌, ◌==◌, ◌&&◌, Bool, true, false, not, nat_le, if◌then◌else◌, List, [], ◌∷◌, length, take, drop, Option, Some, None, option_map, option_and_then, find, codes, decimal, chars, bytes_eq}
use Rattle.std.specs.Str.{is_utf8}
use Rattle.tx_read.specs.Number.{number_at_most}
use Rattle.tx_read.specs.Pieces.{behind}
use Rattle.tx_tree.specs.Kind.{kind_named, fresh}
use Rattle.tx_text.specs.Name.{is_name}
use Rattle.tx_tree.specs.Spelled.{begins_capital, no_repeats, byte_is_spelled, key_is_spelled}
use Rattle.tx_tree.specs.declared.bind.Action.{Action}
use Rattle.tx_tree.specs.declared.bind.Action.TheVariants.{FocusNext, FocusPrevious, ToggleDark, ToggleClass, Scroll}
use Rattle.tx_tree.specs.declared.bind.Jump.TheVariants.{Up as JumpUp, Down as JumpDown, Home as JumpHome, End as JumpEnd, PageUp as JumpPageUp, PageDown as JumpPageDown}
use Rattle.tx_tree.specs.declared.bind.Key.{Key}
use Rattle.tx_tree.specs.declared.bind.Key.TheVariants.{Char, Enter, Escape, Tab, ShiftTab, Backspace, Delete, Up, Down, Left, Right, Home, End, PageUp, PageDown, Function, Ctrl}
use Rattle.tx_tree.specs.declared.kind.Kind.{Kind}
use Rattle.tx_tree.specs.declared.kind.Kind.TheVariants.{Handed}
use Rattle.tx_tree.specs.declared.kind.Private.{Private}
use Rattle.tx_tree.specs.declared.kind.Private.TheVariants.{Plain, Cursor, On, Chosen, Bar}
use Rattle.tx_tree_file.specs.Spelling.{key_name, action_name}

-- ---- words

-- the bytes up to the first blank
abbrev pub word : List ℕ → List ℕ
word [] = []
word (byte ∷ bytes) = if byte == 32 then [] else byte ∷ word bytes

-- the bytes from the first blank on
abbrev pub past_word : List ℕ → List ℕ
past_word [] = []
past_word (byte ∷ bytes) = if byte == 32 then byte ∷ bytes else past_word bytes

abbrev pub name_of : List ℕ → Option (List ℕ)
name_of bytes = if is_name bytes then Some bytes else None

-- whether these bytes come next, and what is left then
abbrev pub flag_by : Option (List ℕ) → List ℕ → Bool × List ℕ
flag_by None bytes = (false, bytes)
flag_by (Some rest) bytes = (true, rest)

abbrev pub flag : List ℕ → List ℕ → Bool × List ℕ
flag part bytes = flag_by (behind part bytes) bytes

-- ---- the parts of a row

-- the kind that a name handed in is
abbrev pub or_handed : List ℕ → Option Kind → Option Kind
or_handed name (Some kind) = Some kind
or_handed name None = if is_name name && begins_capital name then Some (Handed name) else None

abbrev pub kind_of : List ℕ → Option Kind
kind_of name = if is_utf8 name then or_handed name (kind_named name) else None

-- `#id`, where it stands there
abbrev pub id_by : Option (List ℕ) → List ℕ → Option (Option (List ℕ) × List ℕ)
id_by None bytes = Some (None, bytes)
id_by (Some rest) bytes = option_map (λ name. (Some name, past_word rest)) (name_of (word rest))

abbrev pub id_of : List ℕ → Option (Option (List ℕ) × List ℕ)
id_of bytes = id_by (behind (codes " #") bytes) bytes

-- `.class` as often as it stands there
abbrev pub class_by : Option (List ℕ) → List ℕ → (List ℕ → Option (List (List ℕ) × List ℕ)) → Option (List (List ℕ) × List ℕ)
class_by None bytes more = Some ([], bytes)
class_by (Some rest) bytes more =
    if is_name (word rest) then option_map (λ found. (word rest ∷ found.0, found.1)) (more (past_word rest)) else None

abbrev pub classes_within : ℕ → List ℕ → Option (List (List ℕ) × List ℕ)
classes_within zero bytes = Some ([], bytes)
classes_within (suc most) bytes = class_by (behind (codes " .") bytes) bytes (classes_within most)

-- without repeats
abbrev pub classes_of : List ℕ → Option (List (List ℕ) × List ℕ)
classes_of bytes =
    option_and_then (λ found. if no_repeats found.0 then Some found else None) (classes_within (length bytes) bytes)

-- a number from 1 to 1,000,000 as it is written, which isn't 100
abbrev pub is_total : List ℕ → ℕ → Bool
is_total digits n = bytes_eq (decimal n) digits && (nat_le 1 n && not (n == 100))

abbrev pub total_of : List ℕ → Option ℕ
total_of digits = option_and_then (λ n. if is_total digits n then Some n else None) (number_at_most 1000000 digits)

-- `total N`, where it stands there
abbrev pub bar_by : Option (List ℕ) → List ℕ → Option (Private × List ℕ)
bar_by None bytes = Some (Bar 0 100, bytes)
bar_by (Some rest) bytes = option_map (λ total. (Bar 0 total, past_word rest)) (total_of (word rest))

-- `on`, where it stands there
abbrev pub box_by : Bool × List ℕ → Option (Private × List ℕ)
box_by found = Some (On found.0, found.1)

-- by the state that a row begins with: `on` of a box and the total of a bar, and nothing else
abbrev pub private_by : Private → List ℕ → Option (Private × List ℕ)
private_by (On on) bytes = box_by (flag (codes " on") bytes)
private_by (Bar done total) bytes = bar_by (behind (codes " total ") bytes) bytes
private_by Plain bytes = Some (Plain, bytes)
private_by (Cursor place) bytes = Some (Plain, bytes)
private_by (Chosen line) bytes = Some (Plain, bytes)

abbrev pub private_of : Kind → List ℕ → Option (Private × List ℕ)
private_of kind bytes = private_by (fresh kind 0) bytes

-- what a byte after a backslash stands for
abbrev pub unescaped : ℕ → Option ℕ
unescaped byte = if byte == 34 then Some 34 else if byte == 92 then Some 92 else if byte == 110 then Some 10 else None

-- whether a byte stands for itself
abbrev pub is_plain : ℕ → Bool
is_plain byte = byte_is_spelled byte && not (byte == 10)

-- a byte, where there is one, before what is read then
abbrev pub put_front : Option ℕ → Option (List ℕ × List ℕ) → Option (List ℕ × List ℕ)
put_front None found = None
put_front (Some byte) found = option_map (λ f. (byte ∷ f.0, f.1)) found

-- The text up to the closing quote, and the bytes after that. The truth value says that a backslash stands before.
abbrev pub quoted : Bool → List ℕ → Option (List ℕ × List ℕ)
quoted escape [] = None
quoted true (byte ∷ bytes) = put_front (unescaped byte) (quoted false bytes)
quoted false (byte ∷ bytes) =
    if byte == 34 then Some ([], bytes)
    else if byte == 92 then quoted true bytes
    else if is_plain byte then put_front (Some byte) (quoted false bytes)
    else None

-- the bytes as a text, where they are UTF-8 and there are some
abbrev pub some_text : List ℕ → Option (List ℕ)
some_text text = if is_utf8 text && not (length text == 0) then Some text else None

abbrev pub text_by : Option (List ℕ) → List ℕ → Option (List ℕ × List ℕ)
text_by None bytes = Some ([], bytes)
text_by (Some rest) bytes =
    option_and_then (λ found. option_map (λ text. (text, found.1)) (some_text found.0)) (quoted false rest)

-- the text in quotes, where it stands there
abbrev pub text_of : List ℕ → Option (List ℕ × List ℕ)
text_of bytes = text_by (behind (codes " \"") bytes) bytes

-- what stands before a closing brace at the end
abbrev pub before_brace : List ℕ → Option (List ℕ)
before_brace bytes =
    if bytes_eq (drop (length bytes - 1) bytes) (codes "}") then Some (take (length bytes - 1) bytes) else None

-- the inline text in braces, where it stands there, and nothing else
abbrev pub inline_by : Option (List ℕ) → List ℕ → Option (List ℕ)
inline_by None bytes = if length bytes == 0 then Some [] else None
inline_by (Some rest) bytes = option_and_then some_text (before_brace rest)

abbrev pub inline_of : List ℕ → Option (List ℕ)
inline_of bytes = inline_by (behind (codes " {") bytes) bytes

-- ---- the parts of a binding

-- the keys that have a name of their own, without those of a number or a letter
abbrev pub named_keys : List Key
named_keys = Char 32 ∷ Enter ∷ Escape ∷ Tab ∷ ShiftTab ∷ Backspace ∷ Delete ∷ Up ∷ Down ∷ Left ∷ Right ∷ Home ∷ End ∷ PageUp ∷ PageDown ∷ []

-- the number of a function key, as it is written
abbrev pub function_by : List ℕ → ℕ → Option Key
function_by digits n = if bytes_eq (decimal n) digits && nat_le 1 n then Some (Function n) else None

-- `f1` to `f12`
abbrev pub function_of : Option (List ℕ) → Option Key
function_of None = None
function_of (Some digits) = option_and_then (function_by digits) (number_at_most 12 digits)

-- `ctrl+a` to `ctrl+z`
abbrev pub control_of : Option (List ℕ) → Option Key
control_of (Some (letter ∷ [])) = if nat_le 97 letter && nat_le letter 122 then Some (Ctrl letter) else None
control_of letters = None

-- the first key of two that there is
abbrev pub or_key : Option Key → Option Key → Option Key
or_key (Some key) other = Some key
or_key None other = other

-- a name of more than one character
abbrev pub long_key : List ℕ → Option Key
long_key name =
    or_key (find (λ key. bytes_eq name (key_name key)) named_keys)
    (or_key (function_of (behind (codes "f") name)) (control_of (behind (codes "ctrl+") name)))

-- the character, where there is only one
abbrev pub only_char : List ℕ → Option ℕ
only_char (c ∷ []) = Some c
only_char cs = None

-- a character that is a key, but for the blank
abbrev pub char_key : ℕ → Option Key
char_key c = if key_is_spelled (Char c) && not (c == 32) then Some (Char c) else None

abbrev pub key_by : List ℕ → Option ℕ → Option Key
key_by name (Some c) = char_key c
key_by name None = long_key name

abbrev pub key_of : List ℕ → Option Key
key_of name = if is_utf8 name then key_by name (only_char (chars name)) else None

-- the actions without a class
abbrev pub named_actions : List Action
named_actions = FocusNext ∷ FocusPrevious ∷ ToggleDark ∷ Scroll JumpUp ∷ Scroll JumpDown ∷ Scroll JumpHome ∷ Scroll JumpEnd ∷ Scroll JumpPageUp ∷ Scroll JumpPageDown ∷ []

abbrev pub or_toggle : List ℕ → Option Action → Option Action
or_toggle name (Some action) = Some action
or_toggle name None = option_and_then (λ class. option_map ToggleClass (name_of class)) (behind (codes "toggle_class ") name)

abbrev pub action_of : List ℕ → Option Action
action_of name = if is_utf8 name then or_toggle name (find (λ action. bytes_eq name (action_name action)) named_actions) else None
