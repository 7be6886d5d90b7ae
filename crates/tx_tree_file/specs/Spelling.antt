-- How a tree is written in a tree file. There is one spelling for each tree.
use Rattle.std.specs.Prelude.{ℕ, ◌+◌, ◌*◌, ◌==◌, Bool, true, false, List, [], ◌∷◌, ◌++◌, flat_map, replicate, Option, Some, None, if◌then◌else◌, codes, decimal, encode_utf8}
use Rattle.tx_tree.specs.Kind.{kind_name}
use Rattle.tx_tree.specs.declared.bind.Action.{Action}
use Rattle.tx_tree.specs.declared.bind.Action.TheVariants.{FocusNext, FocusPrevious, ToggleDark, ToggleClass, Scroll}
use Rattle.tx_tree.specs.declared.bind.Bind.{Bind}
use Rattle.tx_tree.specs.declared.bind.Jump.{Jump}
use Rattle.tx_tree.specs.declared.bind.Jump.TheVariants.{Up as JumpUp, Down as JumpDown, Home as JumpHome, End as JumpEnd, PageUp as JumpPageUp, PageDown as JumpPageDown}
use Rattle.tx_tree.specs.declared.bind.Key.{Key}
use Rattle.tx_tree.specs.declared.bind.Key.TheVariants.{Char, Enter, Escape, Tab, ShiftTab, Backspace, Delete, Up, Down, Left, Right, Home, End, PageUp, PageDown, Function, Ctrl}
use Rattle.tx_tree.specs.declared.kind.Private.{Private}
use Rattle.tx_tree.specs.declared.kind.Private.TheVariants.{Plain, Cursor, On, Chosen, Bar}
use Rattle.tx_tree.specs.declared.row.Row.{Row}

-- two blanks for each depth
abbrev pub indent : ℕ → List ℕ
indent depth = replicate (2 * depth) 32

-- ---- the parts of a row, each after one blank

-- `#` and the id
abbrev pub id_part : Option (List ℕ) → List ℕ
id_part None = []
id_part (Some id) = codes " #" ++ id

-- `.` and the class, for each class
abbrev pub class_part : List ℕ → List ℕ
class_part class = codes " ." ++ class

abbrev pub class_parts : List (List ℕ) → List ℕ
class_parts classes = flat_map class_part classes

abbrev pub disabled_part : Bool → List ℕ
disabled_part true = codes " disabled"
disabled_part false = []

-- `on` of a Checkbox that is, and the total of a ProgressBar where it isn't 100
abbrev pub private_part : Private → List ℕ
private_part (On true) = codes " on"
private_part (On false) = []
private_part (Bar done total) = if total == 100 then [] else codes " total " ++ decimal total
private_part Plain = []
private_part (Cursor place) = []
private_part (Chosen line) = []

-- in quotes: a backslash before a quote and a backslash, and `\n` for a line feed
abbrev pub escaped : ℕ → List ℕ
escaped byte = if byte == 34 then codes "\\\"" else if byte == 92 then codes "\\\\" else if byte == 10 then codes "\\n" else byte ∷ []

-- the text in quotes, where there is one
abbrev pub text_part : List ℕ → List ℕ
text_part [] = []
text_part (byte ∷ bytes) = codes " \"" ++ flat_map escaped (byte ∷ bytes) ++ codes "\""

-- the declarations of its own in braces, where there are any
abbrev pub inline_part : List ℕ → List ℕ
inline_part [] = []
inline_part (byte ∷ bytes) = codes " {" ++ (byte ∷ bytes) ++ codes "}"

-- a row: its kind and those parts that it has, in this order
abbrev pub row_text : Row → List ℕ
row_text row =
    kind_name row.kind ++ (id_part row.id ++ (class_parts row.classes.names ++ (disabled_part row.disabled
    ++ (private_part row.private ++ (text_part row.text ++ inline_part row.inline)))))

-- the line of a row
abbrev pub row_line : Row → List ℕ
row_line row = indent row.depth ++ (row_text row ++ codes "\n")

-- ---- bindings

-- a printable character itself, but for the blank, or the name of a key
abbrev pub key_name : Key → List ℕ
key_name (Char c) = if c == 32 then codes "space" else encode_utf8 c
key_name Enter = codes "enter"
key_name Escape = codes "escape"
key_name Tab = codes "tab"
key_name ShiftTab = codes "shift+tab"
key_name Backspace = codes "backspace"
key_name Delete = codes "delete"
key_name Up = codes "up"
key_name Down = codes "down"
key_name Left = codes "left"
key_name Right = codes "right"
key_name Home = codes "home"
key_name End = codes "end"
key_name PageUp = codes "pageup"
key_name PageDown = codes "pagedown"
key_name (Function n) = codes "f" ++ decimal n
key_name (Ctrl byte) = codes "ctrl+" ++ (byte ∷ [])

abbrev pub jump_name : Jump → List ℕ
jump_name JumpUp = codes "scroll_up"
jump_name JumpDown = codes "scroll_down"
jump_name JumpHome = codes "scroll_home"
jump_name JumpEnd = codes "scroll_end"
jump_name JumpPageUp = codes "page_up"
jump_name JumpPageDown = codes "page_down"

abbrev pub action_name : Action → List ℕ
action_name FocusNext = codes "focus_next"
action_name FocusPrevious = codes "focus_previous"
action_name ToggleDark = codes "toggle_dark"
action_name (ToggleClass name) = codes "toggle_class " ++ name
action_name (Scroll jump) = jump_name jump

abbrev pub priority_part : Bool → List ℕ
priority_part true = codes "priority "
priority_part false = []

abbrev pub bind_text : Bind → List ℕ
bind_text bind = codes "bind " ++ (priority_part bind.priority ++ (key_name bind.key ++ (codes " " ++ action_name bind.action)))

-- the line of a binding, which stands one deeper than its row
abbrev pub bind_line : ℕ → Bind → List ℕ
bind_line depth bind = indent (depth + 1) ++ (bind_text bind ++ codes "\n")

-- ---- the whole

-- a row, and its bindings directly below it
abbrev pub row_lines : Row → List ℕ
row_lines row = row_line row ++ flat_map (bind_line row.depth) row.binds

-- the rows in preorder
abbrev pub spelling : List Row → List ℕ
spelling rows = flat_map row_lines rows
