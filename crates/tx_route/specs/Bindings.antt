-- Which binding of a row a key finds.
use Rattle.std.specs.Prelude.{◌==◌, ◌&&◌, Bool, true, false, List, Option, find, option_map}
use Rattle.std.specs.Bool.{beq}
use Rattle.tx_tree.specs.declared.bind.Action.{Action}
use Rattle.tx_tree.specs.declared.bind.Bind.{Bind}
use Rattle.tx_tree.specs.declared.bind.Key.{Key}
use Rattle.tx_tree.specs.declared.bind.Key.TheVariants.{Char, Enter, Escape, Tab, ShiftTab, Backspace, Delete, Up, Down, Left, Right, Home, End, PageUp, PageDown, Function, Ctrl}

-- whether two keys are one
abbrev pub is_same : Key → Key → Bool
is_same (Char a) (Char b) = a == b
is_same (Function a) (Function b) = a == b
is_same (Ctrl a) (Ctrl b) = a == b
is_same Enter Enter = true
is_same Escape Escape = true
is_same Tab Tab = true
is_same ShiftTab ShiftTab = true
is_same Backspace Backspace = true
is_same Delete Delete = true
is_same Up Up = true
is_same Down Down = true
is_same Left Left = true
is_same Right Right = true
is_same Home Home = true
is_same End End = true
is_same PageUp PageUp = true
is_same PageDown PageDown = true
is_same _ _ = false

-- whether a binding is on a key, and has priority or not
abbrev pub is_on : Key → Bool → Bind → Bool
is_on key priority bind = is_same bind.key key && beq bind.priority priority

-- the action of the first of some bindings that is on a key, and has priority or not
unfoldable pub action_on : Key → Bool → List Bind → Option Action
action_on key priority binds = option_map (λ bind. bind.action) (find (is_on key priority) binds)
