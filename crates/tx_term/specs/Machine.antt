-- The terminal: what it makes of each byte.
use Rattle.std.specs.Prelude.{◌≡◌, ℕ, ◌==◌, nat_lt, Bool, true, false, ◌&&◌, ◌||◌, List, [], ◌∷◌, ◌++◌, length, drop, fold, is_none, if◌then◌else◌}
use Rattle.std.specs.Int.{is_in_range}
use Rattle.std.specs.Str.{is_utf8}
use Rattle.std.specs.Str.Lossy.{utf8_valid_len, utf8_error_len}
use Rattle.tx_geom.specs.declared.places.Size.{Size}
use Rattle.tx_cell.specs.Grid.{GridValue}
use Rattle.tx_term.specs.Canvas.{CanvasValue, put_held, shown_grid, with_character, moved, erased, opened_canvas}
use Rattle.tx_term.specs.Sequence.{command_of}
use Rattle.tx_term.specs.declared.machine.command.Command.{Command}
use Rattle.tx_term.specs.declared.machine.command.Command.TheVariants.{Nothing, Move, Erase, SetPen, ShowCursor, Alternate}
use Rattle.tx_term.specs.declared.machine.unfinished.Stage.{Stage}
use Rattle.tx_term.specs.declared.machine.unfinished.Stage.TheVariants.{InText, InEscape, InSequence}

-- the state: what is drawn, whether the cursor is shown and whether the screen is the alternate one, and the bytes of a
-- sequence or of a character whose end hasn't come
pub record Machine : Type 0 where
  pub canvas : CanvasValue
  pub cursor_shown : Bool
  pub alternate : Bool
  pub unfinished : List ℕ

-- blanks of white on black, the cursor shown, on the main screen
abbrev pub opened : Size → Machine
opened size = record { canvas = opened_canvas size; cursor_shown = true; alternate = false; unfinished = [] }

-- ---- commands

-- what a command does
abbrev pub run : Command → Machine → Machine
run Nothing machine = machine
run (Move row column) machine = record machine { canvas = moved row column machine.canvas }
run Erase machine = record machine { canvas = erased machine.canvas }
run (SetPen pen) machine = record machine { canvas = record machine.canvas { pen = pen } }
run (ShowCursor on) machine = record machine { cursor_shown = on }
run (Alternate on) machine = record machine { alternate = on }

-- ---- bytes

-- the held cell is put, and what is unfinished is dropped
abbrev pub ended : Machine → Machine
ended machine = record machine { canvas = put_held machine.canvas; unfinished = [] }

-- the unfinished bytes with one more. Of a sequence 64 are kept: with the last byte it is then too long.
abbrev pub longer_by : List ℕ → ℕ → List ℕ
longer_by unfinished byte = if nat_lt (length unfinished) 64 then unfinished ++ byte ∷ [] else unfinished

-- where in the stream these unfinished bytes are: in the text, after ESC, or after ESC [
abbrev pub stage_of : List ℕ → Stage
stage_of [] = InText
stage_of (first ∷ []) = if first == 27 then InEscape else InText
stage_of (first ∷ second ∷ rest) = if (first == 27) && (second == 91) then InSequence else InText

-- after ESC: a [ begins the numbers, and any other byte ends a sequence that does nothing
abbrev pub escape_byte : Machine → ℕ → Machine
escape_byte machine byte = record machine { unfinished = if byte == 91 then 27 ∷ 91 ∷ [] else [] }

-- what the sequence with this last byte asks for: nothing where it has more than 64 bytes
abbrev pub last_command : Machine → ℕ → Command
last_command machine byte = if nat_lt (length machine.unfinished) 64 then command_of byte (drop 2 machine.unfinished) machine.canvas.pen else Nothing

-- the last byte of a sequence
abbrev pub last_byte : Machine → ℕ → Machine
last_byte machine byte = run (last_command machine byte) (ended machine)

-- after ESC [: more of the sequence, its last byte, or one that drops it
abbrev pub sequence_byte : Machine → ℕ → Machine
sequence_byte machine byte =
    if is_in_range 0x20 0x3F byte then record machine { unfinished = longer_by machine.unfinished byte }
    else if is_in_range 0x40 0x7E byte then last_byte machine byte
    else record machine { unfinished = [] }

-- a control byte of ASCII
abbrev pub is_control_byte : ℕ → Bool
is_control_byte byte = nat_lt byte 0x20 || (byte == 0x7F)

-- the bytes end inside a character of UTF-8
abbrev pub is_cut : List ℕ → Bool
is_cut bytes = is_none (utf8_error_len (drop (utf8_valid_len bytes) bytes))

-- the bytes of a whole character, those of the beginning of one, and others
unfoldable pub with_bytes : List ℕ → Machine → Machine → Machine
with_bytes bytes machine otherwise =
    if is_utf8 bytes then record machine { canvas = with_character bytes machine.canvas; unfinished = [] }
    else if is_cut bytes then record machine { unfinished = bytes }
    else otherwise

-- A byte of text. A control byte drops the unfinished ones and does nothing else. So does a byte that can't go on with
-- them, which then begins a character where it can.
abbrev pub text_byte : Machine → ℕ → Machine
text_byte machine byte =
    if is_control_byte byte then record machine { unfinished = [] }
    else with_bytes (longer_by machine.unfinished byte) machine (with_bytes (byte ∷ []) machine (record machine { unfinished = [] }))

abbrev pub byte_in : Stage → Machine → ℕ → Machine
byte_in InText machine byte = text_byte machine byte
byte_in InEscape machine byte = escape_byte machine byte
byte_in InSequence machine byte = sequence_byte machine byte

-- one byte. ESC begins a sequence and CAN ends all that is unfinished, wherever they stand.
unfoldable pub step : Machine → ℕ → Machine
step machine byte =
    if byte == 27 then record (ended machine) { unfinished = 27 ∷ [] }
    else if byte == 24 then ended machine
    else byte_in (stage_of machine.unfinished) machine byte

-- many bytes, one after another
unfoldable pub fed : Machine → List ℕ → Machine
fed machine bytes = fold step machine bytes

-- the grid that is seen
abbrev pub screen_of : Machine → GridValue
screen_of machine = shown_grid machine.canvas

-- the grid that is seen once these bytes were read
abbrev pub screen : Machine → List ℕ → GridValue
screen machine bytes = screen_of (fed machine bytes)

-- nothing is unfinished, and the grid that is seen is this one
pub record RestsOn (machine : Machine) (grid : GridValue) : Type 0 where
  pub whole : machine.unfinished ≡ []
  pub seen : screen_of machine ≡ grid
