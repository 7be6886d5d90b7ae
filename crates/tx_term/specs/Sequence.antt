-- Control sequences of ECMA-48: the numbers in them, and what each of them asks for.
use Rattle.std.specs.Prelude.{ℕ, ◌+◌, ◌-◌, ◌*◌, ◌==◌, nat_le, nat_lt, min, Bool, true, false, ◌&&◌, ◌||◌, List, [], ◌∷◌, ◌++◌, Option, Some, None, unwrap_or, option_and_then, if◌then◌else◌}
use Rattle.std.specs.Char.{is_ascii_digit}
use Rattle.tx_cell.specs.Pen.{white_on_black}
use Rattle.tx_cell.specs.declared.pen.Pen.{Pen}
use Rattle.tx_term.specs.declared.machine.command.Command.{Command}
use Rattle.tx_term.specs.declared.machine.command.Command.TheVariants.{Nothing, Move, Erase, SetPen, ShowCursor, Alternate}

-- ---- numbers

-- a number with one more digit, or one that begins. A greater one than 4,294,967,295 counts as that, which is past every
-- grid and every channel.
abbrev pub with_digit : Option ℕ → ℕ → ℕ
with_digit before digit = min (unwrap_or before 0 * 10 + (digit - 48)) 4294967295

-- the numbers with the one after them, which is not to be missing
abbrev pub with_number : List ℕ → Option ℕ → Option (List ℕ)
with_number before None = None
with_number before (Some number) = Some (before ++ number ∷ [])

-- the numbers that these bytes write after those before them and after the digits of one more. There are none where a
-- number is missing, or where a byte is no digit and no semicolon.
abbrev pub numbers_behind : List ℕ → Option ℕ → List ℕ → Option (List ℕ)
numbers_behind before here [] = with_number before here
numbers_behind before here (byte ∷ bytes) =
    if is_ascii_digit byte then numbers_behind before (Some (with_digit here byte)) bytes
    else if byte == 59 then option_and_then (λ numbers. numbers_behind numbers None bytes) (with_number before here)
    else None

-- the numbers between semicolons
abbrev pub numbers_of : List ℕ → Option (List ℕ)
numbers_of bytes = numbers_behind [] None bytes

-- the numbers after a question mark
abbrev pub private_numbers_of : List ℕ → Option (List ℕ)
private_numbers_of [] = None
private_numbers_of (mark ∷ bytes) = if mark == 63 then numbers_of bytes else None

-- ---- the pen

-- the pen that one number makes of another: the default one, which is white on black, or one more mark
abbrev pub with_mark : ℕ → Pen → Option Pen
with_mark number pen =
    if number == 0 then Some white_on_black
    else if number == 1 then Some (record pen { style = record pen.style { bold = true } })
    else if number == 2 then Some (record pen { style = record pen.style { dim = true } })
    else if number == 3 then Some (record pen { style = record pen.style { italic = true } })
    else if number == 4 then Some (record pen { style = record pen.style { underline = true } })
    else if number == 7 then Some (record pen { style = record pen.style { reverse = true } })
    else if number == 9 then Some (record pen { style = record pen.style { strike = true } })
    else None

-- 38 sets the colour of the text, and 48 the one after it
abbrev pub is_colour : ℕ → Bool
is_colour number = (number == 38) || (number == 48)

-- the pen with a colour, whose three channels are at most 255, in the form that the number 2 names
abbrev pub with_colour : ℕ → ℕ → ℕ → ℕ → ℕ → Pen → Option Pen
with_colour number form r g b pen =
    if (form == 2) && (nat_le r 255 && (nat_le g 255 && nat_le b 255)) then
    Some (if number == 38 then record pen { fore = record { r = r; g = g; b = b } } else record pen { back = record { r = r; g = g; b = b } })
    else None

-- the pen that numbers make of another one, from the left, where each of them is listed
abbrev pub with_settings : List ℕ → Pen → Option Pen
with_settings [] pen = Some pen
with_settings (number ∷ form ∷ r ∷ g ∷ b ∷ rest) pen =
    if is_colour number then option_and_then (λ next. with_settings rest next) (with_colour number form r g b pen)
    else option_and_then (λ next. with_settings (form ∷ r ∷ g ∷ b ∷ rest) next) (with_mark number pen)
with_settings (number ∷ rest) pen = option_and_then (λ next. with_settings rest next) (with_mark number pen)

-- ---- what is asked for

-- H: a row and a column, from 1 on
abbrev pub move_command : Option (List ℕ) → Command
move_command (Some (row ∷ column ∷ [])) = if nat_lt 0 row && nat_lt 0 column then Move row column else Nothing
move_command _ = Nothing

-- J: all cells
abbrev pub erase_command : Option (List ℕ) → Command
erase_command (Some (number ∷ [])) = if number == 2 then Erase else Nothing
erase_command _ = Nothing

abbrev pub command_of_pen : Option Pen → Command
command_of_pen None = Nothing
command_of_pen (Some pen) = SetPen pen

-- m: a pen that is made of the present one
abbrev pub pen_command : Option (List ℕ) → Pen → Command
pen_command numbers pen = command_of_pen (option_and_then (λ list. with_settings list pen) numbers)

-- h and l: a mode is on or off
abbrev pub mode_command : Bool → Option (List ℕ) → Command
mode_command on (Some (mode ∷ [])) = if mode == 25 then ShowCursor on else if mode == 1049 then Alternate on else Nothing
mode_command on _ = Nothing

-- what the sequence with this last byte asks for, by what stands before that byte, in the present pen
unfoldable pub command_of : ℕ → List ℕ → Pen → Command
command_of last parameters pen =
    if last == 72 then move_command (numbers_of parameters)
    else if last == 74 then erase_command (numbers_of parameters)
    else if last == 109 then pen_command (numbers_of parameters) pen
    else if last == 104 then mode_command true (private_numbers_of parameters)
    else if last == 108 then mode_command false (private_numbers_of parameters)
    else Nothing
