-- How a script is read, line by line.
use Rattle.std.specs.Prelude.{ℕ, ◌+◌, nat_le, nat_lt, List, [], ◌∷◌, ◌++◌, length, Option, Some, None, Result, Ok, Err, option_to_list, if◌then◌else◌}
use Rattle.tx_read.specs.Pieces.{pieces}
use Rattle.tx_tree_file.specs.TreeReading.{is_empty}
use Rattle.tx_route.specs.declared.input.Input.{Input}
use Rattle.tx_pilot.specs.LineReading.{line_of}
use Rattle.tx_pilot.specs.declared.fault.LineKind.{LineKind}
use Rattle.tx_pilot.specs.declared.fault.LineKind.TheVariants.{TooMany, TooLong}
use Rattle.tx_pilot.specs.declared.fault.ScriptFault.{ScriptFault}
use Rattle.tx_pilot.specs.declared.fault.ScriptFault.TheVariants.{Line, NoMemory}

-- which line is at fault, from 1 on, and what for
abbrev pub Met : Type 0
Met = ℕ × LineKind

-- A line after so many. With it and its line feed there are so many bytes.
abbrev pub limited : ℕ → ℕ → List ℕ → Result (Option Input) LineKind
limited before size line =
    if nat_le 100000 before then Err TooMany
    else if nat_lt 67108864 size then Err TooLong
    else line_of line

-- these inputs before those that are read then
abbrev pub put_before : List Input → Result (List Input) Met → Result (List Input) Met
put_before inputs (Ok more) = Ok (inputs ++ more)
put_before inputs (Err met) = Err met

-- the input of a line with this number, before what the lines after it have
abbrev pub then_lines : ℕ → Result (Option Input) LineKind → Result (List Input) Met → Result (List Input) Met
then_lines number (Ok read) more = put_before (option_to_list read) more
then_lines number (Err kind) more = Err (number, kind)

-- the inputs of lines after so many, which have so many bytes; the last one has no line feed
abbrev pub inputs_of : List (List ℕ) → ℕ → ℕ → Result (List Input) Met
inputs_of [] before size = Ok []
inputs_of (line ∷ []) before size =
    if is_empty line then Ok [] else then_lines (before + 1) (limited before (size + length line) line) (Ok [])
inputs_of (line ∷ next ∷ lines) before size =
    then_lines (before + 1) (limited before (size + (length line + 1)) line) (inputs_of (next ∷ lines) (before + 1) (size + (length line + 1)))

-- The inputs of a script, or the first line that breaks a rule and the first rule that it breaks.
unfoldable pub script_of : List ℕ → Result (List Input) Met
script_of bytes = inputs_of (pieces 10 bytes) 0 0

-- what a fault tells: the line and the kind
abbrev pub told : ScriptFault → Option Met
told (Line line kind) = Some (line, kind)
told NoMemory = None
