-- What holds of scripts.
use Rattle.std.specs.Prelude.{◌≡◌, ℕ, List, Option, Ok, Err}
use Rattle.tx_route.specs.declared.input.Input.{Input}
use Rattle.tx_pilot.specs.LineReading.{line_of}
use Rattle.tx_pilot.specs.Lines.{Spells, Breaks}
use Rattle.tx_pilot.specs.Script.{IsScript, IsFirstFault}
use Rattle.tx_pilot.specs.ScriptReading.{script_of}
use Rattle.tx_pilot.specs.declared.fault.LineKind.{LineKind}

-- a line is read exactly as what it spells, and refused exactly for the first rule that it breaks
abbrev pub LinesAreRead : Type 0
LinesAreRead = (line : List ℕ)
    → ((read : Option Input) → (line_of line ≡ Ok read → Spells line read) × (Spells line read → line_of line ≡ Ok read))
    × ((kind : LineKind) → (line_of line ≡ Err kind → Breaks line kind) × (Breaks line kind → line_of line ≡ Err kind))

-- so is a script
abbrev pub ScriptsAreRead : Type 0
ScriptsAreRead = (bytes : List ℕ)
    → ((inputs : List Input) → (script_of bytes ≡ Ok inputs → IsScript bytes inputs) × (IsScript bytes inputs → script_of bytes ≡ Ok inputs))
    × ((number : ℕ) (kind : LineKind)
    → (script_of bytes ≡ Err (number, kind) → IsFirstFault bytes number kind) × (IsFirstFault bytes number kind → script_of bytes ≡ Err (number, kind)))
