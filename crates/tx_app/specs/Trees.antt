-- The rows of a tree file as a run takes them, and what it says of a file that it refuses.
use Rattle.std.specs.Prelude.{ℕ, List, [], Option, Some, None, Result, Ok, Err}
use Rattle.tx_opening.specs.OpeningReading.{Wrong, rows_of as rows_read}
use Rattle.tx_opening.specs.declared.fault.RowsRefusal.{RowsRefusal}
use Rattle.tx_opening.specs.declared.fault.RowsRefusal.TheVariants as rows
use Rattle.tx_tree.specs.declared.row.Row.{Row}
use Rattle.tx_app.specs.declared.causes.Refusal.{Refusal}
use Rattle.tx_app.specs.declared.causes.Refusal.TheVariants.{Tree, Inline, NoCustom}
use Rattle.tx_app.specs.declared.trees.TreeStop.{TreeStop}
use Rattle.tx_app.specs.declared.trees.TreeStop.TheVariants.{At, NoMemory}

-- a line, and what is wrong there
abbrev pub Fault : Type 0
Fault = ℕ × Refusal

abbrev pub refusal_of : RowsRefusal → Refusal
refusal_of (rows.Tree kind) = Tree kind
refusal_of rows.NoCustom = NoCustom
refusal_of rows.Inline = Inline

abbrev pub taken : Result (List Row) Wrong → Result (List Row) Fault
taken (Ok rows) = Ok rows
taken (Err wrong) = Err (wrong.0, refusal_of wrong.1)

-- The rows of a tree file, or its first fault. No kind is known that isn't built in.
unfoldable pub rows_of : List ℕ → Result (List Row) Fault
rows_of bytes = taken (rows_read [] bytes)

-- ---- what their reader answers

-- the line and what is wrong there, and nothing where memory ran out
abbrev pub told : TreeStop → Option Fault
told (At line kind) = Some (line, kind)
told NoMemory = None
