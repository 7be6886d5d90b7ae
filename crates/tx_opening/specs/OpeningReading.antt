-- The tree and the sheet with which an application opens, or the first fault of their files.
use Rattle.std.specs.Prelude.{ℕ, ◌+◌, ◌-◌, ◌^◌, ◌&&◌, min, nat_lt, not, bytes_eq, Bool, true, false, List, [], ◌∷◌, length, Option, Some, None, Result, Ok, Err, if◌then◌else◌}
use Rattle.std.specs.List.{list_any}
use Rattle.tx_parse.specs.Default.{sheet_value}
use Rattle.tx_parse.specs.Grammar.{Found}
use Rattle.tx_parse.specs.Places.{column_of, line_of}
use Rattle.tx_parse.specs.Texts.{Report, inline_of, sheet_of}
use Rattle.tx_parse.specs.Values.{SheetValue}
use Rattle.tx_tree.specs.Kind.{is_handed, kind_name}
use Rattle.tx_tree.specs.declared.row.Row.{Row}
use Rattle.tx_tree_file.specs.TreeReading.{LineFault, tree_of}
use Rattle.tx_opening.specs.declared.fault.OpeningFault.{OpeningFault}
use Rattle.tx_opening.specs.declared.fault.OpeningFault.TheVariants as whole
use Rattle.tx_opening.specs.declared.fault.RowsFault.{RowsFault}
use Rattle.tx_opening.specs.declared.fault.RowsFault.TheVariants.{At, NoMemory}
use Rattle.tx_opening.specs.declared.fault.RowsRefusal.{RowsRefusal}
use Rattle.tx_opening.specs.declared.fault.RowsRefusal.TheVariants.{Tree, NoCustom, Inline}
use Rattle.tx_opening.specs.declared.opening.Opening.{Opening}

-- a line of a tree file, and what is wrong there
abbrev pub Wrong : Type 0
Wrong = ℕ × RowsRefusal

-- ---- lines

-- The line of the row below one that stands in this line: each binding has a line of its own. The count saturates at 2^32 - 1, to
-- which no file of fewer than 2^32 bytes comes.
abbrev pub line_below : ℕ → Row → ℕ
line_below line row = min (line + (1 + length row.binds)) (2 ^ 32 - 1)

-- the line of the first of these rows that is so, where the first one stands in this line
abbrev pub first_line : (Row → Bool) → ℕ → List Row → Option ℕ
first_line is line [] = None
first_line is line (row ∷ rows) = if is row then Some line else first_line is (line_below line row) rows

-- ---- what is judged

-- a row is of a kind that is to be handed in, and its name isn't among those that are known
abbrev pub is_unknown : List (List ℕ) → Row → Bool
is_unknown known row = not (list_any (bytes_eq (kind_name row.kind)) known) && is_handed row.kind

abbrev pub is_refused : {A K : Type 0} → Result A K → Bool
is_refused (Ok value) = false
is_refused (Err fault) = true

-- the inline text is outside the grammar, or has 4 GiB or more, which no file of a tree has
abbrev pub is_unread : Row → Bool
is_unread row = if nat_lt (length row.inline) (2 ^ 32) then is_refused (inline_of row.inline) else true

-- a fault of that sort in this line, if there is one, comes before the others
abbrev pub or_line : {A : Type 0} → RowsRefusal → Option ℕ → Result A Wrong → Result A Wrong
or_line kind (Some line) rest = Err (line, kind)
or_line kind None rest = rest

-- the rows, or the first of an unknown kind, or else the first whose inline text is outside the grammar
unfoldable pub judged : List (List ℕ) → List Row → Result (List Row) Wrong
judged known rows = or_line NoCustom (first_line (is_unknown known) 1 rows) (or_line Inline (first_line is_unread 1 rows) (Ok rows))

-- a fault of the file comes before those of its rows
abbrev pub judged_rows : List (List ℕ) → Result (List Row) LineFault → Result (List Row) Wrong
judged_rows known (Ok rows) = judged known rows
judged_rows known (Err fault) = Err (fault.line, Tree fault.kind)

-- the rows of a tree file, or its first fault, where these kinds are known
unfoldable pub rows_of : List (List ℕ) → List ℕ → Result (List Row) Wrong
rows_of known bytes = judged_rows known (tree_of bytes)

-- ---- the tree and then the sheet

pub record OpeningValue : Type 0 where
  pub rows : List Row
  pub sheet : SheetValue

-- the sheet in these bytes for these rows, or its first fault
abbrev pub with_sheet : List Row → List ℕ → Result Found Report → Result OpeningValue OpeningFault
with_sheet rows bytes (Ok found) = Ok (record { rows = rows; sheet = sheet_value found })
with_sheet rows bytes (Err report) = Err (whole.Sheet (line_of bytes report.1) (column_of bytes report.1) report.0)

-- every fault of the tree file comes before those of the sheet
abbrev pub with_rows : Result (List Row) Wrong → List ℕ → Result OpeningValue OpeningFault
with_rows (Ok rows) sheet = with_sheet rows sheet (sheet_of sheet)
with_rows (Err wrong) sheet = Err (whole.Rows wrong.0 wrong.1)

-- the tree in some bytes and the sheet in others, or the first fault, where these kinds are known
unfoldable pub opening_of : List (List ℕ) → List ℕ → List ℕ → Result OpeningValue OpeningFault
opening_of known tree sheet = with_rows (rows_of known tree) sheet

-- ---- what the readers answer

-- the line and what is wrong there, and nothing where memory ran out
abbrev pub told : RowsFault → Option Wrong
told (At line kind) = Some (line, kind)
told NoMemory = None

-- a fault of a file, and nothing where memory ran out
abbrev pub told_of_opening : OpeningFault → Option OpeningFault
told_of_opening (whole.Rows line kind) = Some (whole.Rows line kind)
told_of_opening (whole.Sheet line column kind) = Some (whole.Sheet line column kind)
told_of_opening whole.NoMemory = None

-- the rows and the sheet of what was read
abbrev pub seen : Opening → OpeningValue
seen opening = record { rows = opening.tree.rows; sheet = opening.sheet }
