-- Reading a tree file, line by line.
use Rattle.std.specs.Prelude.{◌≡◌, ℕ, ◌+◌, ◌/◌, ◌==◌, ◌&&◌, Bool, true, false, not, if◌then◌else◌, List, [], ◌∷◌, ◌++◌, length, Option, Some, None, Result, Ok, Err, codes}
use Rattle.std.specs.Str.{is_utf8}
use Rattle.tx_read.specs.Pieces.{pieces, behind}
use Rattle.tx_tree.specs.Kind.{is_screen}
use Rattle.tx_tree.specs.Mount.{is_taken}
use Rattle.tx_tree.specs.Row.{placed}
use Rattle.tx_tree.specs.TreeValue.{TreeValue}
use Rattle.tx_tree.specs.declared.bind.Bind.{Bind}
use Rattle.tx_tree.specs.declared.fault.TreeFault.{TreeFault}
use Rattle.tx_tree.specs.declared.fault.TreeFault.TheVariants.{Grammar, NoMemory, Leaf as Leaf', TooMany as TooMany', DuplicateId as DuplicateId'}
use Rattle.tx_tree.specs.declared.fault.TreeKind.{TreeKind}
use Rattle.tx_tree.specs.declared.fault.TreeKind.TheVariants.{BadByte, BadIndent, TooDeep, Expected, Leaf, TooMany, DuplicateId}
use Rattle.tx_tree.specs.declared.row.NewRow.{NewRow}
use Rattle.tx_tree.specs.declared.row.Row.{Row}
use Rattle.tx_tree_file.specs.declared.line.Item.{Item}
use Rattle.tx_tree_file.specs.declared.line.Item.TheVariants.{Binding, Widget}
use Rattle.tx_tree_file.specs.FirstFault.{is_held}
use Rattle.tx_tree_file.specs.Indent.{blanks, past_blanks, is_bind_line, may_stand}
use Rattle.tx_tree_file.specs.Parts.{word, past_word, flag, kind_of, id_of, classes_of, private_of, text_of, inline_of, key_of, action_of}
use Rattle.tx_tree_file.specs.TreeFile.{kept}

-- ---- one line

-- one reader after another
infixl 10 ◌>>=◌
abbrev pub ◌>>=◌ : {A B : Type 0} → Option A → (A → Option B) → Option B
(Some x) >>= f = f x
None >>= f = None

-- a row, without its bindings
abbrev pub row_of : List ℕ → Option NewRow
row_of bytes =
    kind_of (word bytes) >>= (λ kind.
    id_of (past_word bytes) >>= (λ id.
    classes_of id.1 >>= (λ classes.
    private_of kind (flag (codes " disabled") classes.1).1 >>= (λ private.
    text_of private.1 >>= (λ text.
    inline_of text.1 >>= (λ inline.
    Some (record {
      kind = kind;
      id = id.0;
      classes = classes.0;
      disabled = (flag (codes " disabled") classes.1).0;
      text = text.0;
      inline = inline;
      binds = [];
      private = kept kind (length text.0) private.0;
    })))))))

-- a binding after `bind `
abbrev pub bind_by : Bool × List ℕ → Option Bind
bind_by priority =
    key_of (word priority.1) >>= (λ key.
    behind (codes " ") (past_word priority.1) >>= (λ rest.
    action_of rest >>= (λ action.
    Some (record { key = key; action = action; priority = priority.0 }))))

abbrev pub bind_of : List ℕ → Option Bind
bind_of bytes = behind (codes "bind ") bytes >>= (λ rest. bind_by (flag (codes "priority ") rest))

-- ---- the lines, one after another

-- the rows so far, of which the last one may get further bindings
pub record Begun : Type 0 where
  pub before : List Row
  pub last : Row

abbrev pub rows_so_far : Begun → List Row
rows_so_far begun = begun.before ++ begun.last ∷ []

-- the Screen, in the first line
abbrev pub screen : Option NewRow → Result NewRow TreeKind
screen None = Err Expected
screen (Some new) = if is_screen new.kind then Ok new else Err Expected

abbrev pub first_item : List ℕ → Bool → Result NewRow TreeKind
first_item line ended =
    if not (is_utf8 line) then Err BadByte
    else if is_bind_line line then Err Expected
    else if not (blanks line == 0) then Err BadIndent
    else if ended then screen (row_of line)
    else Err Expected

abbrev pub with_first : Result NewRow TreeKind → Result Begun TreeKind
with_first (Ok new) = Ok (record { before = []; last = placed new 1 0 })
with_first (Err kind) = Err kind

abbrev pub first_line : List ℕ → Bool → Result Begun TreeKind
first_line line ended = with_first (first_item line ended)

-- what a line after a last row of this depth is
abbrev pub binding : Option Bind → Result Item TreeKind
binding None = Err Expected
binding (Some bind) = Ok (Binding bind)

abbrev pub widget : ℕ → Option NewRow → Result Item TreeKind
widget depth None = Err Expected
widget depth (Some new) = if is_screen new.kind then Err Expected else Ok (Widget depth new)

abbrev pub bind_item : List ℕ → Bool → Result Item TreeKind
bind_item text ended = if ended then binding (bind_of text) else Err Expected

abbrev pub row_item : ℕ → List ℕ → Bool → Result Item TreeKind
row_item count text ended =
    if count == 128 then Err TooDeep
    else if ended then widget (count / 2) (row_of text)
    else Err Expected

abbrev pub item_of : ℕ → List ℕ → Bool → Result Item TreeKind
item_of depth line ended =
    if not (is_utf8 line) then Err BadByte
    else if not (may_stand depth (is_bind_line line) (blanks line)) then Err BadIndent
    else if is_bind_line line then bind_item (past_blanks line) ended
    else row_item (blanks line) (past_blanks line) ended

-- a binding more of the last row
abbrev pub with_bind : Bind → Row → Row
with_bind bind row = record row { binds = row.binds ++ bind ∷ [] }

-- a row more, after these rows
abbrev pub with_new : List Row → ℕ → NewRow → Result Begun TreeKind
with_new rows depth new =
    if not (is_held depth rows) then Err Leaf
    else if length rows == 65536 then Err TooMany
    else if is_taken new.id rows then Err DuplicateId
    else Ok (record { before = rows; last = placed new (length rows + 1) depth })

abbrev pub with_item : Begun → Result Item TreeKind → Result Begun TreeKind
with_item begun (Ok (Binding bind)) = Ok (record begun { last = with_bind bind begun.last })
with_item begun (Ok (Widget depth new)) = with_new (rows_so_far begun) depth new
with_item begun (Err kind) = Err kind

abbrev pub next_line : Begun → List ℕ → Bool → Result Begun TreeKind
next_line begun line ended = with_item begun (item_of begun.last.depth line ended)

-- which line is at fault, from 1 on, and what for
pub record LineFault : Type 0 where
  pub line : ℕ
  pub kind : TreeKind

-- what was read of a line, and then the lines after it, or its fault
abbrev pub or_fault : ℕ → Result Begun TreeKind → (Begun → Result (List Row) LineFault) → Result (List Row) LineFault
or_fault number (Ok begun) more = more begun
or_fault number (Err kind) more = Err (record { line = number; kind = kind })

abbrev pub is_empty : {A : Type 0} → List A → Bool
is_empty [] = true
is_empty (x ∷ xs) = false

-- the rows of the lines after so many; the last one is what stands after the last line feed
abbrev pub rows_behind : List (List ℕ) → ℕ → Begun → Result (List Row) LineFault
rows_behind [] done begun = Ok (rows_so_far begun)
rows_behind (line ∷ lines) done begun =
    if is_empty lines && is_empty line then Ok (rows_so_far begun)
    else or_fault (done + 1) (next_line begun line (not (is_empty lines))) (rows_behind lines (done + 1))

abbrev pub rows_of_lines : List (List ℕ) → Result (List Row) LineFault
rows_of_lines [] = Err (record { line = 1; kind = Expected })
rows_of_lines (line ∷ lines) = or_fault 1 (first_line line (not (is_empty lines))) (rows_behind lines 1)

-- the rows that a file holds, or the first line that breaks a rule and the first rule that it breaks
abbrev pub tree_of : List ℕ → Result (List Row) LineFault
tree_of bytes = rows_of_lines (pieces 10 bytes)

-- ---- answers of a call, out of memory aside

-- the fault of a line whose row can't be mounted
abbrev pub refused : TreeFault → ℕ → TreeFault
refused Leaf' line = Grammar line Leaf
refused TooMany' line = Grammar line TooMany
refused DuplicateId' line = Grammar line DuplicateId
refused fault line = fault

abbrev pub FaultIs : Result (List Row) LineFault → TreeFault → Type 0
FaultIs read (Grammar line kind) = read ≡ Err (record { line = line; kind = kind })
FaultIs read NoMemory = Unit {0}
FaultIs read fault = ⊥

-- the same of a line with this number
abbrev pub GivesAt : {A : Type 0} → ℕ → Result A TreeKind → Result A TreeFault → Type 0
GivesAt number read (Ok item) = read ≡ Ok item
GivesAt number read (Err (Grammar line kind)) = (line ≡ number) × (read ≡ Err kind)
GivesAt number read (Err NoMemory) = Unit {0}
GivesAt number read (Err fault) = ⊥

-- the call gives the tree of these rows, of which all nodes were made, or this fault
abbrev pub Reads : Result (List Row) LineFault → Result TreeValue TreeFault → Type 0
Reads read (Ok tree) = (read ≡ Ok tree.rows) × (tree.made ≡ length tree.rows)
Reads read (Err fault) = FaultIs read fault

-- the call gives these rows
abbrev pub GivesRows : List Row → Result TreeValue TreeFault → Type 0
GivesRows rows (Ok tree) = tree.rows ≡ rows
GivesRows rows (Err fault) = fault ≡ NoMemory
