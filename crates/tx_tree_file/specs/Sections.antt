-- The lines from one row line to the next, and where the next row goes.
use Rattle.std.specs.Prelude.{◌≡◌, ◌≤◌, ◌<◌, ◌+◌, ℕ, true, false, not, nat_lt, nat_le, List, [], ◌∷◌, ◌++◌, length, slice_index, Option, Some, None, Result, Ok, Err}
use Rattle.std.specs.List.{list_all}
use Rattle.tx_read.specs.Pieces.{pieces}
use Rattle.tx_tree.specs.Kind.{is_screen}
use Rattle.tx_tree.specs.Row.{has_number}
use Rattle.tx_tree.specs.TreeValue.{TreeValue}
use Rattle.tx_tree.specs.declared.bind.Bind.{Bind}
use Rattle.tx_tree.specs.declared.fault.TreeFault.{TreeFault}
use Rattle.tx_tree.specs.declared.fault.TreeFault.TheVariants.{Grammar, NoMemory}
use Rattle.tx_tree.specs.declared.row.NewRow.{NewRow}
use Rattle.tx_tree.specs.declared.row.Row.{Row}
use Rattle.tx_tree_file.specs.declared.section.Met.{Met}
use Rattle.tx_tree_file.specs.declared.section.Section.{Section}
use Rattle.tx_tree_file.specs.TreeReading.{LineFault, with_new, or_fault, rows_behind}

-- the last row with bindings more
abbrev pub with_binds : List Bind → Row → Row
with_binds binds row = record row { binds = row.binds ++ binds }

-- what the lines give after these rows, once the next row line is met, or the end
abbrev pub rows_from : List Row → Option Met → Result (List Row) LineFault
rows_from rows None = Ok rows
rows_from rows (Some met) = or_fault met.line (with_new rows met.depth met.row) (rows_behind (pieces 10 met.rest.now) met.line)

-- what the rest gives is what is given once these bindings are read and the next row line is met
abbrev pub LeadsTo : ℕ → List ℕ → ℕ → Section → Type 0
LeadsTo depth rest done section =
    (before : List Row) (last : Row) → last.depth ≡ depth
    → rows_behind (pieces 10 rest) done (record { before = before; last = last }) ≡ rows_from (before ++ with_binds section.binds.items last ∷ []) section.met

-- the rest is at fault
abbrev pub IsAtFault : ℕ → List ℕ → ℕ → LineFault → Type 0
IsAtFault depth rest done fault =
    (before : List Row) (last : Row) → last.depth ≡ depth
    → rows_behind (pieces 10 rest) done (record { before = before; last = last }) ≡ Err fault

abbrev pub Leads : ℕ → List ℕ → ℕ → Result Section TreeFault → Type 0
Leads depth rest done (Ok section) = LeadsTo depth rest done section
Leads depth rest done (Err (Grammar line kind)) = IsAtFault depth rest done (record { line = line; kind = kind })
Leads depth rest done (Err NoMemory) = Unit {0}
Leads depth rest done (Err fault) = ⊥

-- a row may stand so deep after a last row of another depth, and its bindings are still to come
pub record IsWidget (last depth : ℕ) (new : NewRow) : Type 0 where
  pub below : 1 ≤ depth
  pub shallow : depth ≤ 63
  pub step : depth ≤ last + 1
  pub alone : new.binds ≡ []
  pub other : is_screen new.kind ≡ false

-- a row that was met after a last row of this depth and after so many lines
pub record IsMet (last done most : ℕ) (met : Met) : Type 0 where
  pub widget : IsWidget last met.depth met.row
  pub later : done < met.line
  pub lines : met.line + length met.rest.now ≤ most

-- the node of this number, at this depth, and after it only what stands below it
pub record IsOpen (rows : List Row) (depth n : ℕ) : Type 0 where
  pub front : List Row
  pub row : Row
  pub below : List Row
  pub is : rows ≡ front ++ (row ∷ below)
  pub number : row.node.0 ≡ n
  pub at : row.depth ≡ depth
  pub new : list_all (λ r. not (has_number n r)) front ≡ true
  pub deeper : list_all (λ r. nat_lt depth r.depth) below ≡ true

-- the nodes from the Screen down to the last row
abbrev pub IsPath : List Row → List ℕ → Type 0
IsPath rows path = (k : ℕ) → k < length path → IsOpen rows k (slice_index path k)

-- the tree has only the rows that were made, and these are the nodes above the next row
pub record IsGrown (tree : TreeValue) (path : List ℕ) : Type 0 where
  pub above : IsPath tree.rows path
  pub some : 1 ≤ length path
  pub made : tree.made ≡ length tree.rows
  pub numbers : list_all (λ row. nat_le row.node.0 tree.made) tree.rows ≡ true
