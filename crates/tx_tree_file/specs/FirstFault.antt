-- The first line of a tree file that breaks a rule, and which rule it is.
use Rattle.std.specs.Prelude.{◌≡◌, ◌≢◌, ◌⊎◌, ℕ, ◌+◌, ◌≤◌, ◌==◌, ◌&&◌, Bool, true, false, not, List, [], ◌∷◌, ◌++◌, length, Option, Some, None, sum_by}
use Rattle.std.specs.List.{list_all}
use Rattle.std.specs.Option.{option_map_or}
use Rattle.std.specs.Str.{is_utf8}
use Rattle.tx_tree.specs.Kind.{holds_children, is_screen}
use Rattle.tx_tree.specs.Mount.{is_taken}
use Rattle.tx_tree.specs.Rows.{last_above}
use Rattle.tx_tree.specs.Spelled.{is_spelled, key_is_spelled, no_line_feed}
use Rattle.tx_tree.specs.WellFormed.{IsPreorder}
use Rattle.tx_tree.specs.declared.bind.Bind.{Bind}
use Rattle.tx_tree.specs.declared.fault.TreeFault.{TreeFault}
use Rattle.tx_tree.specs.declared.fault.TreeFault.TheVariants.{Grammar, NoMemory}
use Rattle.tx_tree.specs.declared.fault.TreeKind.{TreeKind}
use Rattle.tx_tree.specs.declared.fault.TreeKind.TheVariants.{BadByte, BadIndent, TooDeep, Expected, Leaf, TooMany, DuplicateId}
use Rattle.tx_tree.specs.declared.row.Row.{Row}
use Rattle.tx_tree_file.specs.Indent.{may_indent, is_too_deep}
use Rattle.tx_tree_file.specs.Spelling.{indent, row_text, bind_text, spelling}
use Rattle.tx_tree_file.specs.TreeFile.{is_typed, bind_is_typed, read_again}

-- ---- the lines before the faulty one

-- no row has the id of an earlier one
abbrev pub ids_differ : List Row → List Row → Bool
ids_differ before [] = true
ids_differ before (row ∷ rows) = not (is_taken row.id before) && ids_differ (before ++ row ∷ []) rows

-- rows that are a tree's, or none at all
abbrev pub IsPreorderOrNone : List Row → Type 0
IsPreorderOrNone [] = Unit {0}
IsPreorderOrNone (row ∷ rows) = IsPreorder (row ∷ rows)

-- rows that the lines at the beginning of a file may spell
pub record IsBegun (rows : List Row) : Type 0 where
  pub preorder : IsPreorderOrNone rows
  pub typed : list_all is_typed rows ≡ true
  pub spelled : list_all is_spelled rows ≡ true
  pub fresh : rows ≡ read_again 1 rows
  pub ids : ids_differ [] rows ≡ true
  pub few : length rows ≤ 65536

-- the last row
abbrev pub last_row : List Row → Option Row
last_row [] = None
last_row (row ∷ []) = Some row
last_row (row ∷ next ∷ rows) = last_row (next ∷ rows)

-- how many lines the rows take: one each, and one for each binding
abbrev pub line_count : List Row → ℕ
line_count rows = sum_by (λ row. length row.binds + 1) rows

-- ---- the faulty line

-- The line spells this row, whose bindings are still to come. The first row is the Screen, and no other.
pub record SpellsRow (rows : List Row) (line : List ℕ) (row : Row) : Type 0 where
  pub typed : is_typed row ≡ true
  pub spelled : is_spelled row ≡ true
  pub text : line ≡ indent row.depth ++ row_text row
  pub alone : row.binds ≡ []
  pub screen : is_screen row.kind ≡ (length rows == 0)

-- the line spells this binding of the last row
pub record SpellsBind (rows : List Row) (line : List ℕ) (bind : Bind) : Type 0 where
  pub typed : bind_is_typed bind ≡ true
  pub spelled : key_is_spelled bind.key ≡ true
  pub last : Row
  pub behind : last_row rows ≡ Some last
  pub text : line ≡ indent (last.depth + 1) ++ bind_text bind

-- whether the parent of a row at this depth, the last row that is one less deep, may have children
abbrev pub is_held : ℕ → List Row → Bool
is_held depth rows = option_map_or (λ parent. holds_children parent.kind) (last_above depth None rows) true

-- the line is UTF-8, and its indent may stand here
pub record IsIndented (rows : List Row) (line : List ℕ) : Type 0 where
  pub utf8 : is_utf8 line ≡ true
  pub indent : may_indent (last_row rows) line ≡ true

-- nor is it too deep
pub record IsPlaced (rows : List Row) (line : List ℕ) : Type 0 where
  pub indented : IsIndented rows line
  pub shallow : is_too_deep line ≡ false

-- a whole line that spells this row
pub record IsRowLine (rows : List Row) (line : List ℕ) (ended : Bool) (row : Row) : Type 0 where
  pub placed : IsPlaced rows line
  pub whole : ended ≡ true
  pub spells : SpellsRow rows line row

-- the line spells neither a row nor a binding
pub record IsNothing (rows : List Row) (line : List ℕ) : Type 0 where
  pub no_row : (row : Row) → SpellsRow rows line row → ⊥
  pub no_bind : (bind : Bind) → SpellsBind rows line bind → ⊥

-- the line after these rows breaks this rule and none that comes before it
abbrev pub Breaks : List Row → List ℕ → Bool → TreeKind → Type 0
Breaks rows line ended BadByte = is_utf8 line ≡ false
Breaks rows line ended BadIndent = (is_utf8 line ≡ true) × (may_indent (last_row rows) line ≡ false)
Breaks rows line ended TooDeep = IsIndented rows line × (is_too_deep line ≡ true)
Breaks rows line ended Expected = IsPlaced rows line × ((ended ≡ false) ⊎ IsNothing rows line)
Breaks rows line ended Leaf = (row : Row) × IsRowLine rows line ended row × (is_held row.depth rows ≡ false)
Breaks rows line ended TooMany =
    (row : Row) × IsRowLine rows line ended row × (is_held row.depth rows ≡ true) × (length rows ≡ 65536)
Breaks rows line ended DuplicateId =
    (row : Row) × IsRowLine rows line ended row × (is_held row.depth rows ≡ true) × (length rows ≢ 65536) × (is_taken row.id rows ≡ true)

-- ---- the fault

-- the bytes after a line: its line feed and all else, or nothing
abbrev pub is_line_end : List ℕ → Bool
is_line_end [] = true
is_line_end (byte ∷ bytes) = byte == 10

abbrev pub is_ended : List ℕ → Bool
is_ended [] = false
is_ended (byte ∷ bytes) = true

-- The lines before this one spell rows, and this one breaks a rule. The end of the bytes is a line of its own only
-- where nothing stands before it.
pub record IsFirstFault (bytes : List ℕ) (number : ℕ) (kind : TreeKind) : Type 0 where
  pub rows : List Row
  pub line : List ℕ
  pub after : List ℕ
  pub begun : IsBegun rows
  pub place : bytes ≡ spelling rows ++ (line ++ after)
  pub whole : list_all no_line_feed line ≡ true
  pub ends : is_line_end after ≡ true
  pub more : (rows ≡ []) ⊎ (line ++ after ≢ [])
  pub counted : number ≡ line_count rows + 1
  pub broken : Breaks rows line (is_ended after) kind

-- what a reader of a tree file may be refused for
abbrev pub IsFaultOf : List ℕ → TreeFault → Type 0
IsFaultOf bytes (Grammar line kind) = IsFirstFault bytes line kind
IsFaultOf bytes NoMemory = Unit {0}
IsFaultOf bytes fault = ⊥
