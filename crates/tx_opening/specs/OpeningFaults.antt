-- Which files an application opens with, and which fault of a tree file is the first.
use Rattle.std.specs.Prelude.{◌≡◌, ◌<◌, ◌+◌, ◌-◌, ◌^◌, ℕ, min, Bool, true, false, not, List, [], ◌∷◌, ◌++◌, length, Ok, Err}
use Rattle.std.specs.List.{All, list_all}
use Rattle.tx_parse.specs.Default.{sheet_value}
use Rattle.tx_parse.specs.Grammar.{Body, Found}
use Rattle.tx_parse.specs.Texts.{IsInlineText, IsSheetText}
use Rattle.tx_tree.specs.Kind.{is_handed}
use Rattle.tx_tree.specs.TreeValue.{TreeValue}
use Rattle.tx_tree.specs.WellFormed.{IsTree}
use Rattle.tx_tree.specs.declared.row.Row.{Row}
use Rattle.tx_tree_file.specs.FirstFault.{IsFirstFault, line_count}
use Rattle.tx_tree_file.specs.TreeFile.{IsReading}
use Rattle.tx_tree_file.specs.TreeReading.{tree_of}
use Rattle.tx_opening.specs.OpeningReading.{is_unknown, is_unread, opening_of, rows_of}
use Rattle.tx_opening.specs.declared.fault.RowsRefusal.{RowsRefusal}
use Rattle.tx_opening.specs.declared.fault.RowsRefusal.TheVariants.{Tree, NoCustom, Inline}

-- no row is of a kind that is to be handed in
abbrev pub AreBuiltIn : List Row → Type 0
AreBuiltIn rows = All (λ row. is_handed row.kind ≡ false) rows

-- the inline text of a row is in the grammar
pub record IsInline (row : Row) : Type 0 where
  pub body : Body
  pub short : length row.inline < 2 ^ 32
  pub grammar : IsInlineText row.inline body

-- A file spells a tree of built-in kinds, whose inline texts are in the grammar, and another file is a sheet.
pub record IsOpening (tree sheet : List ℕ) (value : TreeValue) (found : Found) : Type 0 where
  pub sound : IsTree value
  pub spells : IsReading tree value
  pub built_in : AreBuiltIn value.rows
  pub inline : All IsInline value.rows
  pub grammar : IsSheetText sheet found

-- such files are read
abbrev pub OpeningsAreRead : Type 0
OpeningsAreRead = (tree sheet : List ℕ) (value : TreeValue) (found : Found) → IsOpening tree sheet value found
    → opening_of [] tree sheet ≡ Ok (record { rows = value.rows; sheet = sheet_value found })

-- ---- the first fault of a tree file

-- Of these rows, the first of which stands in a line, the first that is so stands in another. The count saturates at 2^32 - 1.
pub record IsFirstRow (is : Row → Bool) (rows : List Row) (start line : ℕ) : Type 0 where
  pub front : List Row
  pub row : Row
  pub behind : List Row
  pub are : rows ≡ front ++ (row ∷ behind)
  pub before : list_all (λ r. not (is r)) front ≡ true
  pub so : is row ≡ true
  pub place : line ≡ min (line_count front + start) (2 ^ 32 - 1)

-- The line breaks the grammar, or, where none does, it is that of the first row of an unknown kind, or, where there is none, that of the
-- first row whose inline text is outside the grammar.
abbrev pub IsFirstOf : List ℕ → ℕ → RowsRefusal → Type 0
IsFirstOf bytes line (Tree kind) = IsFirstFault bytes line kind
IsFirstOf bytes line NoCustom = (rows : List Row) × (tree_of bytes ≡ Ok rows) × IsFirstRow (is_unknown []) rows 1 line
IsFirstOf bytes line Inline = (rows : List Row) × (tree_of bytes ≡ Ok rows) × AreBuiltIn rows × IsFirstRow is_unread rows 1 line

-- what is reported of a tree file is its first fault
abbrev pub FaultsAreFirst : Type 0
FaultsAreFirst = (bytes : List ℕ) (line : ℕ) (kind : RowsRefusal) → rows_of [] bytes ≡ Err (line, kind) → IsFirstOf bytes line kind
