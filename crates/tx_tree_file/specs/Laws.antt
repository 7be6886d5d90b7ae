-- Laws of tree files.
use Rattle.std.specs.Prelude.{◌≡◌, ℕ, true, List, length, Ok, Err}
use Rattle.std.specs.List.{list_all}
use Rattle.tx_tree.specs.Spelled.{is_spelled}
use Rattle.tx_tree.specs.TreeValue.{TreeValue}
use Rattle.tx_tree.specs.WellFormed.{IsTree}
use Rattle.tx_tree.specs.declared.fault.TreeKind.{TreeKind}
use Rattle.tx_tree.specs.declared.row.Row.{Row}
use Rattle.tx_tree_file.specs.FirstFault.{IsFirstFault}
use Rattle.tx_tree_file.specs.Spelling.{spelling}
use Rattle.tx_tree_file.specs.TreeFile.{IsReading, is_typed, read_again}
use Rattle.tx_tree_file.specs.TreeReading.{tree_of}

-- no two texts are read as the same rows
abbrev pub OneText : Type 0
OneText = (a b : List ℕ) (rows : List Row) → tree_of a ≡ Ok rows → tree_of b ≡ Ok rows → a ≡ b

-- The rows of a tree that is spelled are read again, numbered anew and with what is kept of their state. A tree's rows
-- are as their types say.
abbrev pub ReadAgain : Type 0
ReadAgain =
    (tree : TreeValue) → IsTree tree → list_all is_typed tree.rows ≡ true → list_all is_spelled tree.rows ≡ true
    → tree_of (spelling tree.rows) ≡ Ok (read_again 1 tree.rows)

-- What is read of a file is the tree that it spells, and a tree that it spells is read.
abbrev pub FilesAreRead : Type 0
FilesAreRead = (bytes : List ℕ) (tree : TreeValue)
    → (tree_of bytes ≡ Ok tree.rows → tree.made ≡ length tree.rows → IsReading bytes tree)
    × (IsTree tree → IsReading bytes tree → tree_of bytes ≡ Ok tree.rows)

-- What is told of a file is its first fault, and a first fault is told. So there is only one.
abbrev pub OneFault : Type 0
OneFault = (bytes : List ℕ) (number : ℕ) (kind : TreeKind)
    → (tree_of bytes ≡ Err (record { line = number; kind = kind }) → IsFirstFault bytes number kind)
    × (IsFirstFault bytes number kind → tree_of bytes ≡ Err (record { line = number; kind = kind }))
