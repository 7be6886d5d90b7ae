-- What is spelled as in a tree file by other texts too: a word, the name of a key, a text in quotes, a row.
use Rattle.std.specs.Prelude.{◌≡◌, ℕ, ◌==◌, Bool, true, false, not, List, [], ◌∷◌, ◌++◌, length, flat_map, Some, codes}
use Rattle.std.specs.List.{list_all}
use Rattle.std.specs.Str.{is_utf8}
use Rattle.tx_tree.specs.Row.{placed}
use Rattle.tx_tree.specs.Spelled.{is_spelled, no_line_feed, byte_is_spelled, key_is_spelled}
use Rattle.tx_tree.specs.declared.bind.Key.{Key}
use Rattle.tx_tree.specs.declared.row.NewRow.{NewRow}
use Rattle.tx_tree_file.specs.Parts.{key_of, quoted}
use Rattle.tx_tree_file.specs.Spelling.{escaped, key_name, row_text}
use Rattle.tx_tree_file.specs.TreeFile.{key_is_typed, is_typed, kept}
use Rattle.tx_tree_file.specs.TreeReading.{row_of}

-- ---- words

abbrev pub no_blank : ℕ → Bool
no_blank byte = not (byte == 32)

-- a word ends where nothing stands, or a blank
abbrev pub Stops : List ℕ → Type 0
Stops [] = Unit {0}
Stops (byte ∷ bytes) = byte ≡ 32

-- ---- keys

-- the bytes are the name of this key
pub record IsKeyName (name : List ℕ) (key : Key) : Type 0 where
  pub text : name ≡ key_name key
  pub spelled : key_is_spelled key ≡ true
  pub typed : key_is_typed key ≡ true

-- ---- texts in quotes

abbrev pub in_quotes : List ℕ → List ℕ
in_quotes text = codes "\"" ++ (flat_map escaped text ++ codes "\"")

-- the bytes are this text in quotes; it has no byte below 0x20 but the tab and the line feed
pub record IsQuoted (bytes text : List ℕ) : Type 0 where
  pub is : bytes ≡ in_quotes text
  pub spelled : list_all byte_is_spelled text ≡ true

-- ---- rows

-- the bytes are the line of this row without indent and line feed; it has no bindings, and the state that a line gives
pub record IsNewRow (bytes : List ℕ) (new : NewRow) : Type 0 where
  pub text : bytes ≡ row_text (placed new 0 0)
  pub typed : is_typed (placed new 0 0) ≡ true
  pub spelled : is_spelled (placed new 0 0) ≡ true
  pub alone : new.binds ≡ []
  pub state : new.private ≡ kept new.kind (length new.text) new.private

-- ---- laws

-- A key is read exactly of its name. So are a text in quotes, with whatever stands after it, and a row of a line.
abbrev pub WordsAreRead : Type 0
WordsAreRead =
    ((name : List ℕ) (key : Key) → (key_of name ≡ Some key → IsKeyName name key) × (IsKeyName name key → key_of name ≡ Some key))
    × ((bytes text rest : List ℕ)
    → (quoted false bytes ≡ Some (text, rest) → (front : List ℕ) × (34 ∷ bytes ≡ front ++ rest) × IsQuoted front text)
    × (IsQuoted (34 ∷ bytes) text → quoted false (bytes ++ rest) ≡ Some (text, rest)))
    × ((bytes : List ℕ) (new : NewRow)
    → (list_all no_line_feed bytes ≡ true → row_of bytes ≡ Some new → IsNewRow bytes new) × (IsNewRow bytes new → row_of bytes ≡ Some new))
