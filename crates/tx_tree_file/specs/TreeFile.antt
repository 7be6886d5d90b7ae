-- What a tree file stands for.
use Rattle.std.specs.Prelude.{◌≡◌, ℕ, ◌+◌, ◌&&◌, Bool, true, List, [], ◌∷◌, length, Option, Some, None}
use Rattle.std.specs.List.{list_all}
use Rattle.std.specs.Str.{is_utf8, all_scalars}
use Rattle.tx_tree.specs.Kind.{fresh}
use Rattle.tx_text.specs.Name.{is_name}
use Rattle.tx_tree.specs.Row.{plain}
use Rattle.tx_tree.specs.Spelled.{is_spelled}
use Rattle.tx_tree.specs.TreeValue.{TreeValue}
use Rattle.tx_tree.specs.declared.bind.Action.{Action}
use Rattle.tx_tree.specs.declared.bind.Action.TheVariants.{ToggleClass}
use Rattle.tx_tree.specs.declared.bind.Bind.{Bind}
use Rattle.tx_tree.specs.declared.bind.Key.{Key}
use Rattle.tx_tree.specs.declared.bind.Key.TheVariants.{Char}
use Rattle.tx_tree.specs.declared.kind.Kind.{Kind}
use Rattle.tx_tree.specs.declared.kind.Kind.TheVariants.{Handed}
use Rattle.tx_tree.specs.declared.kind.Private.{Private}
use Rattle.tx_tree.specs.declared.kind.Private.TheVariants.{On, Bar}
use Rattle.tx_tree.specs.declared.row.Row.{Row}
use Rattle.tx_tree_file.specs.Spelling.{spelling}

-- ---- what every row in a tree is by its types: names are names, texts are UTF-8, characters are characters

abbrev pub id_is_typed : Option (List ℕ) → Bool
id_is_typed None = true
id_is_typed (Some id) = is_name id

abbrev pub kind_is_typed : Kind → Bool
kind_is_typed (Handed name) = is_name name
kind_is_typed kind = true

abbrev pub key_is_typed : Key → Bool
key_is_typed (Char c) = all_scalars (c ∷ [])
key_is_typed key = true

abbrev pub action_is_typed : Action → Bool
action_is_typed (ToggleClass name) = is_name name
action_is_typed action = true

abbrev pub bind_is_typed : Bind → Bool
bind_is_typed bind = key_is_typed bind.key && action_is_typed bind.action

-- a row without its bindings
abbrev pub line_is_typed : Row → Bool
line_is_typed row =
    kind_is_typed row.kind
    && (id_is_typed row.id
    && (list_all is_name row.classes.names
    && (is_utf8 row.text
    && is_utf8 row.inline)))

abbrev pub is_typed : Row → Bool
is_typed row =
    kind_is_typed row.kind
    && (id_is_typed row.id
    && (list_all is_name row.classes.names
    && (is_utf8 row.text
    && (is_utf8 row.inline
    && list_all bind_is_typed row.binds))))

-- ---- what is read

-- what a file keeps of a private state: that a box is on, and the total of a bar
abbrev pub kept : Kind → ℕ → Private → Private
kept kind size (On b) = On b
kept kind size (Bar done total) = Bar 0 total
kept kind size private = fresh kind size

-- a row as it is read again: with this number, and with what is kept of its state
abbrev pub read_row : ℕ → Row → Row
read_row n row = record (plain row) { node = record { 0 = n }; private = kept row.kind (length row.text) row.private }

-- the rows as they are read again, numbered in order from n on
abbrev pub read_again : ℕ → List Row → List Row
read_again n [] = []
read_again n (row ∷ rows) = read_row n row ∷ read_again (n + 1) rows

-- the tree is what the bytes spell: its rows are numbered from 1 on in document order, their state is fresh but for
-- what a file keeps, and no further node was made
pub record IsReading (bytes : List ℕ) (tree : TreeValue) : Type 0 where
  pub typed : list_all is_typed tree.rows ≡ true
  pub spelled : list_all is_spelled tree.rows ≡ true
  pub text : bytes ≡ spelling tree.rows
  pub fresh : tree.rows ≡ read_again 1 tree.rows
  pub made : tree.made ≡ length tree.rows
