-- Which rows have a spelling in a tree file.
use Rattle.std.specs.Prelude.{ℕ, ◌==◌, ◌&&◌, ◌||◌, Bool, true, false, not, nat_le, List, [], ◌∷◌, is_some}
use Rattle.std.specs.List.{list_all}
use Rattle.std.specs.Char.{is_ascii_uppercase}
use Rattle.tx_tree.specs.Classes.{has_name}
use Rattle.tx_tree.specs.Kind.{kind_named, has_form}
use Rattle.tx_tree.specs.declared.bind.Key.{Key}
use Rattle.tx_tree.specs.declared.bind.Key.TheVariants.{Char, Function, Ctrl}
use Rattle.tx_tree.specs.declared.kind.Kind.{Kind}
use Rattle.tx_tree.specs.declared.kind.Kind.TheVariants.{Handed}
use Rattle.tx_tree.specs.declared.kind.Private.{Private}
use Rattle.tx_tree.specs.declared.kind.Private.TheVariants.{Bar}
use Rattle.tx_tree.specs.declared.row.Row.{Row}

-- no name stands twice
abbrev pub no_repeats : List (List ℕ) → Bool
no_repeats [] = true
no_repeats (name ∷ names) = not (has_name name names) && no_repeats names

-- whether a name is that of a built-in kind
abbrev pub is_built_in : List ℕ → Bool
is_built_in name = is_some (kind_named name)

-- whether the first byte is a capital letter
abbrev pub begins_capital : List ℕ → Bool
begins_capital [] = false
begins_capital (byte ∷ bytes) = is_ascii_uppercase byte

-- whether a kind has a spelling: a handed-in name begins with a capital letter and isn't built in
abbrev pub kind_is_spelled : Kind → Bool
kind_is_spelled (Handed name) = begins_capital name && not (is_built_in name)
kind_is_spelled _ = true

-- whether a byte of a text has a spelling: none below 0x20 but the tab and the line feed
abbrev pub byte_is_spelled : ℕ → Bool
byte_is_spelled byte = (nat_le 32 byte || byte == 9) || byte == 10

-- whether a byte isn't the line feed
abbrev pub no_line_feed : ℕ → Bool
no_line_feed byte = not (byte == 10)

-- whether a key has a spelling: a character that isn't a control one, f1 to f12, ctrl+a to ctrl+z
abbrev pub key_is_spelled : Key → Bool
key_is_spelled (Char c) = nat_le 32 c && not (nat_le 127 c && nat_le c 159)
key_is_spelled (Function n) = nat_le 1 n && nat_le n 12
key_is_spelled (Ctrl byte) = nat_le 97 byte && nat_le byte 122
key_is_spelled _ = true

-- whether the total of a progress bar has a spelling
abbrev pub total_is_spelled : Private → Bool
total_is_spelled (Bar done total) = nat_le 1 total && nat_le total 1000000
total_is_spelled _ = true

-- whether a private state has a spelling at a kind: it is of the kind's form
abbrev pub private_is_spelled : Kind → Private → Bool
private_is_spelled kind private = has_form kind private && total_is_spelled private

-- whether a row has a spelling
abbrev pub is_spelled : Row → Bool
is_spelled row =
    no_repeats row.classes.names
    && (kind_is_spelled row.kind
    && (list_all byte_is_spelled row.text
    && (list_all no_line_feed row.inline
    && (list_all (λ bind. key_is_spelled bind.key) row.binds
    && private_is_spelled row.kind row.private))))
