-- The entry of a row.
use Rattle.std.specs.Prelude.{◌≡◌, ℕ, ◌==◌, Bool, List, Option, find}
use Rattle.std.specs.List.{position_from}
use Rattle.tx_map.specs.declared.entry.Entry.{Entry}

-- whether an entry is that of a node
abbrev pub is_of : ℕ → Entry → Bool
is_of n entry = n == entry.node.0

-- the entry of a node, if it has one
abbrev pub entry_of : ℕ → List Entry → Option Entry
entry_of n entries = find (is_of n) entries

-- the entries from a place on stand where they are looked up
abbrev pub AreFound : (ℕ → Option ℕ) → ℕ → List Entry → Type 0
AreFound places first entries = (n : ℕ) → places n ≡ position_from (is_of n) first entries
