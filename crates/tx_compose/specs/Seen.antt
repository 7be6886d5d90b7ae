-- Which rows of a map are visible, by the number of a node.
use Rattle.std.specs.Prelude.{◌≡◌, ℕ, Bool, List, Option, option_map}
use Rattle.tx_map.specs.Lookup.{entry_of}
use Rattle.tx_map.specs.declared.entry.Entry.{Entry}

-- each number that has an entry has whether that is seen, and no other number has anything
abbrev pub AreSeen : (Entry → Bool) → List Entry → (ℕ → Option Bool) → Type 0
AreSeen is_seen entries seen = (n : ℕ) → seen n ≡ option_map is_seen (entry_of n entries)
