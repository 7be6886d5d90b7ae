-- Which rows have entries.
use Rattle.std.specs.Prelude.{◌≡◌, ⊤, ◌⊎◌, ℕ, ◌+◌, List, [], ◌∷◌, if◌then◌else◌}
use Rattle.tx_map.specs.Lookup.{is_of}
use Rattle.tx_map.specs.declared.entry.Entry.{Entry}
use Rattle.tx_tree.specs.declared.row.Row.{Row}

-- The entries are those of some of the rows: one for each of these, in the order of the rows.
abbrev pub AreOfRows : List Entry → List Row → Type 0
AreOfRows [] rows = ⊤
AreOfRows (entry ∷ entries) [] = ⊥
AreOfRows (entry ∷ entries) (row ∷ rows) = ((entry.node ≡ row.node) × AreOfRows entries rows) ⊎ AreOfRows (entry ∷ entries) rows

-- how many entries a node has
abbrev pub entry_count : ℕ → List Entry → ℕ
entry_count n [] = 0
entry_count n (entry ∷ entries) = (if is_of n entry then 1 else 0) + entry_count n entries
