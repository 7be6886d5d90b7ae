-- How a match is looked for from a row upwards. A list of truth values goes with the compounds: which of them may be placed at
-- the row that is looked at, those after it being placed below.
use Rattle.std.specs.Prelude.{ℕ, ◌&&◌, ◌||◌, Bool, true, false, not, List, [], ◌∷◌}
use Rattle.std.specs.List.{list_any}
use Rattle.std.specs.Option.{option_map_or}
use Rattle.tx_tree.specs.Rows.{row_at, ancestors_of}
use Rattle.tx_tree.specs.declared.row.Row.{Row}
use Rattle.tx_select.specs.Holds.{compound_holds}
use Rattle.tx_select.specs.declared.value.Compound.{Compound}
use Rattle.tx_select.specs.declared.value.Pseudo.{Pseudo as State}

abbrev pub Test : Type 0
Test = Compound → Bool

-- at the row asked, the last compound alone
abbrev pub is_last : List Compound → Bool
is_last [] = true
is_last (next ∷ compounds) = false

unfoldable pub opened : List Compound → List Bool
opened [] = []
opened (compound ∷ compounds) = is_last compounds ∷ opened compounds

-- the first compound is placed at this row
abbrev pub first_placed : Test → List Compound → List Bool → Bool
first_placed test (compound ∷ compounds) (here ∷ opens) = here && test compound
first_placed test _ _ = false

-- a compound may be placed further up too, where it is joined as an ancestor to the one after it
abbrev pub stays_open : List Compound → Bool
stays_open [] = false
stays_open (next ∷ compounds) = not next.child

-- some compound may be placed at this row
abbrev pub some_open : List Bool → Bool
some_open opens = list_any (λ here. here) opens

-- which compounds may be placed one row further up
unfoldable pub open_above : Test → List Compound → List Bool → List Bool
open_above test (compound ∷ compounds) (here ∷ opens) =
    (first_placed test compounds opens || (here && stays_open compounds)) ∷ open_above test compounds opens
open_above test _ opens = opens

-- the first compound is placed at one of these rows, each the parent of the one before
unfoldable pub is_placed : (Row → Test) → List Compound → List Bool → List Row → Bool
is_placed test compounds opens [] = false
is_placed test compounds opens (row ∷ rows) =
    first_placed (test row) compounds opens || is_placed test compounds (open_above (test row) compounds opens) rows

-- from a row with its ancestors
unfoldable pub climbs_from : State → List Row → List Compound → Row → Bool
climbs_from state rows compounds row = is_placed (compound_holds state rows) compounds (opened compounds) (row ∷ ancestors_of row.node.0 rows)

-- whether compounds match the row with a number
unfoldable pub is_match : State → List Row → List Compound → ℕ → Bool
is_match state rows compounds n = option_map_or (climbs_from state rows compounds) (row_at n rows) false
