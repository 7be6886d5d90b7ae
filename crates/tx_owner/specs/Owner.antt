-- Which row of a layout map owns each cell of the screen.
use Rattle.std.specs.Prelude.{ℕ, ◌+◌, ℤ, pos, ◌+ℤ◌, Bool, true, false, not, ◌&&◌, ◌||◌, List, [], ◌∷◌, int_lt, map, Option, Some, None, option_map, option_and_then, slice_get}
use Rattle.std.specs.Option.{option_or}
use Rattle.std.specs.List.{filter, position_from, range_with_len}
use Rattle.tx_cascade.specs.Key.{greatest}
use Rattle.tx_geom.specs.declared.places.Region.{Region}
use Rattle.tx_geom.specs.declared.places.Size.{Size}
use Rattle.tx_map.specs.Lookup.{is_of}
use Rattle.tx_map.specs.declared.entry.Entry.{Entry}
use Rattle.tx_sizes.specs.Forest.{Styles}
use Rattle.tx_tree.specs.declared.row.NodeId.{NodeId}
use Rattle.tx_value.specs.StyleReads.{is_visible}
use Rattle.tx_value.specs.declared.value.Value.{Value}

-- ---- where an entry shows

-- whether a row with this style is visible; one without a style is
abbrev pub is_visible_by : Option (List Value) → Bool
is_visible_by None = true
is_visible_by (Some style) = is_visible style

-- the Screen has the empty key, and no other row has it
abbrev pub is_empty_key : List ℕ → Bool
is_empty_key [] = true
is_empty_key (part ∷ parts) = false

-- an entry is seen where its row is visible, and that of the Screen is always seen
abbrev pub is_seen : Styles → Entry → Bool
is_seen styles entry = is_empty_key entry.key || is_visible_by (styles entry.node.0)

-- whether a column or row of the screen is one of so many from a place on
abbrev pub is_among : ℤ → ℕ → ℕ → Bool
is_among from count at = not (int_lt (pos at) from) && int_lt (pos at) (from +ℤ pos count)

-- whether a cell of the screen is one of a region's
abbrev pub is_within : Region → ℕ → ℕ → Bool
is_within region x y = is_among region.x region.width x && is_among region.y region.height y

-- whether an entry shows at a cell: it is seen, and both its region and its clip hold the cell
unfoldable pub shows_at : Styles → ℕ → ℕ → Entry → Bool
shows_at styles x y entry = is_seen styles entry && (is_within entry.region x y && is_within entry.clip x y)

-- ---- who owns a cell

-- an entry with its place among those of its map
pub record Placed : Type 0 where
  pub place : ℕ
  pub entry : Entry

-- entries with their places, from this one on
abbrev pub placed_from : ℕ → List Entry → List Placed
placed_from place [] = []
placed_from place (entry ∷ entries) = record { place = place; entry = entry } ∷ placed_from (place + 1) entries

-- those that show at a cell
abbrev pub all_at : Styles → List Entry → ℕ → ℕ → List Placed
all_at styles entries x y = filter (λ placed. shows_at styles x y placed.entry) (placed_from 0 entries)

-- The one of greatest key among all that show at a cell, if any does. Keys are compared part by part, and one that goes on where another
-- ends is the greater. Of equal keys, which no map of a tree has, the first one counts.
abbrev pub topmost : Styles → List Entry → ℕ → ℕ → Option Placed
topmost styles entries x y = greatest (λ placed. placed.entry.key) (all_at styles entries x y)

-- the owner of a cell, by its place among the entries
unfoldable pub owner : Styles → List Entry → ℕ → ℕ → Option ℕ
owner styles entries x y = option_map (λ placed. placed.place) (topmost styles entries x y)

-- and by its node
abbrev pub owner_node : Styles → List Entry → ℕ → ℕ → Option NodeId
owner_node styles entries x y = option_map (λ placed. placed.entry.node) (topmost styles entries x y)

-- the owners of the cells of a line
abbrev pub line_owners : Styles → List Entry → ℕ → ℕ → List (Option ℕ)
line_owners styles entries width y = map (λ x. owner styles entries x y) (range_with_len 0 width)

-- the owners of all cells of a screen, line by line
abbrev pub owners : Styles → List Entry → Size → List (List (Option ℕ))
owners styles entries size = map (λ y. line_owners styles entries size.width y) (range_with_len 0 size.height)

-- what stands at a cell, where there is one
abbrev pub at_cell : List (List (Option ℕ)) → ℕ → ℕ → Option ℕ
at_cell lines x y = option_and_then (λ line. option_and_then (λ place. place) (slice_get line x)) (slice_get lines y)

-- ---- where a row is met first

-- whether an entry, if there is one, is that of a node
abbrev pub is_some_of : ℕ → Option Entry → Bool
is_some_of n None = false
is_some_of n (Some entry) = is_of n entry

-- whether the entry at a place, if there is one, is
abbrev pub is_entry_of : List Entry → ℕ → Option ℕ → Bool
is_entry_of entries n owner = is_some_of n (option_and_then (slice_get entries) owner)

-- the first cell of a line that passes a test
abbrev pub first_in : (Option ℕ → Bool) → ℕ → List (Option ℕ) → Option (ℕ × ℕ)
first_in test y line = option_map (λ x. (x, y)) (position_from test 0 line)

-- the first cell that does in lines from this one on, line by line
abbrev pub first_cell : (Option ℕ → Bool) → ℕ → List (List (Option ℕ)) → Option (ℕ × ℕ)
first_cell test y [] = None
first_cell test y (line ∷ lines) = option_or (first_in test y line) (first_cell test (y + 1) lines)

-- the first cell that a row owns, line by line from the top left
abbrev pub spot : List Entry → List (List (Option ℕ)) → ℕ → Option (ℕ × ℕ)
spot entries lines n = first_cell (is_entry_of entries n) 0 lines
