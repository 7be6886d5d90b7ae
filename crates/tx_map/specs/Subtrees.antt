-- A row and the rows after it in preorder.
use Rattle.std.specs.Prelude.{◌≡◌, ℕ, ◌≤◌, All, List, [], Option, Result, Ok, if◌then◌else◌}
use Rattle.tx_geom.specs.declared.choices.Axis.{Axis}
use Rattle.tx_geom.specs.declared.places.Region.{Region}
use Rattle.tx_geom.specs.declared.places.Size.{Size}
use Rattle.tx_map.specs.LayoutMap.{Mapped, Place, Container, barred_row, row_entries, entries, entries_if, first_region, child_place}
use Rattle.tx_map.specs.Scene.{Scene}
use Rattle.tx_map.specs.declared.entry.Entry.{Entry}
use Rattle.tx_map.specs.declared.places.Frame.{Frame}
use Rattle.tx_node_map.specs.Held.{nothing}
use Rattle.tx_scroll.specs.declared.trials.Barred.{Barred}
use Rattle.tx_sizes.specs.Forest.{Styled, Forest, depth, forest, under}
use Rattle.tx_sizes.specs.Measures.{Pictures, boxes, is_taking_part, measures}
use Rattle.tx_value.specs.declared.value.Value.{Value}

-- the rows below a row, which are among those after it
abbrev pub rows_below : Styled → List Styled → Forest
rows_below row behind = under (depth row) (forest behind)

-- the bars of such a row, with a content of this size
abbrev pub barred_in : Pictures → Size → Styled → List Styled → Size → Result Barred Axis
barred_in pictures screen row behind content =
    barred_row screen row (boxes row.style (rows_below row behind)) (measures pictures screen (rows_below row behind)) content

-- its entry and those of the rows below it
abbrev pub subtree_entries : Scene → Styled → List Styled → Place → Mapped (List Entry)
subtree_entries scene row behind place =
    row_entries scene row (boxes row.style (rows_below row behind)) (measures scene.pictures scene.size (rows_below row behind))
    (λ within. entries scene (rows_below row behind) within 0) place

-- what the map depends on beside the rows and their styles: the pictures, how far rows are scrolled, and the size of the screen
abbrev pub setting : Pictures → (ℕ → Option (ℕ × ℕ)) → Size → Scene
setting pictures scrolls size = record { rows = []; styles = nothing; pictures = pictures; scrolls = scrolls; size = size }

-- where a row stands
abbrev pub place_at : Region → Region → List ℕ → Place
place_at region clip key = record { region = region; clip = clip; key = key }

-- a container of this style and key, as its children see it
abbrev pub seen_container : List Value → Frame → List ℕ → Container
seen_container style frame key = record { style = style; viewport = frame.viewport; clip = frame.clip; scroll = frame.scroll; key = key }

-- the entries of one child, from whose region on these are
abbrev pub child_entries : Scene → Styled → List Styled → Container → ℕ → List (Option Region) → Mapped (List Entry)
child_entries scene row behind above place regions =
    if is_taking_part row then entries_if (λ region. subtree_entries scene row behind (child_place above row place region)) (first_region regions) else Ok []

-- how many of the regions are its own
abbrev pub regions_taken : Styled → ℕ
regions_taken row = if is_taking_part row then 1 else 0

-- the entries of all children of a container at a depth
abbrev pub children_entries : Scene → ℕ → List Styled → Container → List (Option Region) → Mapped (List Entry)
children_entries scene depth rows above regions = entries scene (under depth (forest rows)) above 0 regions

-- the first row is that of the Screen, and none is deeper than 63
pub record IsRooted (own : Styled) (behind : List Styled) : Type 0 where
  pub first : depth own ≡ 0
  pub deep : All (λ row. depth row ≤ 63) behind
