-- What moves with a row, and what a scroll moves.
use Rattle.std.specs.Prelude.{◌≡◌, ⊤, ℕ, List, [], ◌∷◌, Option, Ok, Err}
use Rattle.tx_geom.specs.Region.{moved}
use Rattle.tx_geom.specs.declared.places.Offset.{Offset}
use Rattle.tx_geom.specs.declared.places.Region.{Region}
use Rattle.tx_map.specs.LayoutMap.{Mapped, Container, scrolled_by}
use Rattle.tx_map.specs.Scene.{Scene}
use Rattle.tx_map.specs.Subtrees.{child_entries, place_at, subtree_entries}
use Rattle.tx_map.specs.declared.entry.Entry.{Entry}
use Rattle.tx_sizes.specs.Forest.{Styled}
use Rattle.tx_value.specs.StyleReads.{dock}

-- an entry that stands elsewhere, of which this region can show, and which is the same else
abbrev pub elsewhere : Offset → Region → Entry → Entry
elsewhere by clip entry = record entry { region = moved entry.region by; clip = clip }

-- entries are others that stand elsewhere, in their order
abbrev pub AreMoved : Offset → List Entry → List Entry → Type 0
AreMoved by [] [] = ⊤
AreMoved by [] (other ∷ others) = ⊥
AreMoved by (entry ∷ entries) [] = ⊥
AreMoved by (entry ∷ entries) (other ∷ others) = (other ≡ elsewhere by other.clip entry) × AreMoved by entries others

-- so they are where there are some, and else the same container is undefined
abbrev pub Moves : Offset → Mapped (List Entry) → Mapped (List Entry) → Type 0
Moves by (Ok entries) (Ok others) = AreMoved by entries others
Moves by (Ok entries) (Err fault) = ⊥
Moves by (Err fault) (Ok others) = ⊥
Moves by (Err fault) (Err other) = fault ≡ other

-- A row that stands elsewhere takes the rows below it along by as much, however they are clipped.
abbrev pub SubtreesMove : Type 0
SubtreesMove =
    (scene : Scene) (row : Styled) (behind : List Styled) (region clip seen : Region) (key : List ℕ) (by : Offset)
    → Moves by (subtree_entries scene row behind (place_at region clip key)) (subtree_entries scene row behind (place_at (moved region by) seen key))

-- a container whose children aren't scrolled
abbrev pub unscrolled : Container → Container
unscrolled above = record above { scroll = (0, 0) }

-- A child of a container, with the rows below it, stands where it does without the scroll, but moved by it to the left and up, where it
-- follows others; a docked one isn't moved.
abbrev pub ScrollsMove : Type 0
ScrollsMove =
    (scene : Scene) (row : Styled) (behind : List Styled) (above : Container) (place : ℕ) (regions : List (Option Region))
    → Moves (scrolled_by (dock row.style) above.scroll) (child_entries scene row behind (unscrolled above) place regions) (child_entries scene row behind above place regions)
