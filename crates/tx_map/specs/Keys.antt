-- What is before what: the order of keys.
use Rattle.std.specs.Prelude.{◌≡◌, ◌⊎◌, ⊤, ℕ, ◌<◌, true, List, [], ◌∷◌, Option, Ok, All}
use Rattle.tx_cascade.specs.Key.{exceeds}
use Rattle.tx_geom.specs.declared.places.Region.{Region}
use Rattle.tx_look.specs.Layers.{layer_number}
use Rattle.tx_map.specs.LayoutMap.{Place, Container, docked_number, layout_map}
use Rattle.tx_map.specs.Scene.{Scene}
use Rattle.tx_map.specs.Subtrees.{child_entries, subtree_entries}
use Rattle.tx_map.specs.declared.entry.Entry.{Entry}
use Rattle.tx_sizes.specs.Forest.{Styled}
use Rattle.tx_value.specs.StyleReads.{dock}

-- ---- no two are the same

-- no entry has the key of a later one
abbrev pub AreApart : List Entry → Type 0
AreApart [] = ⊤
AreApart (entry ∷ entries) = All (λ (other : Entry). ¬ (entry.key ≡ other.key)) entries × AreApart entries

-- no two entries of a map have one key
abbrev pub KeysDiffer : Type 0
KeysDiffer = (scene : Scene) (entries : List Entry) → layout_map scene ≡ Ok entries → AreApart entries

-- only the first entry, which is that of the Screen, has the empty key
abbrev pub ScreenAloneIsLowest : Type 0
ScreenAloneIsLowest = (scene : Scene) (first : Entry) (others : List Entry) → layout_map scene ≡ Ok (first ∷ others) → (first.key ≡ []) × All (λ (other : Entry). ¬ (other.key ≡ [])) others

-- ---- the order

-- one entry is before another: its key is the greater
abbrev pub IsBefore : Entry → Entry → Type 0
IsBefore one other = exceeds one.key other.key ≡ true

-- each of some is before each of others
abbrev pub AreBefore : List Entry → List Entry → Type 0
AreBefore ones others = All (λ one. All (IsBefore one) others) ones

-- a number is the greater, or it is the same and more holds
abbrev pub IsGreaterOr : ℕ → ℕ → Type 0 → Type 0
IsGreaterOr m n More = (n < m) ⊎ ((m ≡ n) × More)

-- Of two children of a container one stands before the other: its layer has the greater number; or they are in one layer, and it alone is
-- docked; or both or none is docked, and it comes later.
abbrev pub StandsBefore : Container → Styled → ℕ → Styled → ℕ → Type 0
StandsBefore above row place other at =
    IsGreaterOr (layer_number above.style row.style) (layer_number above.style other.style)
    (IsGreaterOr (docked_number (dock row.style)) (docked_number (dock other.style)) (at < place))

-- All rows below a row are before it. A child of a container that stands before another one is before it with all rows below both.
pub record KeysInOrder : Type 0 where
  pub below : (scene : Scene) (row : Styled) (behind : List Styled) (place : Place) (own : Entry) (below : List Entry)
      → subtree_entries scene row behind place ≡ Ok (own ∷ below) → All (λ (entry : Entry). IsBefore entry own) below
  pub beside : (scene : Scene) (above : Container) (row other : Styled) (behind after : List Styled) (place at : ℕ) (regions spaces : List (Option Region))
      (entries others : List Entry) → StandsBefore above row place other at → child_entries scene row behind above place regions ≡ Ok entries
      → child_entries scene other after above at spaces ≡ Ok others → AreBefore entries others
