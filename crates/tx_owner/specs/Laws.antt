-- What holds of the owners of all cells.
use Rattle.std.specs.Prelude.{◌≡◌, ℕ, ◌<◌, pos, Bool, true, false, List, [], ◌∷◌, Option, Some, slice_get, All, ◌↔◌, IsTrue}
use Rattle.std.specs.List.{Contains}
use Rattle.tx_cascade.specs.Key.{exceeds}
use Rattle.tx_geom.specs.Region.{Holds}
use Rattle.tx_geom.specs.declared.places.Offset.{Offset}
use Rattle.tx_geom.specs.declared.places.Region.{Region}
use Rattle.tx_geom.specs.declared.places.Size.{Size}
use Rattle.tx_map.specs.Laws.{FillsScreen}
use Rattle.tx_map.specs.declared.entry.Entry.{Entry}
use Rattle.tx_owner.specs.Owner.{Placed, at_cell, is_within, owner, owners, shows_at, topmost}
use Rattle.tx_sizes.specs.Forest.{Styles}

-- whether a region holds a cell of the screen is whether the cell is one of its
abbrev pub WithinIsHeld : Type 0
WithinIsHeld = (region : Region) (x y : ℕ) → IsTrue (is_within region x y) ↔ Holds region (record { x = pos x; y = pos y })

-- an entry at its place shows at a cell, and no entry that shows there has a greater key
pub record IsTopmost (styles : Styles) (entries : List Entry) (x y : ℕ) (placed : Placed) : Type 0 where
  pub stands : slice_get entries placed.place ≡ Some placed.entry
  pub shows : shows_at styles x y placed.entry ≡ true
  pub over : (place : ℕ) (other : Entry) → slice_get entries place ≡ Some other → shows_at styles x y other ≡ true → exceeds other.key placed.entry.key ≡ false

-- the topmost one at a cell is that
abbrev pub TopmostIsThat : Type 0
TopmostIsThat = (styles : Styles) (entries : List Entry) (x y : ℕ) (placed : Placed) → topmost styles entries x y ≡ Some placed → IsTopmost styles entries x y placed

-- the owner at each cell of a screen is the owner of that cell
abbrev pub OwnersAreOfCells : Type 0
OwnersAreOfCells = (styles : Styles) (entries : List Entry) (size : Size) (x y : ℕ) → x < size.width → y < size.height
    → at_cell (owners styles entries size) x y ≡ owner styles entries x y

-- where the first entry fills the screen, each cell of it has an owner
abbrev pub EachCellIsOwned : Type 0
EachCellIsOwned = (styles : Styles) (first : Entry) (entries : List Entry) (size : Size) → FillsScreen size first
    → (x y : ℕ) → x < size.width → y < size.height → (placed : Placed) × (topmost styles (first ∷ entries) x y ≡ Some placed)
