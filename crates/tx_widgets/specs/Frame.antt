-- What a frame tells: which row owns each cell, and where rows are.
use Rattle.std.specs.Prelude.{◌≡◌, ℕ, pos, Bool, Option, Some}
use Rattle.tx_geom.specs.Region.{Holds}
use Rattle.tx_geom.specs.declared.places.Offset.{Offset}
use Rattle.tx_geom.specs.declared.places.Region.{Region}
use Rattle.tx_tree.specs.declared.row.NodeId.{NodeId}

-- the owner of the cell at a column and a row, a place at which a row can be pointed at, its region, and whether it is shown
pub record FrameValue : Type 0 where
  pub owner : ℕ → ℕ → Option NodeId
  pub spot : NodeId → Option (ℕ × ℕ)
  pub region : NodeId → Option Region
  pub shown : NodeId → Bool

-- the place of a cell
abbrev pub place : ℕ → ℕ → Offset
place x y = record { x = pos x; y = pos y }

-- the row has a region, and the place lies in it
abbrev pub HasPlace : FrameValue → NodeId → ℕ → ℕ → Type 0
HasPlace frame node x y = (region : Region) × ((frame.region node ≡ Some region) × Holds region (place x y))

-- what every frame is: an owner's region holds the cell that it owns, and a row owns its spot
pub record IsFrame (frame : FrameValue) : Type 0 where
  pub owned : (x y : ℕ) (node : NodeId) → frame.owner x y ≡ Some node → HasPlace frame node x y
  pub spotted : (node : NodeId) (x y : ℕ) → frame.spot node ≡ Some (x, y) → frame.owner x y ≡ Some node
