-- What is kept of the owners of a screen's cells.
use Rattle.std.specs.Prelude.{ℕ, List, Option}
use Rattle.tx_geom.specs.declared.places.Size.{Size}

-- the size of the screen, the place of each cell's owner, line by line, and by the number of a node the first cell that its row owns
pub record OwnersValue : Type 0 where
  pub size : Size
  pub lines : List (List (Option ℕ))
  pub spots : List (Option (ℕ × ℕ))
