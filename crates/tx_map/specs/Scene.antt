-- What is laid out.
use Rattle.std.specs.Prelude.{ℕ, List, Option, unwrap_or}
use Rattle.tx_geom.specs.declared.places.Size.{Size}
use Rattle.tx_sizes.specs.Forest.{Styled, Styles, Forest, forest, styled_rows}
use Rattle.tx_sizes.specs.Measures.{Pictures}
use Rattle.tx_tree.specs.declared.row.Row.{Row}

-- the rows of a tree in preorder; by the number of a node its style, what its object measures, and how far it is scrolled to the
-- right and down; and the size of the screen
pub record Scene : Type 0 where
  pub rows : List Row
  pub styles : Styles
  pub pictures : Pictures
  pub scrolls : ℕ → Option (ℕ × ℕ)
  pub size : Size

-- the rows with their styles, and those below each of them
abbrev pub rows_of : Scene → Forest
rows_of scene = forest (styled_rows scene.styles scene.rows)

-- how far a row is scrolled: not at all, where nothing is said
abbrev pub scroll_of : Scene → Styled → ℕ × ℕ
scroll_of scene row = unwrap_or (scene.scrolls row.row.node.0) (0, 0)
