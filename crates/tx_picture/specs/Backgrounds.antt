-- The backgrounds under rows, by the numbers of their nodes.
use Rattle.std.specs.Prelude.{◌≡◌, ℕ, List, Option, Some, option_map}
use Rattle.tx_cascade.specs.Styles.{StylesValue}
use Rattle.tx_geom.specs.declared.colours.Rgb.{Rgb}
use Rattle.tx_picture.specs.Picture.{background_under}
use Rattle.tx_tree.specs.Rows.{parent_of, row_at}
use Rattle.tx_tree.specs.declared.row.NodeId.{NodeId}
use Rattle.tx_tree.specs.declared.row.Row.{Row}

-- each of some rows of the tree has the background under it, and no other number has one
abbrev pub AreBackgrounds : StylesValue → List Row → (ℕ → Option Rgb) → Type 0
AreBackgrounds shown some at = (n : ℕ) → at n ≡ option_map (λ row. background_under shown n) (row_at n some)

-- the background under a row's parent, if it has one, is among some by number
abbrev pub ParentIsHeld : StylesValue → ℕ → (ℕ → Option Rgb) → Type 0
ParentIsHeld shown n at =
    (parent : NodeId) → Some parent ≡ option_map (λ row. row.node) (parent_of n shown.rows) → at parent.0 ≡ Some (background_under shown parent.0)
