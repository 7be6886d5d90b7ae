-- The styles of all rows.
use Rattle.std.specs.Prelude.{◌≡◌, ℕ, List, ◌∷◌, Option, Some, None, option_map, option_and_then, slice_get}
use Rattle.tx_tree.specs.Rows.{row_at, parent_of, ancestors_of}
use Rattle.tx_tree.specs.declared.row.Row.{Row}
use Rattle.tx_tree.specs.declared.row.NodeId.{NodeId}
use Rattle.tx_select.specs.declared.value.Pseudo.{Pseudo as State}
use Rattle.tx_parse.specs.Values.{SheetValue}
use Rattle.tx_value.specs.Style.{IsStyle}
use Rattle.tx_value.specs.declared.value.Value.{Value}
use Rattle.tx_cascade.specs.Cascade.{styled, up_from}
use Rattle.tx_cascade.specs.Matchers.{matchers_of}

-- what styles were made of
pub record StylesValue : Type 0 where
  pub sheet : SheetValue
  pub rows : List Row
  pub state : State

abbrev pub scene : SheetValue → List Row → State → StylesValue
scene sheet rows state = record { sheet = sheet; rows = rows; state = state }

-- the style of the row with a number, if it is one of some rows of a tree
abbrev pub styles_within : SheetValue → State → List Row → List Row → ℕ → Option (List Value)
styles_within sheet state rows some n = option_map (λ row. styled (matchers_of state rows) sheet (row ∷ ancestors_of n rows)) (row_at n some)

-- the style of the row with each number
unfoldable pub all_styles : SheetValue → State → List Row → ℕ → Option (List Value)
all_styles sheet state rows n = styles_within sheet state rows rows n

-- the style of a row's parent, if it has one, is among some styles by number
abbrev pub ParentIsStyled : SheetValue → State → List Row → ℕ → (ℕ → Option (List Value)) → Type 0
ParentIsStyled sheet state rows n styles =
    (parent : NodeId) → Some parent ≡ option_map (λ row. row.node) (parent_of n rows) → styles parent.0 ≡ Some (styled (matchers_of state rows) sheet (up_from rows parent.0))

-- ---- styles that stand in one place for several rows

-- each of some styles has a value for each property
abbrev pub AreWhole : List (List Value) → Type 0
AreWhole made = (place : ℕ) (style : List Value) → slice_get made place ≡ Some style → IsStyle style

-- what stood at a place stands there
abbrev pub StillStand : List (List Value) → List (List Value) → Type 0
StillStand old new = (place : ℕ) (style : List Value) → slice_get old place ≡ Some style → slice_get new place ≡ Some style

-- a style stands at its place, where there is one
abbrev pub StandsAt : List (List Value) → Option ℕ → Option (List Value) → Type 0
StandsAt made None None = Unit {0}
StandsAt made (Some place) (Some style) = slice_get made place ≡ Some style
StandsAt made _ _ = ⊥

-- each number that has a style has its place, and no other number has one
abbrev pub ArePlaced : List (List Value) → (ℕ → Option ℕ) → (ℕ → Option (List Value)) → Type 0
ArePlaced made places styles = (n : ℕ) → StandsAt made (places n) (styles n)

-- the style at the place of a number, if it has one
abbrev pub style_placed : List (List Value) → (ℕ → Option ℕ) → ℕ → Option (List Value)
style_placed made places n = option_and_then (slice_get made) (places n)
