-- Rows with their styles, and the rows below each of them.
use Rattle.std.specs.Prelude.{ℕ, nat_lt, List, [], ◌∷◌, ◌++◌, map, Option, unwrap_or, if◌then◌else◌}
use Rattle.tx_tree.specs.declared.row.Row.{Row}
use Rattle.tx_value.specs.Style.{initial_style}
use Rattle.tx_value.specs.declared.value.Value.{Value}

-- a row with its style
pub record Styled : Type 0 where
  pub row : Row
  pub style : List Value

-- the styles of the nodes by their numbers
abbrev pub Styles : Type 0
Styles = ℕ → Option (List Value)

-- a row with the style of its number; one without a style has the initial one
abbrev pub styled : Styles → Row → Styled
styled styles row = record { row = row; style = unwrap_or (styles row.node.0) initial_style }

abbrev pub styled_rows : Styles → List Row → List Styled
styled_rows styles rows = map (styled styles) rows

-- Rows that stand beside each other: none, or a first one, the rows below it, and the ones that stand beside it.
pub data Forest : Type 0 where
  Empty : Forest
  Grown : Styled → Forest → Forest → Forest

-- the depth of a row
abbrev pub depth : Styled → ℕ
depth styled = styled.row.depth

-- the first ones that are deeper than a depth, up to the next one that isn't
abbrev pub under : ℕ → Forest → Forest
under least Empty = Empty
under least (Grown row below beside) = if nat_lt least (depth row) then Grown row below (under least beside) else Empty

-- the ones from there on
abbrev pub behind : ℕ → Forest → Forest
behind least Empty = Empty
behind least (Grown row below beside) = if nat_lt least (depth row) then behind least beside else Grown row below beside

-- Rows in preorder: below a row stand the deeper ones directly after it.
unfoldable pub forest : List Styled → Forest
forest [] = Empty
forest (row ∷ rows) = Grown row (under (depth row) (forest rows)) (behind (depth row) (forest rows))

-- its rows in preorder
abbrev pub preorder : Forest → List Styled
preorder Empty = []
preorder (Grown row below beside) = row ∷ (preorder below ++ preorder beside)
