-- How many rows stand below each row.
use Rattle.std.specs.Prelude.{◌≡◌, ℕ, ◌<◌, nat_lt, Bool, List, [], ◌∷◌, map, drop, length, All}
use Rattle.std.specs.List.{prefix_len}
use Rattle.tx_geom.specs.declared.places.Size.{Size}
use Rattle.tx_layout.specs.declared.styles.BoxStyle.{BoxStyle}
use Rattle.tx_sizes.specs.Forest.{Styled, depth, forest, under}
use Rattle.tx_sizes.specs.Measures.{Pictures, boxes, first_measure, measures}
use Rattle.tx_value.specs.declared.value.Value.{Value}

-- a row is deeper than a depth
abbrev pub is_deeper : ℕ → Styled → Bool
is_deeper least row = nat_lt least (depth row)

-- how many of the rows directly after each one are below it
unfoldable pub counts : List Styled → List ℕ
counts [] = []
counts (row ∷ rows) = prefix_len (is_deeper (depth row)) rows ∷ counts rows

-- what is gathered of the children that take part, in a container of this style and depth with these rows after it: their boxes, and
-- where among these rows each begins
pub record AreChildren (container : List Value) (least : ℕ) (rows : List Styled) (styles : List BoxStyle) (starts : List ℕ) : Type 0 where
  pub boxes : styles ≡ boxes container (under least (forest rows))
  pub measures : (pictures : Pictures) (screen : Size)
      → map (λ start. first_measure pictures screen (forest (drop start rows))) starts ≡ measures pictures screen (under least (forest rows))
  pub within : All (λ start. start < length rows) starts
