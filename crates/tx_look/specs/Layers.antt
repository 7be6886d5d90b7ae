-- The number of a row's layer among those of its container.
use Rattle.std.specs.Prelude.{ℕ, List, Option, Some, None, unwrap_or}
use Rattle.std.specs.List.{position_from}
use Rattle.std.specs.Str.{bytes_eq}
use Rattle.tx_value.specs.StyleReads as style
use Rattle.tx_value.specs.declared.value.Value.{Value}

-- the place of a name among names, the first of which has this number: that of its first place, and 0 where it isn't there
abbrev pub place_from : ℕ → List (List ℕ) → List ℕ → ℕ
place_from first names name = unwrap_or (position_from (bytes_eq name) first names) 0

-- the number of a layer among those of a container, the first of which is 1
abbrev pub layer_among : List (List ℕ) → Option (List ℕ) → ℕ
layer_among names None = 0
layer_among names (Some name) = place_from 1 names name

-- the number of the layer of a row in a container: the place of the row's `layer` in the container's `layers`
abbrev pub layer_number : List Value → List Value → ℕ
layer_number container own = layer_among (style.layers container) (style.layer own)
