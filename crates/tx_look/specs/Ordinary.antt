-- Styles whose sizes are numbers as stylesheets write them.
use Rattle.std.specs.Prelude.{◌≡◌, ◌%◌, ⊤, All, List}
use Rattle.tx_box.specs.Ordinary.{IsShortDecimal}
use Rattle.tx_frac.specs.Ratio.{Ratio, IsLowest}
use Rattle.tx_frac.specs.declared.scalars.Scalar.{Scalar}
use Rattle.tx_layout.specs.Ordinary.{IsOrdinaryGrid, IsOrdinaryStyle}
use Rattle.tx_look.specs.Boxes.{box_style, grid_style}
use Rattle.tx_value.specs.Holds.{HoldsOf}
use Rattle.tx_value.specs.declared.property.Property.{Property}
use Rattle.tx_value.specs.declared.value.Value.{Value}
use Rattle.tx_value.specs.declared.value.Value.TheVariants as value

-- a size of at most 9 whole digits and 3 decimals
abbrev pub IsOrdinaryScalar : Scalar → Type 0
IsOrdinaryScalar scalar = IsShortDecimal scalar.value

-- so is each size in a value
abbrev pub IsOrdinaryValue : Value → Type 0
IsOrdinaryValue (value.Size scalar) = IsOrdinaryScalar scalar
IsOrdinaryValue (value.Sizes scalars) = All IsOrdinaryScalar scalars
IsOrdinaryValue _ = ⊤

-- such values give such boxes and grids
pub record OrdinaryLooks : Type 0 where
  pub boxes : (container own : List Value) → All IsOrdinaryValue own → IsOrdinaryStyle (box_style container own)
  pub grids : (own : List Value) → All IsOrdinaryValue own → IsOrdinaryGrid (grid_style own)

-- a number of at most 3 decimals, in lowest terms
pub record HasFewDecimals (x : Ratio) : Type 0 where
  pub lowest_terms : IsLowest x
  pub decimals : 1000 % x.den ≡ 0

-- each size in a value is such a number
abbrev pub HasFewDecimalsIn : Value → Type 0
HasFewDecimalsIn (value.Size scalar) = HasFewDecimals scalar.value
HasFewDecimalsIn (value.Sizes scalars) = All (λ scalar. HasFewDecimals scalar.value) scalars
HasFewDecimalsIn _ = ⊤

-- of what the table of properties gives, with its at most 9 whole digits, nothing more is needed
abbrev pub FewDecimalsAreOrdinary : Type 0
FewDecimalsAreOrdinary = (property : Property) (v : Value) → HoldsOf property v → HasFewDecimalsIn v → IsOrdinaryValue v
