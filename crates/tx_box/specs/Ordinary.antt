-- Numbers as stylesheets write them, and that an axis of such numbers has its spans.
use Rattle.std.specs.Prelude.{ℕ, ◌+◌, ◌^◌, ◌<◌, ◌≤◌, ◌≡◌, pos, ℤ, ◌+ℤ◌, ◌≤ℤ◌, Some, IfSome, IsSome, List, length, All}
use Rattle.tx_frac.specs.Ratio.{Ratio, IsRatio}
use Rattle.tx_geom.specs.declared.places.Size.{Size}
use Rattle.tx_geom.specs.declared.choices.Axis.{Axis}
use Rattle.tx_box.specs.declared.items.Item.{Item}
use Rattle.tx_box.specs.declared.items.Basis.{Basis}
use Rattle.tx_box.specs.declared.items.Span.{Span}
use Rattle.tx_box.specs.Sizes.{box_cells}
use Rattle.tx_box.specs.Axis.{bases, axis_spans}

-- a number of at most 9 whole digits and 3 decimals
pub record IsShortDecimal (x : Ratio) : Type 0 where
  pub thousandths : ℕ
  pub digits : thousandths < 10 ^ 12
  pub value : IsRatio (pos thousandths) 1000 x

-- sides of at most 2^23 cells
pub record IsOrdinarySize (s : Size) : Type 0 where
  pub width : s.width ≤ 2 ^ 23
  pub height : s.height ≤ 2 ^ 23

-- whole cells as a call can be given them
abbrev pub IsCells : ℕ → Type 0
IsCells n = n < 2 ^ 32

-- an item whose numbers are such decimals, with any padding, border and content
pub record IsOrdinaryItem (i : Item) : Type 0 where
  pub size : IsShortDecimal i.size.value
  pub least : IfSome i.least (λ s. IsShortDecimal s.value)
  pub most : IfSome i.most (λ s. IsShortDecimal s.value)
  pub gutter : IsCells i.gutter
  pub auto : IsCells i.auto

-- at most 100,000 such items with any gaps, in such an area, and with such bases
pub record OrdinaryItems (items : List Item) (gaps : List ℕ) (basis : Basis) (own : List Size) : Type 0 where
  pub each_item : All IsOrdinaryItem items
  pub count : length items ≤ 100000
  pub each_gap : All IsCells gaps
  pub one_gap_more : length gaps ≡ length items + 1
  pub area : IsOrdinarySize basis.area
  pub screen : IsOrdinarySize basis.screen
  pub each_base : All IsOrdinarySize own

-- such items have their spans
abbrev pub OrdinaryAxis : Type 0
OrdinaryAxis = (items : List Item) (gaps : List ℕ) (axis : Axis) (basis : Basis) (own : List Size) → OrdinaryItems items gaps basis own → IsSome (axis_spans items gaps axis basis own)

-- such an item has its size in whole cells
abbrev pub OrdinaryBox : Type 0
OrdinaryBox =
    (item : Item) (axis : Axis) (basis : Basis) (own : Size) → IsOrdinaryItem item → IsOrdinarySize basis.screen → IsOrdinarySize own → IsSome (box_cells item (bases axis basis own))

-- at most 65,535 cells, from 0 on
pub record IsShortSpan (s : Span) : Type 0 where
  pub not_negative : pos 0 ≤ℤ s.from
  pub forward : s.from ≤ℤ s.to
  pub at_most : s.to ≤ℤ (s.from +ℤ pos 65535)

-- each of their spans has at most 65,535 cells
abbrev pub OrdinarySpans : Type 0
OrdinarySpans =
    (items : List Item) (gaps : List ℕ) (axis : Axis) (basis : Basis) (own : List Size) (spans : List Span) → OrdinaryItems items gaps basis own
    → axis_spans items gaps axis basis own ≡ Some spans → All IsShortSpan spans

-- so does such an item by itself
abbrev pub OrdinaryCells : Type 0
OrdinaryCells =
    (item : Item) (axis : Axis) (basis : Basis) (own : Size) (n : ℤ) → IsOrdinaryItem item → IsOrdinarySize basis.screen → IsOrdinarySize own
    → box_cells item (bases axis basis own) ≡ Some n → n ≤ℤ pos 65535
