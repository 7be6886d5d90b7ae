-- What the rounds and the spans come to, in an author's words.
use Rattle.std.specs.Prelude.{ℕ, ◌+◌, ◌≡◌, ◌⊎◌, pos, ◌+ℤ◌, ◌<ℤ◌, ◌≤ℤ◌, ◌<◌, Some, None, IfSome, List, length, All, Any, slice_index, slice_index_or, unwrap_or}
use Rattle.std.specs.List.{AllZip, zip, last_or}
use Rattle.tx_frac.specs.Ratio.{Ratio, IsLowest, product_of}
use Rattle.tx_frac.specs.declared.scalars.Unit.TheVariants.{Fr}
use Rattle.tx_geom.specs.declared.places.Size.{Size}
use Rattle.tx_geom.specs.declared.choices.Axis.{Axis}
use Rattle.tx_box.specs.declared.items.Item.{Item}
use Rattle.tx_box.specs.declared.items.Basis.{Basis}
use Rattle.tx_box.specs.declared.items.Span.{Span}
use Rattle.tx_box.specs.declared.parts.Limits.{Limits}
use Rattle.tx_box.specs.declared.parts.Part.{Part}
use Rattle.tx_box.specs.Item.{NotNegative, IsSized}
use Rattle.tx_geom.specs.Along.{side}
use Rattle.tx_box.specs.Sizes.{cells, limits_of, greatest}
use Rattle.tx_box.specs.Axis.{bases, shares, axis_parts, last_of, axis_sizes, axis_spans}

-- the numbers of an item are fractions in lowest terms
pub record HasFractions (i : Item) : Type 0 where
  pub size : IsLowest i.size.value
  pub least : IfSome i.least (λ s. IsLowest s.value)
  pub most : IfSome i.most (λ s. IsLowest s.value)

-- items with their gaps and bases, as a call is given them
pub record IsRow (items : List Item) (gaps : List ℕ) (own : List Size) : Type 0 where
  pub sized : All IsSized items
  pub fractions : All HasFractions items
  pub one_gap_more : length gaps ≡ length items + 1
  pub one_base_each : length own ≡ length items

-- a size is the least or the greatest size of its item, or 65,535
abbrev pub IsLimitOf : Limits → Ratio → Type 0
IsLimitOf l size = (l.least ≡ Some size) ⊎ ((l.most ≡ Some size) ⊎ (size ≡ cells greatest))

-- the size of an item with a share: its share in units, or one of its limits
abbrev pub GetsShare : Axis → Basis → Ratio → Item × Size → Ratio → Type 0
GetsShare axis basis unit x size =
    x.0.size.unit ≡ Fr → (size ≡ product_of x.0.size.value unit) ⊎ ((l : Limits) × (limits_of x.0 (bases axis basis x.1) ≡ Some l) × IsLimitOf l size)

-- all items of an axis share by one unit
abbrev pub OneUnit : Type 0
OneUnit =
    (items : List Item) (gaps : List ℕ) (axis : Axis) (basis : Basis) (own : List Size) (sizes : List Ratio)
    → IsRow items gaps own → axis_sizes items gaps axis basis own ≡ Some sizes
    → (unit : Ratio) × AllZip (GetsShare axis basis unit) (zip items own) sizes

-- x is greater than 0
abbrev pub IsPositive : Ratio → Type 0
IsPositive x = pos 0 <ℤ x.num

-- some share that isn't settled in the last round is greater than 0, and what is left there isn't below 0
pub record SharesRoom (left : Ratio) (parts : List Part) : Type 0 where
  pub not_negative : NotNegative left
  pub share : Any IsPositive (shares parts)

-- where room is shared, the last end with the last gap is the total
abbrev pub FillsTotal : Type 0
FillsTotal =
    (items : List Item) (gaps : List ℕ) (axis : Axis) (basis : Basis) (own : List Size) (parts last : List Part) (left : Ratio) (spans : List Span)
    → IsRow items gaps own → axis_parts items axis basis own ≡ Some parts → last_of (side axis basis.area) gaps parts ≡ Some (left, last)
    → SharesRoom left last → axis_spans items gaps axis basis own ≡ Some spans
    → (end : Span) × (last_or None spans ≡ Some end) × (end.to +ℤ pos (unwrap_or (last_or None gaps) 0) ≡ pos (side axis basis.area))

-- no span ends before it begins, and each begins where the one before it ends, with the gap between them
pub record Follow (gaps : List ℕ) (spans : List Span) : Type 0 where
  pub forward : All (λ (s : Span). s.from ≤ℤ s.to) spans
  pub next : (n : ℕ) (d : Span) → n + 1 < length spans → (slice_index_or spans (n + 1) d).from ≡ (slice_index_or spans n d).to +ℤ pos (slice_index gaps (n + 1))

-- the spans of an axis follow each other
abbrev pub SpansFollow : Type 0
SpansFollow =
    (items : List Item) (gaps : List ℕ) (axis : Axis) (basis : Basis) (own : List Size) (spans : List Span)
    → IsRow items gaps own → axis_spans items gaps axis basis own ≡ Some spans → Follow gaps spans
