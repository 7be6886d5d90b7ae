-- What styles say meets the conditions of the calls of layout.
use Rattle.std.proofs.Common.{◌≡◌, ℕ, suc, ◌≤◌, Bool, true, false, ◌&&◌, not, List, [], ◌∷◌, length, Option, Some, None, cond, refl, arith}
use Rattle.std.proofs.lemmas.Bool.{and_parts, leb-true}
use Rattle.std.proofs.lemmas.Int.{ints}
use Rattle.std.proofs.lemmas.List.Elements.{All-cons, All-nil}
use Rattle.std.specs.List.{list_all}
use Rattle.std.specs.Prelude.{ℤ, pos, negsuc, ◌≤ℤ◌, int_lt, IfSome, IsTrue, All}
use Rattle.tx_box.specs.Item.{IsLimit, is_fixed_unit}
use Rattle.tx_frac.specs.declared.scalars.Scalar.{Scalar}
use Rattle.tx_frac.specs.declared.scalars.Unit.{Unit}
use Rattle.tx_frac.specs.declared.scalars.Unit.TheVariants as unit
use Rattle.tx_geom.specs.declared.choices.Axis.TheVariants.{Width, Height}
use Rattle.tx_grid.specs.Standing.{IsSpan, IsRowCount}
use Rattle.tx_layout.specs.Style.{IsBoxStyle, IsGridStyle, IsShift, IsTrack}
use Rattle.tx_look.specs.Boxes.{box_style, grid_style}
use Rattle.tx_value.specs.Holds.{is_auto, is_optional_rows, is_offset_part}
use Rattle.tx_value.specs.Laws.{is_limit_size, are_cells, ReadsAreWithin}
use Rattle.tx_value.specs.Numbers.{is_share, is_within}
use Rattle.tx_value.specs.Style.{style_value}
use Rattle.tx_value.specs.StyleReads as style
use Rattle.tx_value.specs.ValueReads.{is_unsigned, is_length, layers_in}
use Rattle.tx_value.specs.declared.property.Property.TheVariants as property
use Rattle.tx_value.specs.declared.value.Value.{Value}
use Rattle.tx_value.specs.declared.value.Value.TheVariants as value

from_0 : (z : ℤ) → not (int_lt z (pos 0)) ≡ true → pos 0 ≤ℤ z
from_0 (pos n) is = omega (arith, ints)
from_0 (negsuc n) is = absurd (let clash : false ≡ true = is in cc)

-- ---- sizes

fixed : (u : Unit) → not (is_share u) ≡ true → not (is_auto u) ≡ true → is_fixed_unit u ≡ true
fixed unit.Fr a b = a
fixed unit.Auto a b = b
fixed _ a b = refl

limit : (s : Scalar) → is_limit_size s ≡ true → IsLimit s
limit s is =
    let parts = and_parts (is_length s) (not (is_share s.unit)) is in
    let length_parts = and_parts (not (is_auto s.unit)) (is_unsigned s) parts.0 in
    record { not_negative = from_0 s.value.num length_parts.1; fixed_unit = fixed s.unit parts.1 length_parts.0 }

limit_if : (o : Option Scalar) → IfSome o (λ s. IsTrue (is_limit_size s)) → IfSome o IsLimit
limit_if None is = tt
limit_if (Some s) is = limit s is

not_auto : (b : Bool) → not b ≡ true → b ≡ false
not_auto true is = absurd (let clash : false ≡ true = is in cc)
not_auto false is = refl

track : (s : Scalar) → is_length s ≡ true → IsTrack s
track s is =
    let parts = and_parts (not (is_auto s.unit)) (is_unsigned s) is in
    record { not_negative = from_0 s.value.num parts.1; no_auto = plain_unit s.unit parts.0 }
  where
    plain_unit : (u : Unit) → not (is_auto u) ≡ true → Rattle.tx_layout.specs.Style.is_auto u ≡ false
    plain_unit unit.Auto is = absurd (let clash : false ≡ true = is in cc)
    plain_unit _ is = refl

tracks : (ss : List Scalar) → list_all is_length ss ≡ true → All IsTrack ss
tracks [] is = All-nil IsTrack
tracks (s ∷ ss) is =
    let parts = and_parts (is_length s) (list_all is_length ss) is in
    All-cons IsTrack s ss (track s parts.0) (tracks ss parts.1)

-- ---- whole numbers

span : (n : ℕ) → is_within 1 100 n ≡ true → IsSpan n
span n is = let parts = and_parts _ _ is in record { least = leb-true 1 n parts.0; most = leb-true n 100 parts.1 }

rows : (o : Option ℕ) → is_optional_rows o ≡ true → IfSome o IsRowCount
rows None is = tt
rows (Some n) is = let parts = and_parts _ _ is in record { least = leb-true 1 n parts.0; most = leb-true n 1000 parts.1 }

shift : (z : ℤ) → is_offset_part z ≡ true → IsShift z
shift (pos n) is = let most : n ≤ 9999 = leb-true n 9999 is in record { low = omega (arith, ints); high = omega (arith, ints) }
shift (negsuc n) is = let most : suc n ≤ 9999 = leb-true (suc n) 9999 is in record { low = omega (arith, ints); high = omega (arith, ints) }

-- ---- styles

pub box_within : (container own : List Value) → ReadsAreWithin own → IsBoxStyle (box_style container own)
box_within container own within =
    let offset = and_parts (is_offset_part (style.offset own).x) (is_offset_part (style.offset own).y) within.offset in
    record {
      width = from_0 _ (within.size Width);
      height = from_0 _ (within.size Height);
      least_width = limit_if (style.least Width own) (within.least Width);
      least_height = limit_if (style.least Height own) (within.least Height);
      most_width = limit_if (style.most Width own) (within.most Width);
      most_height = limit_if (style.most Height own) (within.most Height);
      column_span = span _ within.column_span;
      row_span = span _ within.row_span;
      x = shift _ offset.0;
      y = shift _ offset.1;
    }

pub grid_within : (own : List Value) → ReadsAreWithin own → IsGridStyle (grid_style own)
grid_within own within =
    let gutter = and_parts (are_cells (style.grid_gutter own).0) (are_cells (style.grid_gutter own).1) within.grid_gutter in
    record {
      columns = span _ within.columns;
      rows = rows _ within.rows;
      column_tracks = tracks _ within.column_tracks;
      row_tracks = tracks _ within.row_tracks;
      gutter_vertical = leb-true _ 9999 gutter.0;
      gutter_horizontal = leb-true _ 9999 gutter.1;
    }

-- ---- layers

if_few : (b : Bool) (names : List (List ℕ)) → (b ≡ true → is_within 1 32 (length names) ≡ true) → length (cond b names []) ≤ 32
if_few true names is = leb-true (length names) 32 (and_parts _ _ (is refl)).1
if_few false names is = omega arith

few_in : (v : Value) → length (layers_in v) ≤ 32
few_in (value.Names names) = if_few (is_within 1 32 (length names)) names (λ is. is)
few_in _ = omega arith

pub few_layers : (own : List Value) → length (style.layers own) ≤ 32
few_layers own = few_in (style_value own property.Layers)
