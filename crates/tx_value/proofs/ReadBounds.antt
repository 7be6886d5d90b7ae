-- What values say lies in the bounds of the table of properties.
use Rattle.std.proofs.Common.{◌≡◌, ℕ, Bool, true, false, ◌&&◌, List, [], length, Option, Some, None, cond, refl}
use Rattle.std.specs.Prelude.{unsigned_abs, IfSome, IsTrue}
use Rattle.std.specs.List.{list_all}
use Rattle.std.proofs.lemmas.Bool.{and_parts, and_from}
use Rattle.tx_geom.specs.declared.choices.Axis.{Axis}
use Rattle.tx_geom.specs.declared.choices.Axis.TheVariants.{Width, Height}
use Rattle.tx_value.specs.Holds.{is_optional_rows, is_offset_part, is_gutter_part}
use Rattle.tx_value.specs.Initial.{whole_size}
use Rattle.tx_value.specs.Laws.{are_cells, is_limit_size, ReadsAreWithin}
use Rattle.tx_value.specs.Numbers.{is_within}
use Rattle.tx_value.specs.Style.{style_value}
use Rattle.tx_value.specs.StyleReads.{size, least, most}
use Rattle.tx_value.specs.ValueReads.{is_unsigned, is_length, size_in, limit_in, tracks_in, cells_in, span_in, grid_size_in, grid_gutter_in, nowhere_else, offset_in}
use Rattle.tx_value.specs.declared.property.Property.TheVariants as property
use Rattle.tx_value.specs.declared.value.Value.{Value}
use Rattle.tx_value.specs.declared.value.Value.TheVariants as value

-- what passes a test, or else something that passes it
or_else : {A : Type 0} → (test : A → Bool) (b : Bool) (x other : A) → (b ≡ true → test x ≡ true) → test other ≡ true → test (cond b x other) ≡ true
or_else test true x other is h = is refl
or_else test false x other is h = h

if_given : {A : Type 0} → (test : A → Bool) (b : Bool) (x : A) → (b ≡ true → test x ≡ true) → IfSome (cond b (Some x) None) (λ a. IsTrue (test a))
if_given test true x is = is refl
if_given test false x is = tt

size_within : (v : Value) → is_unsigned (size_in v) ≡ true
size_within (value.Size s) = or_else is_unsigned (is_unsigned s) s whole_size (λ h. h) refl
size_within _ = refl

limit_within : (v : Value) → IfSome (limit_in v) (λ s. IsTrue (is_limit_size s))
limit_within (value.Size s) = if_given is_limit_size (is_limit_size s) s (λ h. h)
limit_within _ = tt

cells_within : (v : Value) → are_cells (cells_in v) ≡ true
cells_within (value.Whole n) = or_else are_cells (are_cells n) n 0 (λ h. h) refl
cells_within _ = refl

span_within : (v : Value) → is_within 1 100 (span_in v) ≡ true
span_within (value.Whole n) = or_else (is_within 1 100) (is_within 1 100 n) n 1 (λ h. h) refl
span_within _ = refl

tracks_within : (v : Value) → list_all is_length (tracks_in v) ≡ true
tracks_within (value.Sizes sizes) = or_else (list_all is_length) _ sizes [] (λ h. (and_parts (is_within 1 60 (length sizes)) (list_all is_length sizes) h).1) refl
tracks_within _ = refl

grid_size_within : (v : Value) → (is_within 1 100 (grid_size_in v).0 && is_optional_rows (grid_size_in v).1) ≡ true
grid_size_within (value.GridSize columns rows) =
    or_else (λ (size : ℕ × Option ℕ). is_within 1 100 size.0 && is_optional_rows size.1) (is_within 1 100 columns && is_optional_rows rows) (columns, rows) (1, None) (λ h. h) refl
grid_size_within _ = refl

gutter_within : (v : Value) → (are_cells (grid_gutter_in v).0 && are_cells (grid_gutter_in v).1) ≡ true
gutter_within (value.Pair v h) =
    or_else (λ (both : ℕ × ℕ). are_cells both.0 && are_cells both.1) (is_gutter_part v && is_gutter_part h) (unsigned_abs v, unsigned_abs h) (0, 0)
    (λ is. let parts = and_parts (is_gutter_part v) (is_gutter_part h) is in and_from (are_cells (unsigned_abs v)) (are_cells (unsigned_abs h)) (and_parts _ (is_offset_part v) parts.0).1 (and_parts _ (is_offset_part h) parts.1).1)
    refl
gutter_within _ = refl

offset_within : (v : Value) → (is_offset_part (offset_in v).x && is_offset_part (offset_in v).y) ≡ true
offset_within (value.Pair x y) =
    or_else (λ at. is_offset_part at.x && is_offset_part at.y) (is_offset_part x && is_offset_part y) (record { x = x; y = y }) nowhere_else (λ h. h) refl
offset_within _ = refl

size_bound : (values : List Value) (axis : Axis) → is_unsigned (size axis values) ≡ true
size_bound values Width = size_within (style_value values property.Width)
size_bound values Height = size_within (style_value values property.Height)

least_bound : (values : List Value) (axis : Axis) → IfSome (least axis values) (λ s. IsTrue (is_limit_size s))
least_bound values Width = limit_within (style_value values property.MinWidth)
least_bound values Height = limit_within (style_value values property.MinHeight)

most_bound : (values : List Value) (axis : Axis) → IfSome (most axis values) (λ s. IsTrue (is_limit_size s))
most_bound values Width = limit_within (style_value values property.MaxWidth)
most_bound values Height = limit_within (style_value values property.MaxHeight)

sides_within : (a b c d : Value) → (are_cells (cells_in a) && (are_cells (cells_in b) && (are_cells (cells_in c) && are_cells (cells_in d)))) ≡ true
sides_within a b c d = and_from _ _ (cells_within a) (and_from _ _ (cells_within b) (and_from _ _ (cells_within c) (cells_within d)))

pub reads_within : (values : List Value) → ReadsAreWithin values
reads_within values =
    let v : _ → Value = style_value values in
    record {
      size = size_bound values;
      least = least_bound values;
      most = most_bound values;
      margin = sides_within (v property.MarginTop) (v property.MarginRight) (v property.MarginBottom) (v property.MarginLeft);
      padding = sides_within (v property.PaddingTop) (v property.PaddingRight) (v property.PaddingBottom) (v property.PaddingLeft);
      offset = offset_within (v property.Offset);
      columns = (and_parts _ _ (grid_size_within (v property.GridSize))).0;
      rows = (and_parts _ _ (grid_size_within (v property.GridSize))).1;
      column_tracks = tracks_within (v property.GridColumns);
      row_tracks = tracks_within (v property.GridRows);
      grid_gutter = gutter_within (v property.GridGutter);
      column_span = span_within (v property.ColumnSpan);
      row_span = span_within (v property.RowSpan);
    }
