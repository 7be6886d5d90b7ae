-- Ordinary values give ordinary boxes and grids.
use Rattle.std.proofs.Common.{◌≡◌, ℕ, zero, suc, ◌≤◌, Bool, true, false, ◌&&◌, not, List, [], ◌∷◌, length, get_or, Some, None, cond, refl, arith, pos, nat_le}
use Rattle.std.proofs.lemmas.Bool.{leb-true}
use Rattle.std.proofs.lemmas.List.Elements.{All-head, All-nil, All-tail}
use Rattle.std.specs.List.{list_all}
use Rattle.std.specs.Prelude.{All, IfSome, is_some}
use Rattle.tx_frac.specs.Laws.{OneForm}
use Rattle.tx_frac.specs.declared.scalars.Scalar.{Scalar}
use Rattle.tx_geom.specs.declared.choices.Axis.{Axis}
use Rattle.tx_geom.specs.declared.choices.Axis.TheVariants.{Width, Height}
use Rattle.tx_geom.specs.declared.choices.Edge.TheVariants as edge
use Rattle.tx_layout.specs.Ordinary.{IsOrdinaryGrid, IsOrdinarySpacing, IsOrdinaryStyle}
use Rattle.tx_layout.specs.Style.{limit_in as limit_along}
use Rattle.tx_look.specs.Boxes.{box_style, grid_style}
use Rattle.tx_look.specs.Ordinary.{IsOrdinaryScalar, IsOrdinaryValue, OrdinaryLooks}
use Rattle.tx_look.proofs.Within.{box_within, grid_within}
use Rattle.tx_value.specs.Initial.{whole_size}
use Rattle.tx_value.specs.Laws.{ReadsAreWithin}
use Rattle.tx_value.specs.Numbers.{is_share, is_within}
use Rattle.tx_value.specs.Style.{number, style_value}
use Rattle.tx_value.specs.StyleReads as style
use Rattle.tx_value.specs.ValueReads.{cells_in, is_length, is_unsigned, limit_in, size_in, tracks_in}
use Rattle.tx_value.specs.declared.property.Property.{Property}
use Rattle.tx_value.specs.declared.property.Property.TheVariants as property
use Rattle.tx_value.specs.declared.value.Value.{Value}
use Rattle.tx_value.specs.declared.value.Value.TheVariants as value

-- ---- values

whole_decimal : OneForm → IsOrdinaryScalar whole_size
whole_decimal forms = record { thousandths = 100000; digits = omega arith; value = forms.whole (pos 100) 1000 }

size_by : (b : Bool) (s : Scalar) → OneForm → IsOrdinaryScalar s → IsOrdinaryScalar (cond b s whole_size)
size_by true s forms h = h
size_by false s forms h = whole_decimal forms

ordinary_size : OneForm → (v : Value) → IsOrdinaryValue v → IsOrdinaryScalar (size_in v)
ordinary_size forms (value.Size s) h = size_by (is_unsigned s) s forms h
ordinary_size forms _ h = whole_decimal forms

limit_by : (b : Bool) (s : Scalar) → IsOrdinaryScalar s → IfSome (cond b (Some s) None) IsOrdinaryScalar
limit_by true s h = h
limit_by false s h = tt

ordinary_limit : (v : Value) → IsOrdinaryValue v → IfSome (limit_in v) IsOrdinaryScalar
ordinary_limit (value.Size s) h = limit_by (is_length s && not (is_share s.unit)) s h
ordinary_limit _ h = tt

tracks_by : (b : Bool) (ss : List Scalar) → All IsOrdinaryScalar ss → All IsOrdinaryScalar (cond b ss [])
tracks_by true ss h = h
tracks_by false ss h = All-nil IsOrdinaryScalar

ordinary_tracks : (v : Value) → IsOrdinaryValue v → All IsOrdinaryScalar (tracks_in v)
ordinary_tracks (value.Sizes ss) h = tracks_by (is_within 1 60 (length ss) && list_all is_length ss) ss h
ordinary_tracks _ h = All-nil IsOrdinaryScalar

cells_by : (b : Bool) (n : ℕ) → (b ≡ true → n ≤ 9999) → cond b n 0 ≤ 9999
cells_by true n h = h refl
cells_by false n h = omega arith

few_cells : (v : Value) → cells_in v ≤ 9999
few_cells (value.Whole n) = cells_by (nat_le n 9999) n (leb-true n 9999)
few_cells _ = omega arith

one_edge : (b : Bool) → cond b 1 0 ≤ 1
one_edge true = omega arith
one_edge false = omega arith

-- ---- styles

value_at : (values : List Value) (n : ℕ) → All IsOrdinaryValue values → IsOrdinaryValue (get_or values n value.Initial)
value_at [] n h = tt
value_at (v ∷ values) zero h = All-head IsOrdinaryValue v values h
value_at (v ∷ values) (suc n) h = value_at values n (All-tail IsOrdinaryValue v values h)

own_value : (own : List Value) (p : Property) → All IsOrdinaryValue own → IsOrdinaryValue (style_value own p)
own_value own p h = value_at own (number p) h

ordinary_margin : (own : List Value) → IsOrdinarySpacing (style.margin own)
ordinary_margin own =
    let t = few_cells (style_value own property.MarginTop) in
    let r = few_cells (style_value own property.MarginRight) in
    let b = few_cells (style_value own property.MarginBottom) in
    let l = few_cells (style_value own property.MarginLeft) in
    record { top = omega (arith, t); right = omega (arith, r); bottom = omega (arith, b); left = omega (arith, l) }

ordinary_gutter : (own : List Value) → IsOrdinarySpacing (style.gutter own)
ordinary_gutter own =
    let t = few_cells (style_value own property.PaddingTop) in
    let r = few_cells (style_value own property.PaddingRight) in
    let b = few_cells (style_value own property.PaddingBottom) in
    let l = few_cells (style_value own property.PaddingLeft) in
    let et = one_edge (is_some (style.border edge.Top own)) in
    let er = one_edge (is_some (style.border edge.Right own)) in
    let eb = one_edge (is_some (style.border edge.Bottom own)) in
    let el = one_edge (is_some (style.border edge.Left own)) in
    record { top = omega (arith, t, et); right = omega (arith, r, er); bottom = omega (arith, b, eb); left = omega (arith, l, el) }

ordinary_box : OneForm → ((own : List Value) → ReadsAreWithin own) → (container own : List Value) → All IsOrdinaryValue own → IsOrdinaryStyle (box_style container own)
ordinary_box forms within container own h =
    let accepted = box_within container own (within own) in
    record {
      width = ordinary_size forms (style_value own property.Width) (own_value own property.Width h);
      height = ordinary_size forms (style_value own property.Height) (own_value own property.Height h);
      least = least;
      most = most;
      margin = ordinary_margin own;
      gutter = ordinary_gutter own;
      column_span = accepted.column_span;
      row_span = accepted.row_span;
    }
  where
    least : (axis : Axis) → IfSome (limit_along axis (style.least Width own ∷ (style.least Height own ∷ []))) IsOrdinaryScalar
    least Width = ordinary_limit (style_value own property.MinWidth) (own_value own property.MinWidth h)
    least Height = ordinary_limit (style_value own property.MinHeight) (own_value own property.MinHeight h)

    most : (axis : Axis) → IfSome (limit_along axis (style.most Width own ∷ (style.most Height own ∷ []))) IsOrdinaryScalar
    most Width = ordinary_limit (style_value own property.MaxWidth) (own_value own property.MaxWidth h)
    most Height = ordinary_limit (style_value own property.MaxHeight) (own_value own property.MaxHeight h)

ordinary_grid : ((own : List Value) → ReadsAreWithin own) → (own : List Value) → All IsOrdinaryValue own → IsOrdinaryGrid (grid_style own)
ordinary_grid within own h =
    let accepted = grid_within own (within own) in
    record {
      columns = accepted.columns;
      rows = accepted.rows;
      column_tracks = ordinary_tracks (style_value own property.GridColumns) (own_value own property.GridColumns h);
      row_tracks = ordinary_tracks (style_value own property.GridRows) (own_value own property.GridRows h);
      gutter_vertical = accepted.gutter_vertical;
      gutter_horizontal = accepted.gutter_horizontal;
    }

pub ordinary_looks : OneForm → ((own : List Value) → ReadsAreWithin own) → OrdinaryLooks
ordinary_looks forms within = record { boxes = ordinary_box forms within; grids = ordinary_grid within }
