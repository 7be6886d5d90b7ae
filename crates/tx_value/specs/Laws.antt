-- Laws of what styles say.
use Rattle.std.specs.Prelude.{◌≡◌, ℕ, nat_le, Bool, not, ◌&&◌, IsTrue, IfSome, List, map}
use Rattle.std.specs.List.{list_all}
use Rattle.tx_frac.specs.declared.scalars.Scalar.{Scalar}
use Rattle.tx_geom.specs.declared.choices.Axis.{Axis}
use Rattle.tx_geom.specs.declared.choices.Edge.{Edge}
use Rattle.tx_geom.specs.declared.places.Spacing.{Spacing}
use Rattle.tx_value.specs.Holds.{is_optional_rows, is_offset_part}
use Rattle.tx_value.specs.Numbers.{is_share, is_within}
use Rattle.tx_value.specs.Style.{every_property, initial_style}
use Rattle.tx_value.specs.StyleReads as style
use Rattle.tx_value.specs.ValueReads.{is_unsigned, is_length}
use Rattle.tx_value.specs.declared.value.Value.{Value}
use Rattle.tx_value.specs.declared.value.Value.TheVariants.{Initial}

-- ---- `initial`

-- a style that has `initial` for every property
abbrev pub unset_style : List Value
unset_style = map (λ property. Initial) every_property

abbrev pub SaysTheSame : {A : Type 0} → (List Value → A) → Type 0
SaysTheSame read = read unset_style ≡ read initial_style

-- `initial` says of each property what its initial value says
pub record InitialIsTheInitialValue : Type 0 where
  pub is_displayed : SaysTheSame style.is_displayed
  pub is_visible : SaysTheSame style.is_visible
  pub layout : SaysTheSame style.layout
  pub dock : SaysTheSame style.dock
  pub box_sizing : SaysTheSame style.box_sizing
  pub overflow_x : SaysTheSame style.overflow_x
  pub overflow_y : SaysTheSame style.overflow_y
  pub align : SaysTheSame style.align
  pub content_align : SaysTheSame style.content_align
  pub text_align : SaysTheSame style.text_align
  pub size : (axis : Axis) → SaysTheSame (style.size axis)
  pub least : (axis : Axis) → SaysTheSame (style.least axis)
  pub most : (axis : Axis) → SaysTheSame (style.most axis)
  pub margin : SaysTheSame style.margin
  pub padding : SaysTheSame style.padding
  pub border : (edge : Edge) → SaysTheSame (style.border edge)
  pub offset : SaysTheSame style.offset
  pub background : SaysTheSame style.background
  pub color : SaysTheSame style.color
  pub text_style : SaysTheSame style.text_style
  pub grid_size : SaysTheSame style.grid_size
  pub column_tracks : SaysTheSame style.column_tracks
  pub row_tracks : SaysTheSame style.row_tracks
  pub grid_gutter : SaysTheSame style.grid_gutter
  pub column_span : SaysTheSame style.column_span
  pub row_span : SaysTheSame style.row_span
  pub layer : SaysTheSame style.layer
  pub layers : SaysTheSame style.layers

-- ---- bounds

-- at most 9,999 cells
abbrev pub are_cells : ℕ → Bool
are_cells n = nat_le n 9999

abbrev pub are_sides : Spacing → Bool
are_sides s = are_cells s.top && (are_cells s.right && (are_cells s.bottom && are_cells s.left))

-- a size that may be a smallest or a greatest one: at least 0, without `auto` and `fr`
abbrev pub is_limit_size : Scalar → Bool
is_limit_size s = is_length s && not (is_share s.unit)

-- what styles say is within these bounds, whatever values they have
pub record ReadsAreWithin (values : List Value) : Type 0 where
  pub size : (axis : Axis) → IsTrue (is_unsigned (style.size axis values))
  pub least : (axis : Axis) → IfSome (style.least axis values) (λ s. IsTrue (is_limit_size s))
  pub most : (axis : Axis) → IfSome (style.most axis values) (λ s. IsTrue (is_limit_size s))
  pub margin : IsTrue (are_sides (style.margin values))
  pub padding : IsTrue (are_sides (style.padding values))
  pub offset : IsTrue (is_offset_part (style.offset values).x && is_offset_part (style.offset values).y)
  pub columns : IsTrue (is_within 1 100 (style.grid_size values).0)
  pub rows : IsTrue (is_optional_rows (style.grid_size values).1)
  pub column_tracks : IsTrue (list_all is_length (style.column_tracks values))
  pub row_tracks : IsTrue (list_all is_length (style.row_tracks values))
  pub grid_gutter : IsTrue (are_cells (style.grid_gutter values).0 && are_cells (style.grid_gutter values).1)
  pub column_span : IsTrue (is_within 1 100 (style.column_span values))
  pub row_span : IsTrue (is_within 1 100 (style.row_span values))
