-- What a value says of each sort. A value of another sort, `initial` too, says what the initial one of the properties of that sort says.
use Rattle.std.specs.Prelude.{ℕ, pos, int_lt, unsigned_abs, nat_le, min, Bool, not, ◌&&◌, List, [], ◌∷◌, length, Option, Some, None, unwrap_or, codes, if◌then◌else◌}
use Rattle.std.specs.List.{list_all}
use Rattle.tx_frac.specs.declared.scalars.Scalar.{Scalar}
use Rattle.tx_geom.specs.Colour.{Tint}
use Rattle.tx_geom.specs.Marks.{no_marks}
use Rattle.tx_geom.specs.declared.places.Offset.{Offset}
use Rattle.tx_geom.specs.declared.styles.TextStyle.{TextStyle}
use Rattle.tx_value.specs.Colours.{clear}
use Rattle.tx_value.specs.ColourTables.{hex}
use Rattle.tx_value.specs.Holds.{is_word, is_auto, is_optional_rows, is_offset_part, is_gutter_part}
use Rattle.tx_value.specs.Initial.{whole_size}
use Rattle.tx_value.specs.Numbers.{is_share, is_within}
use Rattle.tx_value.specs.Theme.{theme_colour}
use Rattle.tx_value.specs.declared.reads.values.Border.{Border}
use Rattle.tx_value.specs.declared.theme.ThemeName.TheVariants.{Foreground}
use Rattle.tx_value.specs.declared.value.Ink.{Ink}
use Rattle.tx_value.specs.declared.value.Ink.TheVariants.{Fixed, Theme}
use Rattle.tx_value.specs.declared.value.Value.{Value}
use Rattle.tx_value.specs.declared.value.Value.TheVariants as value
use Rattle.tx_value.specs.declared.value.Word.{Word}
use Rattle.tx_value.specs.declared.value.Word.TheVariants as word

-- a keyword; of another sort is `none`
abbrev pub word_in : Value → Word
word_in (value.Word w) = w
word_in _ = word.Nothing

-- whether a value is this keyword
abbrev pub says : Word → Value → Bool
says w v = is_word (w ∷ []) v

-- ---- sizes

-- not below 0
abbrev pub is_unsigned : Scalar → Bool
is_unsigned s = not (int_lt s.value.num (pos 0))

-- a size with a number: no `auto`
abbrev pub is_length : Scalar → Bool
is_length s = not (is_auto s.unit) && is_unsigned s

abbrev pub size_in : Value → Scalar
size_in (value.Size s) = if is_unsigned s then s else whole_size
size_in _ = whole_size

-- of a smallest or a greatest size; there may be none
abbrev pub limit_in : Value → Option Scalar
limit_in (value.Size s) = if is_length s && not (is_share s.unit) then Some s else None
limit_in _ = None

abbrev pub tracks_in : Value → List Scalar
tracks_in (value.Sizes sizes) = if is_within 1 60 (length sizes) && list_all is_length sizes then sizes else []
tracks_in _ = []

-- ---- whole numbers

-- cells along a side
abbrev pub cells_in : Value → ℕ
cells_in (value.Whole n) = if nat_le n 9999 then n else 0
cells_in _ = 0

-- columns or rows that a child takes
abbrev pub span_in : Value → ℕ
span_in (value.Whole n) = if is_within 1 100 n then n else 1
span_in _ = 1

-- columns, and rows where they are given
abbrev pub grid_size_in : Value → ℕ × Option ℕ
grid_size_in (value.GridSize columns rows) = if is_within 1 100 columns && is_optional_rows rows then (columns, rows) else (1, None)
grid_size_in _ = (1, None)

-- down and across
abbrev pub grid_gutter_in : Value → ℕ × ℕ
grid_gutter_in (value.Pair v h) = if is_gutter_part v && is_gutter_part h then (unsigned_abs v, unsigned_abs h) else (0, 0)
grid_gutter_in _ = (0, 0)

abbrev pub nowhere_else : Offset
nowhere_else = record { x = pos 0; y = pos 0 }

abbrev pub offset_in : Value → Offset
offset_in (value.Pair x y) = if is_offset_part x && is_offset_part y then record { x = x; y = y } else nowhere_else
offset_in _ = nowhere_else

-- ---- names

abbrev pub layer_in : Value → Option (List ℕ)
layer_in (value.Layer name) = Some name
layer_in _ = None

abbrev pub layers_in : Value → List (List ℕ)
layers_in (value.Names names) = if is_within 1 32 (length names) then names else []
layers_in _ = []

-- ---- colours, borders and marks

-- what an ink is in the dark theme or in the light one
abbrev pub colour_of : Bool → Ink → Tint
colour_of dark (Fixed tint) = tint
colour_of dark (Theme name alpha) = record { rgb = theme_colour name dark; alpha = min alpha 100 }

-- what lies under a row
abbrev pub background_in : Value → Ink
background_in (value.Ink ink) = ink
background_in _ = clear

-- what a row is written in
abbrev pub color_in : Value → Ink
color_in (value.Ink ink) = ink
color_in _ = Theme Foreground 100

-- that of a border without a colour
abbrev pub border_ink : Ink
border_ink = Fixed (record { rgb = hex (codes "00ff00"); alpha = 100 })

abbrev pub border_in : Value → Option Border
border_in (value.Border kind ink) = Some (record { kind = kind; ink = unwrap_or ink border_ink })
border_in _ = None

abbrev pub marks_in : Value → TextStyle
marks_in (value.Marks marks) = marks
marks_in _ = no_marks
