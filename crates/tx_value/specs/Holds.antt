-- What the table of properties gives each property.
use Rattle.std.specs.Prelude.{ℕ, ◌*◌, ◌%◌, ◌^◌, ◌==◌, ℤ, unsigned_abs, pos, nat_lt, if◌then◌else◌, Bool, true, false, not, ◌&&◌, nat_le, int_lt, IsTrue, List, [], ◌∷◌, length, Option, Some, None}
use Rattle.std.specs.List.{list_all}
use Rattle.tx_frac.specs.Ratio.{Ratio}
use Rattle.tx_frac.specs.declared.scalars.Scalar.{Scalar}
use Rattle.tx_frac.specs.declared.scalars.Unit.{Unit}
use Rattle.tx_frac.specs.declared.scalars.Unit.TheVariants.{Auto}
use Rattle.tx_text.specs.Name.{is_name}
use Rattle.tx_value.specs.Names.{same_word, among}
use Rattle.tx_lex.specs.Digits.{most_whole, most_decimals}
use Rattle.tx_value.specs.Numbers.{is_share, is_within}
use Rattle.tx_value.specs.PropertyTable.{Sort, Keyword, Size, Limit, Whole, Border, Colour, Marks, GridSize, Tracks, Gutter, Layers, Layer, Offset, sort_of}
use Rattle.tx_value.specs.declared.property.Property.{Property}
use Rattle.tx_value.specs.declared.value.Ink.{Ink}
use Rattle.tx_value.specs.declared.value.Ink.TheVariants.{Fixed, Theme}
use Rattle.tx_value.specs.declared.value.Value.{Value}
use Rattle.tx_value.specs.declared.value.Value.TheVariants as value
use Rattle.tx_value.specs.declared.value.Word.{Word}
use Rattle.tx_value.specs.declared.value.Word.TheVariants.{Nothing}

-- ---- sorts of values

-- one of some keywords
abbrev pub is_word : List Word → Value → Bool
is_word choices (value.Word w) = among choices w
is_word choices _ = false

-- a number that is written with at most 9 digits before its point and 18 after it: not below 0, below 10^9, and a whole
-- number of parts of which 10^18 are one
unfoldable pub is_short : Ratio → Bool
is_short x = not (int_lt x.num (pos 0)) && (nat_lt (unsigned_abs x.num) (10 ^ most_whole * x.den) && 10 ^ most_decimals % x.den == 0)

abbrev pub is_auto : Unit → Bool
is_auto Auto = true
is_auto _ = false

-- a size; `auto` has no number
abbrev pub is_sized : Scalar → Bool
is_sized s = if is_auto s.unit then unsigned_abs s.value.num == 0 else is_short s.value

abbrev pub is_size : Value → Bool
is_size (value.Size s) = is_sized s
is_size _ = false

-- a size without `auto`
abbrev pub is_track : Scalar → Bool
is_track s = is_short s.value && not (is_auto s.unit)

-- `none`, or a size without `fr` and `auto`
abbrev pub is_limit : Value → Bool
is_limit (value.Word w) = same_word Nothing w
is_limit (value.Size s) = is_track s && not (is_share s.unit)
is_limit _ = false

-- a whole number from one number to another
abbrev pub is_whole : ℕ → ℕ → Value → Bool
is_whole least most (value.Whole n) = is_within least most n
is_whole least most _ = false

-- at most 100 percent
abbrev pub is_ink : Ink → Bool
is_ink (Fixed colour) = nat_le colour.alpha 100
is_ink (Theme name alpha) = nat_le alpha 100

abbrev pub is_optional_ink : Option Ink → Bool
is_optional_ink None = true
is_optional_ink (Some ink) = is_ink ink

-- `none`, or a kind with or without a colour
abbrev pub is_border : Value → Bool
is_border (value.Word w) = same_word Nothing w
is_border (value.Border kind ink) = is_optional_ink ink
is_border _ = false

abbrev pub is_colour : Value → Bool
is_colour (value.Ink ink) = is_ink ink
is_colour _ = false

abbrev pub is_text_style : Value → Bool
is_text_style (value.Marks marks) = true
is_text_style _ = false

abbrev pub is_optional_rows : Option ℕ → Bool
is_optional_rows None = true
is_optional_rows (Some rows) = is_within 1 1000 rows

abbrev pub is_grid_size : Value → Bool
is_grid_size (value.GridSize columns rows) = is_within 1 100 columns && is_optional_rows rows
is_grid_size _ = false

-- 1 to 60 sizes without `auto`
abbrev pub are_tracks : Value → Bool
are_tracks (value.Sizes sizes) = is_within 1 60 (length sizes) && list_all is_track sizes
are_tracks _ = false

-- from -9,999 to 9,999
abbrev pub is_offset_part : ℤ → Bool
is_offset_part z = nat_le (unsigned_abs z) 9999

abbrev pub is_offset : Value → Bool
is_offset (value.Pair x y) = is_offset_part x && is_offset_part y
is_offset _ = false

-- the same, and not below 0
abbrev pub is_gutter_part : ℤ → Bool
is_gutter_part z = not (int_lt z (pos 0)) && is_offset_part z

abbrev pub is_gutter : Value → Bool
is_gutter (value.Pair v h) = is_gutter_part v && is_gutter_part h
is_gutter _ = false

-- 1 to 32 names
abbrev pub are_layers : Value → Bool
are_layers (value.Names names) = is_within 1 32 (length names) && list_all is_name names
are_layers _ = false

abbrev pub is_layer : Value → Bool
is_layer (value.Layer name) = is_name name
is_layer _ = false

-- ---- by the table of properties

abbrev pub is_of_sort : Sort → Value → Bool
is_of_sort (Keyword choices first) v = is_word choices v
is_of_sort Size v = is_size v
is_of_sort Limit v = is_limit v
is_of_sort (Whole least most) v = is_whole least most v
is_of_sort Border v = is_border v
is_of_sort (Colour first) v = is_colour v
is_of_sort Marks v = is_text_style v
is_of_sort GridSize v = is_grid_size v
is_of_sort Tracks v = are_tracks v
is_of_sort Gutter v = is_gutter v
is_of_sort Layers v = are_layers v
is_of_sort Layer v = is_layer v
is_of_sort Offset v = is_offset v

-- `initial` aside
unfoldable pub is_given : Property → Value → Bool
is_given property v = is_of_sort (sort_of property) v

-- `initial`, or what the table gives
abbrev pub may_hold : Property → Value → Bool
may_hold p value.Initial = true
may_hold p v = is_given p v

abbrev pub HoldsOf : Property → Value → Type 0
HoldsOf p v = IsTrue (may_hold p v)

-- each of some pairs has such a value
abbrev pub AllHold : List (Property × Value) → Type 0
AllHold [] = Prim.Unit {0}
AllHold (pair ∷ pairs) = HoldsOf pair.0 pair.1 × AllHold pairs
