-- The values of each property, as the table of properties has them. Spaces and comments are left out before.
use Rattle.std.specs.Prelude.{ℕ, ℤ, pos, ◌&&◌, List, [], ◌∷◌, length, Option, Some, None, option_map, codes, if◌then◌else◌}
use Rattle.std.specs.Option.{option_zip}
use Rattle.tx_geom.specs.Marks.{no_marks, with_marks}
use Rattle.tx_geom.specs.declared.choices.BorderKind.{BorderKind}
use Rattle.tx_geom.specs.declared.styles.TextStyle.{TextStyle}
use Rattle.tx_text.specs.Name.{is_name}
use Rattle.tx_lex.specs.Lexemes.{Lexeme, is_name_token}
use Rattle.tx_read.specs.Words.{entry}
use Rattle.tx_value.specs.Names.{is_word, is_only, name_in, word_of}
use Rattle.tx_value.specs.Numbers.{is_within, scalar_of, size_of, limit_of, whole_of_token, signed_of}
use Rattle.tx_value.specs.Colours.{colour}
use Rattle.tx_value.specs.Tables.{borders, marks}
use Rattle.tx_value.specs.PropertyTable.{Sort, Keyword, Size, Limit, Whole, Border, Colour, Marks, GridSize, Tracks, Gutter, Layers, Layer, Offset, sort_of}
use Rattle.tx_value.specs.declared.property.Property.{Property}
use Rattle.tx_value.specs.declared.value.Ink.{Ink}
use Rattle.tx_value.specs.declared.value.Value.{Value}
use Rattle.tx_value.specs.declared.value.Value.TheVariants as value
use Rattle.tx_value.specs.declared.value.Word.{Word}
use Rattle.tx_value.specs.declared.value.Word.TheVariants.{Nothing}

-- ---- one token, or some of one sort

-- the only one
abbrev pub alone : {A : Type 0} → (Lexeme → Option A) → List Lexeme → Option A
alone reader [] = None
alone reader (t ∷ []) = reader t
alone reader (t ∷ t' ∷ ts) = None

-- a first one and the rest, where there are both
abbrev pub joined : {A : Type 0} → Option A → Option (List A) → Option (List A)
joined first rest = option_map (λ both. both.0 ∷ both.1) (option_zip first rest)

-- what each one gives, where all give something
abbrev pub each : {A : Type 0} → (Lexeme → Option A) → List Lexeme → Option (List A)
each reader [] = Some []
each reader (t ∷ ts) = joined (reader t) (each reader ts)

-- the same of one or more, up to a number
abbrev pub some_of : {A : Type 0} → ℕ → (Lexeme → Option A) → List Lexeme → Option (List A)
some_of most reader ts = if is_within 1 most (length ts) then each reader ts else None

-- ---- sorts of values

-- one of some keywords
abbrev pub word : List Word → List Lexeme → Option Value
word choices ts = option_map (λ w. value.Word w) (alone (word_of choices) ts)

-- a size
abbrev pub size : List Lexeme → Option Value
size ts = option_map (λ s. value.Size s) (alone size_of ts)

-- `none`, or a size without `fr` and `auto`
abbrev pub limit_in : Lexeme → Option Value
limit_in t = if is_word (codes "none") t then Some (value.Word Nothing) else option_map (λ s. value.Size s) (limit_of t)

abbrev pub limit : List Lexeme → Option Value
limit ts = alone limit_in ts

-- a whole number from one number to another
abbrev pub whole : ℕ → ℕ → List Lexeme → Option Value
whole least most ts = option_map (λ n. value.Whole n) (alone (whole_of_token least most) ts)

abbrev pub optional_colour : List Lexeme → Option (Option Ink)
optional_colour [] = Some None
optional_colour (t ∷ ts) = option_map (λ ink. Some ink) (colour (t ∷ ts))

-- of a name, the kind or that there is none
unfoldable pub border_kind : List ℕ → Option (Option BorderKind)
border_kind name = entry borders name

-- `none` is no border, whatever its colour
abbrev pub drawn : Option BorderKind → Option Ink → Value
drawn (Some kind) ink = value.Border kind ink
drawn None ink = value.Word Nothing

-- a kind with or without a colour, `none` too
unfoldable pub border : List Lexeme → Option Value
border [] = None
border (t ∷ ts) = option_map (λ edge. drawn edge.0 edge.1) (option_zip (name_in border_kind t) (optional_colour ts))

-- a colour
abbrev pub ink : List Lexeme → Option Value
ink ts = option_map (λ i. value.Ink i) (colour ts)

-- a mark of a text
unfoldable pub mark_of : List ℕ → Option TextStyle
mark_of name = entry marks name

abbrev pub marked : Option TextStyle → Option TextStyle → Option TextStyle
marked mark more = option_map (λ both. with_marks both.0 both.1) (option_zip mark more)

abbrev pub marks_of : List Lexeme → Option TextStyle
marks_of [] = Some no_marks
marks_of (t ∷ ts) = marked (name_in mark_of t) (marks_of ts)

-- `none`, or one or more marks
unfoldable pub text_style : List Lexeme → Option Value
text_style [] = None
text_style (t ∷ ts) = if is_only (codes "none") (t ∷ ts) then Some (value.Marks no_marks) else option_map (λ m. value.Marks m) (marks_of (t ∷ ts))

-- columns, and rows where they are given
unfoldable pub grid_size : List Lexeme → Option Value
grid_size [] = None
grid_size (c ∷ []) = option_map (λ columns. value.GridSize columns None) (whole_of_token 1 100 c)
grid_size (c ∷ r ∷ []) = option_map (λ size. value.GridSize size.0 (Some size.1)) (option_zip (whole_of_token 1 100 c) (whole_of_token 1 1000 r))
grid_size (c ∷ r ∷ t ∷ ts) = None

-- sizes without `auto`
abbrev pub tracks : List Lexeme → Option Value
tracks ts = option_map (λ sizes. value.Sizes sizes) (some_of 60 scalar_of ts)

abbrev pub pair : Option ℤ → Option ℤ → Option Value
pair first second = option_map (λ both. value.Pair both.0 both.1) (option_zip first second)

abbrev pub cells : Lexeme → Option ℤ
cells t = option_map (λ n. pos n) (whole_of_token 0 9999 t)

-- one number for both, or vertical and horizontal
unfoldable pub gutter : List Lexeme → Option Value
gutter [] = None
gutter (a ∷ []) = pair (cells a) (cells a)
gutter (v ∷ h ∷ []) = pair (cells v) (cells h)
gutter (v ∷ h ∷ t ∷ ts) = None

-- across and down, each with an optional `-`
unfoldable pub offset : List Lexeme → Option Value
offset [] = None
offset (x ∷ []) = None
offset (x ∷ y ∷ []) = pair (signed_of 9999 x) (signed_of 9999 y)
offset (x ∷ y ∷ t ∷ ts) = None

-- a name of at most 64 bytes
abbrev pub name_of : Lexeme → Option (List ℕ)
name_of t = if is_name_token t.kind && is_name t.bytes then Some t.bytes else None

abbrev pub layers : List Lexeme → Option Value
layers ts = option_map (λ names. value.Names names) (some_of 32 name_of ts)

abbrev pub layer : List Lexeme → Option Value
layer ts = option_map (λ name. value.Layer name) (alone name_of ts)

-- ---- by the table of properties

abbrev pub value_of_sort : Sort → List Lexeme → Option Value
value_of_sort (Keyword choices first) ts = word choices ts
value_of_sort Size ts = size ts
value_of_sort Limit ts = limit ts
value_of_sort (Whole least most) ts = whole least most ts
value_of_sort Border ts = border ts
value_of_sort (Colour first) ts = ink ts
value_of_sort Marks ts = text_style ts
value_of_sort GridSize ts = grid_size ts
value_of_sort Tracks ts = tracks ts
value_of_sort Gutter ts = gutter ts
value_of_sort Layers ts = layers ts
value_of_sort Layer ts = layer ts
value_of_sort Offset ts = offset ts

unfoldable pub value_of : Property → List Lexeme → Option Value
value_of property ts = value_of_sort (sort_of property) ts
