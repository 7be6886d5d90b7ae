-- What each sort of values gives passes the test of that sort.
use Rattle.std.proofs.Common.{◌≡◌, ℕ, zero, suc, pos, neg_ℤ, Bool, true, false, not, ◌&&◌, nat_eq, nat_le, List, [], ◌∷◌, drop, Option, Some, None, option_map, cond, refl, ap}
use Rattle.std.specs.Prelude.{unsigned_abs, codes}
use Rattle.std.specs.Option.{option_zip}
use Rattle.std.proofs.lemmas.Bool.{and_parts, and_from}
use Rattle.tx_frac.specs.declared.scalars.Scalar.{Scalar}
use Rattle.tx_frac.specs.declared.scalars.Unit.{Unit}
use Rattle.tx_geom.specs.declared.choices.BorderKind.{BorderKind}
use Rattle.tx_read.specs.Number.{number_at_most, is_number, value}
use Rattle.tx_lex.specs.Lexemes.{Lexeme, is_name_token, is_number as is_number_kind}
use Rattle.tx_text.specs.Name.{is_name}
use Rattle.tx_value.specs.Names.{keyword, name_in, if_among, among, word_of, is_word, is_only}
use Rattle.tx_value.specs.Numbers.{Numeral, numeral_of, has_digits, unit_of, sized, scalar_of, auto, size_of, is_share, unless_share, limit_of, is_within, short_number, from_least, whole_of_token, signed_number, signed_of, is_percent_sign, digits, behind_digits, percent_of}
use Rattle.tx_value.specs.Colours.{alpha_of, inked, ink_of, transparent, rgb_colour, hue_of, colour}
use Rattle.tx_value.specs.Tables.{units}
use Rattle.tx_value.specs.Values as values
use Rattle.tx_value.specs.Holds as holds
use Rattle.tx_value.specs.declared.value.Hue.{Hue}
use Rattle.tx_value.specs.declared.value.Hue.TheVariants.{Plain, Themed}
use Rattle.tx_value.specs.declared.value.Ink.{Ink}
use Rattle.tx_value.specs.declared.value.Value.TheVariants as value
use Rattle.tx_value.specs.declared.value.Word.{Word}
use Rattle.tx_value.specs.declared.value.Word.TheVariants.{Nothing}
use Rattle.tx_value.proofs.ShortNumbers.{not_below, AreDigits, numeral_digits, short_amount}
use Rattle.tx_value.proofs.Passing.{passes, through, weaker, all_pass, of_both, one_of_two, checked, of_alone, of_entry, of_some}

-- ---- keywords

of_among : (choices : List Word) (o : Option Word) → passes (among choices) (if_among choices o) ≡ true
of_among choices None = refl
of_among choices (Some w) = checked (among choices) (among choices w) (Some w) (λ h. h)

pub word_token : (choices : List Word) (t : Lexeme) → passes (among choices) (word_of choices t) ≡ true
word_token choices t = of_among choices (name_in keyword t)

pub word : (choices : List Word) (ts : List Lexeme) → passes (holds.is_word choices) (values.word choices ts) ≡ true
word choices ts = through (holds.is_word choices) (λ w. value.Word w) (values.alone (word_of choices) ts) (of_alone (among choices) (word_of choices) ts (word_token choices))

-- ---- numbers

limited : (most : ℕ) (bytes : List ℕ) → passes (λ n. nat_le n most) (number_at_most most bytes) ≡ true
limited most bytes = checked (λ n. nat_le n most) _ (Some (value bytes)) (λ h. (and_parts (is_number bytes) _ h).1)

short : (most : ℕ) (bytes : List ℕ) → passes (λ n. nat_le n most) (short_number most bytes) ≡ true
short most bytes = checked (λ n. nat_le n most) _ (number_at_most most bytes) (λ h. limited most bytes)

from : (least most : ℕ) (o : Option ℕ) → passes (λ n. nat_le n most) o ≡ true → passes (is_within least most) (from_least least o) ≡ true
from least most None h = refl
from least most (Some n) h = checked (is_within least most) (nat_le least n) (Some n) (λ more. and_from (nat_le least n) (nat_le n most) more h)

pub whole_token : (least most : ℕ) (t : Lexeme) → passes (is_within least most) (whole_of_token least most t) ≡ true
whole_token least most t = checked (is_within least most) (is_number_kind t.kind) _ (λ h. from least most (short_number most t.bytes) (short most t.bytes))

pub whole : (least most : ℕ) (ts : List Lexeme) → passes (holds.is_whole least most) (values.whole least most ts) ≡ true
whole least most ts = through (holds.is_whole least most) (λ n. value.Whole n) (values.alone (whole_of_token least most) ts) (of_alone (is_within least most) (whole_of_token least most) ts (whole_token least most))

part_of : (n : ℕ) → nat_le n 9999 ≡ true → holds.is_offset_part (neg_ℤ (pos n)) ≡ true
part_of zero h = refl
part_of (suc n) h = h

signed : (bytes : List ℕ) → passes holds.is_offset_part (signed_number 9999 bytes) ≡ true
signed [] = refl
signed (b ∷ bytes) =
    one_of_two holds.is_offset_part (nat_eq b 45) _ _
    (through holds.is_offset_part (λ n. neg_ℤ (pos n)) (short_number 9999 bytes) (weaker (λ n. nat_le n 9999) (λ n. holds.is_offset_part (neg_ℤ (pos n))) (short_number 9999 bytes) part_of (short 9999 bytes)))
    (through holds.is_offset_part (λ n. pos n) (short_number 9999 (b ∷ bytes)) (short 9999 (b ∷ bytes)))

signed_token : (t : Lexeme) → passes holds.is_offset_part (signed_of 9999 t) ≡ true
signed_token t = checked holds.is_offset_part (is_number_kind t.kind) _ (λ h. signed t.bytes)

cells : (t : Lexeme) → passes holds.is_gutter_part (values.cells t) ≡ true
cells t = through holds.is_gutter_part (λ n. pos n) (whole_of_token 0 9999 t) (weaker (is_within 0 9999) (λ n. holds.is_gutter_part (pos n)) (whole_of_token 0 9999 t) (λ n h. and_from _ (nat_le n 9999) (not_below n) (and_parts (nat_le 0 n) _ h).1) (whole_token 0 9999 t))

two_cells : (v h : Lexeme) → passes holds.is_gutter (values.pair (values.cells v) (values.cells h)) ≡ true
two_cells v h =
    through holds.is_gutter (λ both. value.Pair both.0 both.1) (option_zip (values.cells v) (values.cells h)) (of_both holds.is_gutter_part holds.is_gutter_part (values.cells v) (values.cells h) (cells v) (cells h))

pub gutter : (ts : List Lexeme) → passes holds.is_gutter (values.gutter ts) ≡ true
unfolding values.gutter
gutter [] = refl
gutter (a ∷ []) = two_cells a a
gutter (v ∷ h ∷ []) = two_cells v h
gutter (v ∷ h ∷ t ∷ ts) = refl

pub offset : (ts : List Lexeme) → passes holds.is_offset (values.offset ts) ≡ true
unfolding values.offset
offset [] = refl
offset (x ∷ []) = refl
offset (x ∷ y ∷ []) = through holds.is_offset (λ p. value.Pair p.0 p.1) (option_zip (signed_of 9999 x) (signed_of 9999 y)) (of_both holds.is_offset_part holds.is_offset_part (signed_of 9999 x) (signed_of 9999 y) (signed_token x) (signed_token y))
offset (x ∷ y ∷ t ∷ ts) = refl

pub grid_size : (ts : List Lexeme) → passes holds.is_grid_size (values.grid_size ts) ≡ true
unfolding values.grid_size
grid_size [] = refl
grid_size (c ∷ []) =
    through holds.is_grid_size (λ n. value.GridSize n None) (whole_of_token 1 100 c) (weaker (is_within 1 100) (λ n. is_within 1 100 n && true) (whole_of_token 1 100 c) (λ n h. and_from (is_within 1 100 n) true h refl) (whole_token 1 100 c))
grid_size (c ∷ r ∷ []) =
    through holds.is_grid_size (λ size. value.GridSize size.0 (Some size.1)) (option_zip (whole_of_token 1 100 c) (whole_of_token 1 1000 r))
    (of_both (is_within 1 100) (is_within 1 1000) (whole_of_token 1 100 c) (whole_of_token 1 1000 r) (whole_token 1 100 c) (whole_token 1 1000 r))
grid_size (c ∷ r ∷ t ∷ ts) = refl

-- ---- sizes

not_auto : (name : List ℕ) → passes (λ u. not (holds.is_auto u)) (unit_of name) ≡ true
unfolding unit_of
not_auto name = of_entry (λ u. not (holds.is_auto u)) units name refl

sized_passes : (n : Numeral) → AreDigits n → (o : Option Unit) → passes (λ u. not (holds.is_auto u)) o ≡ true → passes holds.is_track (sized n o) ≡ true
sized_passes n are None h = refl
sized_passes n are (Some unit) h = checked holds.is_track (has_digits n.whole n.decimals) _ (λ few. and_from _ (not (holds.is_auto unit)) (short_amount n are few) h)

track : (t : Lexeme) → passes holds.is_track (scalar_of t) ≡ true
unfolding scalar_of
track t = checked holds.is_track (is_number_kind t.kind) _ (λ h. sized_passes (numeral_of t.bytes) (numeral_digits t.bytes) (unit_of (numeral_of t.bytes).unit) (not_auto (numeral_of t.bytes).unit))

-- what isn't `auto` has a number
sized_track : (s : Scalar) → holds.is_track s ≡ true → holds.is_sized s ≡ true
sized_track s h = let both = and_parts (holds.is_short s.value) _ h in of (holds.is_auto s.unit) both.1 both.0
  where
    of : (auto : Bool) → not auto ≡ true → holds.is_short s.value ≡ true → cond auto (nat_eq (unsigned_abs s.value.num) 0) (holds.is_short s.value) ≡ true
    of true no_auto short = absurd (let clash : false ≡ true = no_auto in cc)
    of false no_auto short = short

pub size : (ts : List Lexeme) → passes holds.is_size (values.size ts) ≡ true
size ts =
    through holds.is_size (λ s. value.Size s) (values.alone size_of ts) (of_alone holds.is_sized size_of ts (λ t.
    one_of_two holds.is_sized (is_word (codes "auto") t) (Some auto) (scalar_of t) refl (weaker holds.is_track holds.is_sized (scalar_of t) sized_track (track t))))

unshared : (o : Option Scalar) → passes holds.is_track o ≡ true → passes (λ s. holds.is_track s && not (is_share s.unit)) (unless_share o) ≡ true
unshared None h = refl
unshared (Some s) h = unless (is_share s.unit) refl
  where
    unless : (b : Bool) → is_share s.unit ≡ b → passes (λ s. holds.is_track s && not (is_share s.unit)) (cond b None (Some s)) ≡ true
    unless true is = refl
    unless false is = and_from (holds.is_track s) _ h (ap not is)

pub limit : (ts : List Lexeme) → passes holds.is_limit (values.limit ts) ≡ true
limit ts = of_alone holds.is_limit values.limit_in ts (λ t.
    one_of_two holds.is_limit (is_word (codes "none") t) (Some (value.Word Nothing)) _ refl (through holds.is_limit (λ s. value.Size s) (limit_of t) (unshared (scalar_of t) (track t))))

pub tracks : (ts : List Lexeme) → passes holds.are_tracks (values.tracks ts) ≡ true
tracks ts = through holds.are_tracks (λ s. value.Sizes s) (values.some_of 60 scalar_of ts) (of_some holds.is_track 60 scalar_of ts track)

-- ---- names

name_passes : (t : Lexeme) → passes is_name (values.name_of t) ≡ true
name_passes t = checked is_name _ (Some t.bytes) (λ h. (and_parts (is_name_token t.kind) (is_name t.bytes) h).1)

pub layers : (ts : List Lexeme) → passes holds.are_layers (values.layers ts) ≡ true
layers ts = through holds.are_layers (λ n. value.Names n) (values.some_of 32 values.name_of ts) (of_some is_name 32 values.name_of ts name_passes)

pub layer : (ts : List Lexeme) → passes holds.is_layer (values.layer ts) ≡ true
layer ts = through holds.is_layer (λ n. value.Layer n) (values.alone values.name_of ts) (of_alone is_name values.name_of ts name_passes)

-- ---- colours

percent : (t : Lexeme) → passes (λ a. nat_le a 100) (percent_of t) ≡ true
percent t = checked (λ a. nat_le a 100) (is_number_kind t.kind) _ (λ h. checked (λ a. nat_le a 100) (is_percent_sign (behind_digits t.bytes)) _ (λ is. short 100 (digits t.bytes)))

alpha : (ts : List Lexeme) → passes (λ a. nat_le a 100) (alpha_of ts) ≡ true
alpha [] = refl
alpha (t ∷ []) = percent t
alpha (t ∷ t' ∷ ts) = refl

inked_passes : (hue : Hue) (a : ℕ) → nat_le a 100 ≡ true → holds.is_ink (inked hue a) ≡ true
inked_passes (Plain rgb) a h = h
inked_passes (Themed name) a h = h

ink_passes : (hue : Option Hue) (o : Option ℕ) → passes (λ a. nat_le a 100) o ≡ true → passes holds.is_ink (ink_of hue o) ≡ true
ink_passes None o h = refl
ink_passes (Some hue) None h = refl
ink_passes (Some hue) (Some a) h = inked_passes hue a h

clear_passes : (ts : List Lexeme) → passes holds.is_ink (transparent ts) ≡ true
clear_passes [] = refl
clear_passes (t ∷ ts) = refl

colour_passes : (ts : List Lexeme) → passes holds.is_ink (colour ts) ≡ true
unfolding colour
colour_passes [] = refl
colour_passes (t ∷ ts) =
    one_of_two holds.is_ink (is_word (codes "transparent") t) (transparent ts) _ (clear_passes ts)
    (one_of_two holds.is_ink (is_word (codes "rgb") t) (rgb_colour ts) _ (ink_passes _ (alpha_of (drop 7 ts)) (alpha (drop 7 ts))) (ink_passes (hue_of t) (alpha_of ts) (alpha ts)))

pub ink : (ts : List Lexeme) → passes holds.is_colour (values.ink ts) ≡ true
ink ts = through holds.is_colour (λ i. value.Ink i) (colour ts) (colour_passes ts)

-- ---- borders and marks

optional_passes : (ts : List Lexeme) → passes holds.is_optional_ink (values.optional_colour ts) ≡ true
optional_passes [] = refl
optional_passes (t ∷ ts) = through holds.is_optional_ink (λ i. Some i) (colour (t ∷ ts)) (colour_passes (t ∷ ts))

drawn_passes : (kind : Option (Option BorderKind)) (o : Option (Option Ink)) → passes holds.is_optional_ink o ≡ true
    → passes holds.is_border (option_map (λ edge. values.drawn edge.0 edge.1) (option_zip kind o)) ≡ true
drawn_passes None o h = refl
drawn_passes (Some kind) None h = refl
drawn_passes (Some None) (Some i) h = refl
drawn_passes (Some (Some kind)) (Some i) h = h

pub border : (ts : List Lexeme) → passes holds.is_border (values.border ts) ≡ true
unfolding values.border
border [] = refl
border (t ∷ ts) = drawn_passes (name_in values.border_kind t) (values.optional_colour ts) (optional_passes ts)

pub text_style : (ts : List Lexeme) → passes holds.is_text_style (values.text_style ts) ≡ true
unfolding values.text_style
text_style [] = refl
text_style (t ∷ ts) = one_of_two holds.is_text_style (is_only (codes "none") (t ∷ ts)) _ _ refl (through holds.is_text_style (λ m. value.Marks m) (values.marks_of (t ∷ ts)) (all_pass _ (values.marks_of (t ∷ ts)) (λ m. refl)))
