-- Colours in values.
use Rattle.std.specs.Option.{option_zip}
use Rattle.std.specs.Prelude.{ℕ, Bool, ◌&&◌, List, [], ◌∷◌, take, drop, Option, Some, None, option_map, if◌then◌else◌, codes}
use Rattle.tx_geom.specs.declared.colours.Rgb.{Rgb}
use Rattle.tx_lex.specs.declared.token.TokenKind.{TokenKind}
use Rattle.tx_lex.specs.Lexemes.{Lexeme, is_name_token, is_hash, is_variable, is_mark}
use Rattle.tx_read.specs.Words.{entry}
use Rattle.tx_value.specs.Names.{is_word}
use Rattle.tx_value.specs.Numbers.{whole_of_token, percent_of}
use Rattle.tx_value.specs.ColourTables.{colour_names}
use Rattle.tx_value.specs.HexColours.{rgb_of, hex_colour, black}
use Rattle.tx_value.specs.Theme.{theme_name_of}
use Rattle.tx_value.specs.declared.value.Hue.{Hue}
use Rattle.tx_value.specs.declared.value.Hue.TheVariants.{Plain, Themed}
use Rattle.tx_value.specs.declared.value.Ink.{Ink}
use Rattle.tx_value.specs.declared.value.Ink.TheVariants.{Fixed, Theme}

-- ---- one token

-- the colour of a name
unfoldable pub colour_named : List ℕ → Option Rgb
colour_named name = entry colour_names name

-- a colour of digits, a name, or a predefined variable
abbrev pub hue_of : Lexeme → Option Hue
hue_of t =
    if is_hash t.kind then option_map (λ rgb. Plain rgb) (hex_colour (drop 1 t.bytes))
    else if is_variable t.kind then option_map (λ name. Themed name) (theme_name_of (drop 1 t.bytes))
    else if is_name_token t.kind then option_map (λ rgb. Plain rgb) (colour_named t.bytes)
    else None

-- ---- several tokens

-- the marks of `(r, g, b)`
abbrev pub are_marks : TokenKind → TokenKind → TokenKind → TokenKind → Bool
are_marks first second third last = is_mark 40 first && (is_mark 44 second && (is_mark 44 third && is_mark 41 last))

-- `(r, g, b)`
abbrev pub channels : List Lexeme → Option Rgb
channels (first ∷ r ∷ second ∷ g ∷ third ∷ b ∷ last ∷ []) =
    if are_marks first.kind second.kind third.kind last.kind
    then rgb_of (whole_of_token 0 255 r) (whole_of_token 0 255 g) (whole_of_token 0 255 b)
    else None
channels _ = None

-- after a colour: a percentage, or nothing, which is 100
abbrev pub alpha_of : List Lexeme → Option ℕ
alpha_of [] = Some 100
alpha_of (t ∷ []) = percent_of t
alpha_of (t ∷ t' ∷ ts) = None

abbrev pub inked : Hue → ℕ → Ink
inked (Plain rgb) alpha = Fixed (record { rgb = rgb; alpha = alpha })
inked (Themed name) alpha = Theme name alpha

abbrev pub ink_of : Option Hue → Option ℕ → Option Ink
ink_of hue alpha = option_map (λ ink. inked ink.0 ink.1) (option_zip hue alpha)

-- what covers nothing
abbrev pub clear : Ink
clear = Fixed (record { rgb = black; alpha = 0 })

-- the same, where no percentage stands after it
abbrev pub transparent : List Lexeme → Option Ink
transparent [] = Some clear
transparent (t ∷ ts) = None

-- what stands after `rgb`
abbrev pub rgb_colour : List Lexeme → Option Ink
rgb_colour ts = ink_of (option_map (λ rgb. Plain rgb) (channels (take 7 ts))) (alpha_of (drop 7 ts))

-- a colour
unfoldable pub colour : List Lexeme → Option Ink
colour [] = None
colour (t ∷ ts) =
    if is_word (codes "transparent") t then transparent ts
    else if is_word (codes "rgb") t then rgb_colour ts
    else ink_of (hue_of t) (alpha_of ts)
