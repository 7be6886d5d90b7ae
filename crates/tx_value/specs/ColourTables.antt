-- The colours of the standard, in its own words.
use Rattle.std.specs.Prelude.{ℕ, List, [], ◌∷◌, Option, Some, None, codes}
use Rattle.tx_geom.specs.declared.colours.Rgb.{Rgb}
use Rattle.tx_value.specs.HexColours.{hex_colour, black}
use Rattle.tx_value.specs.declared.theme.Tones.{Tones}
use Rattle.tx_value.specs.declared.theme.ThemeName.{ThemeName}
use Rattle.tx_value.specs.declared.theme.ThemeName.TheVariants.{Background, Surface, Panel, Primary, Secondary, Foreground, Text, Error, Success, Warning}

abbrev pub or_black : Option Rgb → Rgb
or_black None = black
or_black (Some rgb) = rgb

-- the colour of six digits
abbrev pub hex : List ℕ → Rgb
hex digits = or_black (hex_colour digits)

-- the colours that have a name
abbrev pub colour_names : List (List ℕ × Rgb)
colour_names =
    (codes "black", hex (codes "000000")) ∷
    (codes "white", hex (codes "ffffff")) ∷
    (codes "red", hex (codes "ff0000")) ∷
    (codes "green", hex (codes "008000")) ∷
    (codes "blue", hex (codes "0000ff")) ∷
    (codes "yellow", hex (codes "ffff00")) ∷
    (codes "cyan", hex (codes "00ffff")) ∷
    (codes "magenta", hex (codes "ff00ff")) ∷
    (codes "gray", hex (codes "808080")) ∷
    (codes "grey", hex (codes "808080")) ∷
    (codes "silver", hex (codes "c0c0c0")) ∷
    (codes "maroon", hex (codes "800000")) ∷
    (codes "navy", hex (codes "000080")) ∷
    (codes "teal", hex (codes "008080")) ∷
    (codes "olive", hex (codes "808000")) ∷
    (codes "purple", hex (codes "800080")) ∷
    (codes "lime", hex (codes "00ff00")) ∷
    (codes "orange", hex (codes "ffa500")) ∷
    []

-- the predefined variables, without their `$`
abbrev pub theme_names : List (List ℕ × ThemeName)
theme_names =
    (codes "background", Background) ∷
    (codes "surface", Surface) ∷
    (codes "panel", Panel) ∷
    (codes "primary", Primary) ∷
    (codes "secondary", Secondary) ∷
    (codes "foreground", Foreground) ∷
    (codes "text", Text) ∷
    (codes "error", Error) ∷
    (codes "success", Success) ∷
    (codes "warning", Warning) ∷
    []

-- a colour in the dark theme and in the light one
abbrev pub tones : List ℕ → List ℕ → Tones
tones dark light = record { dark = hex dark; light = hex light }

-- what each variable is
abbrev pub tones_of : ThemeName → Tones
tones_of Background = tones (codes "121212") (codes "e0e0e0")
tones_of Surface = tones (codes "1e1e1e") (codes "d8d8d8")
tones_of Panel = tones (codes "242f38") (codes "d0d0d0")
tones_of Primary = tones (codes "0178d4") (codes "004578")
tones_of Secondary = tones (codes "004578") (codes "0178d4")
tones_of Foreground = tones (codes "e0e0e0") (codes "1f1f1f")
tones_of Text = tones (codes "ffffff") (codes "000000")
tones_of Error = tones (codes "ba3c5b") (codes "ba3c5b")
tones_of Success = tones (codes "4ebf71") (codes "2e7f41")
tones_of Warning = tones (codes "ffa62b") (codes "9f6000")
