-- The predefined variables and their colours.
use Rattle.std.specs.Prelude.{ℕ, Bool, List, Option, if◌then◌else◌}
use Rattle.tx_geom.specs.declared.colours.Rgb.{Rgb}
use Rattle.tx_read.specs.Words.{entry}
use Rattle.tx_value.specs.ColourTables.{theme_names, tones_of}
use Rattle.tx_value.specs.declared.theme.ThemeName.{ThemeName}

-- the variable of a name without its `$`
unfoldable pub theme_name_of : List ℕ → Option ThemeName
theme_name_of name = entry theme_names name

-- what it is in the dark theme or in the light one
abbrev pub theme_colour : ThemeName → Bool → Rgb
theme_colour name dark = if dark then (tones_of name).dark else (tones_of name).light
