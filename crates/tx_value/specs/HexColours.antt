-- Colours of digits to base 16.
use Rattle.std.specs.Option.{option_zip}
use Rattle.std.specs.Prelude.{ℕ, ◌+◌, ◌-◌, ◌*◌, List, [], ◌∷◌, Option, Some, None, option_map, if◌then◌else◌}
use Rattle.tx_geom.specs.declared.colours.Rgb.{Rgb}
use Rattle.tx_value.specs.Numbers.{is_within}

-- a digit to base 16, in small or large letters
abbrev pub hex_digit : ℕ → Option ℕ
hex_digit byte =
    if is_within 48 57 byte then Some (byte - 48)
    else if is_within 97 102 byte then Some (byte - 87)
    else if is_within 65 70 byte then Some (byte - 55)
    else None

-- the channel that two digits write
abbrev pub hex_channel : ℕ → ℕ → Option ℕ
hex_channel high low = option_map (λ digits. digits.0 * 16 + digits.1) (option_zip (hex_digit high) (hex_digit low))

-- the colour of three channels
abbrev pub rgb_of : Option ℕ → Option ℕ → Option ℕ → Option Rgb
rgb_of r g b = option_map (λ rgb. record { r = rgb.0; g = rgb.1.0; b = rgb.1.1 }) (option_zip r (option_zip g b))

-- what stands after a `#`: three digits, each of which counts twice, or six
abbrev pub hex_colour : List ℕ → Option Rgb
hex_colour (r ∷ g ∷ b ∷ []) = rgb_of (hex_channel r r) (hex_channel g g) (hex_channel b b)
hex_colour (r ∷ r' ∷ g ∷ g' ∷ b ∷ b' ∷ []) = rgb_of (hex_channel r r') (hex_channel g g') (hex_channel b b')
hex_colour _ = None

abbrev pub black : Rgb
black = record { r = 0; g = 0; b = 0 }
