-- The colours of rows: each background lies over its parent's, and that of the Screen over black.
use Rattle.std.specs.Prelude.{Bool, List, [], ◌∷◌}
use Rattle.tx_geom.specs.Colour.{blended}
use Rattle.tx_geom.specs.declared.colours.Rgb.{Rgb}
use Rattle.tx_cell.specs.declared.pen.Pen.{Pen}
use Rattle.tx_value.specs.HexColours.{black}
use Rattle.tx_value.specs.StyleReads as style
use Rattle.tx_value.specs.ValueReads.{colour_of}
use Rattle.tx_value.specs.declared.value.Value.{Value}

-- a row's background: its own colour over its parent's background
abbrev pub background_over : Bool → List Value → Rgb → Rgb
background_over dark values under = blended (colour_of dark (style.background values)) under

-- what a row is written in: its `color` over its own background
abbrev pub fore_over : Bool → List Value → Rgb → Rgb
fore_over dark values back = blended (colour_of dark (style.color values)) back

-- the pen of a row with this style over this background of its parent
abbrev pub pen_over : Bool → List Value → Rgb → Pen
pen_over dark values under =
    record {
      fore = fore_over dark values (background_over dark values under);
      back = background_over dark values under;
      style = style.text_style values;
    }

-- the background under a row whose ancestors have these styles, its parent's first and the Screen's last: black under the Screen
abbrev pub background_above : Bool → List (List Value) → Rgb
background_above dark [] = black
background_above dark (values ∷ above) = background_over dark values (background_above dark above)
