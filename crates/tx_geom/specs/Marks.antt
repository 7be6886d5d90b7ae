-- The marks of a text.
use Rattle.std.specs.Prelude.{false, ◌||◌}
use Rattle.tx_geom.specs.declared.styles.TextStyle.{TextStyle}

-- no marks
abbrev pub no_marks : TextStyle
no_marks = record { bold = false; dim = false; italic = false; underline = false; reverse = false; strike = false }

-- the marks that one of two styles has, or both
abbrev pub with_marks : TextStyle → TextStyle → TextStyle
with_marks a b = record {
  bold = a.bold || b.bold;
  dim = a.dim || b.dim;
  italic = a.italic || b.italic;
  underline = a.underline || b.underline;
  reverse = a.reverse || b.reverse;
  strike = a.strike || b.strike;
}
