-- The characters that borders are drawn with.
use Rattle.std.specs.Prelude.{ℕ, ◌+◌, ◌/◌, ◌%◌, List, [], ◌∷◌, codes}
use Rattle.tx_geom.specs.declared.choices.BorderKind.{BorderKind}
use Rattle.tx_geom.specs.declared.choices.BorderKind.TheVariants.{Blank, Ascii, Solid, Round, Double, Heavy}
use Rattle.tx_paint.specs.declared.glyphs.Part.{Part}
use Rattle.tx_paint.specs.declared.glyphs.Part.TheVariants.{Horizontal, Vertical, TopLeft, TopRight, BottomRight, BottomLeft}

-- the three bytes in UTF-8 of a character from U+2000 to U+2FFF
abbrev pub utf8_of : ℕ → List ℕ
utf8_of character = 0xE2 ∷ (0x80 + character / 64 % 64) ∷ (0x80 + character % 64) ∷ []

-- one of these, by part: along a side, and at a corner
abbrev pub by_part : {A : Type 0} → A → A → A → A → A → A → Part → A
by_part horizontal vertical top_left top_right bottom_right bottom_left Horizontal = horizontal
by_part horizontal vertical top_left top_right bottom_right bottom_left Vertical = vertical
by_part horizontal vertical top_left top_right bottom_right bottom_left TopLeft = top_left
by_part horizontal vertical top_left top_right bottom_right bottom_left TopRight = top_right
by_part horizontal vertical top_left top_right bottom_right bottom_left BottomRight = bottom_right
by_part horizontal vertical top_left top_right bottom_right bottom_left BottomLeft = bottom_left

-- the same of characters from U+2500 on, each by its last two digits
abbrev pub lines_by : ℕ → ℕ → ℕ → ℕ → ℕ → ℕ → Part → List ℕ
lines_by horizontal vertical top_left top_right bottom_right bottom_left part =
    utf8_of (0x2500 + by_part horizontal vertical top_left top_right bottom_right bottom_left part)

-- the character of each kind and part: horizontal, vertical, and the corners from the top left clockwise
abbrev pub glyph : BorderKind → Part → List ℕ
glyph Blank part = codes " "
glyph Ascii part = by_part (codes "-") (codes "|") (codes "+") (codes "+") (codes "+") (codes "+") part
glyph Solid part = lines_by 0x00 0x02 0x0C 0x10 0x18 0x14 part
glyph Round part = lines_by 0x00 0x02 0x6D 0x6E 0x6F 0x70 part
glyph Double part = lines_by 0x50 0x51 0x54 0x57 0x5D 0x5A part
glyph Heavy part = lines_by 0x01 0x03 0x0F 0x13 0x1B 0x17 part
