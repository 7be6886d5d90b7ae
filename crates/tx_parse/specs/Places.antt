-- Lines and columns.
use Rattle.std.specs.Prelude.{ℕ, ◌+◌, Bool, not, ◌&&◌, ◌==◌, nat_le, min, List, [], ◌∷◌, take, if◌then◌else◌}
use Rattle.std.specs.List.{count_by}

abbrev pub is_line_feed : ℕ → Bool
is_line_feed byte = byte == 10

-- The first byte of a character in UTF-8: every other byte is from 0x80 to 0xBF.
abbrev pub begins_character : ℕ → Bool
begins_character byte = not (nat_le 128 byte && nat_le byte 191)

-- how many line feeds stand there
abbrev pub line_feeds : List ℕ → ℕ
line_feeds bytes = count_by is_line_feed bytes

-- how many characters stand after the last line feed, with this byte, where so many stood before it
abbrev pub characters_with : ℕ → ℕ → ℕ
characters_with count byte = if is_line_feed byte then 0 else if begins_character byte then count + 1 else count

-- the same with all these bytes
abbrev pub characters_from : ℕ → List ℕ → ℕ
characters_from count [] = count
characters_from count (byte ∷ bytes) = characters_from (characters_with count byte) bytes

-- numbers from 1, which stand still at 4,294,967,295
abbrev pub from_one : ℕ → ℕ
from_one n = min (n + 1) 4294967295

-- the line and the column of a byte
abbrev pub line_of : List ℕ → ℕ → ℕ
line_of bytes place = from_one (line_feeds (take place bytes))

abbrev pub column_of : List ℕ → ℕ → ℕ
column_of bytes place = from_one (characters_from 0 (take place bytes))
