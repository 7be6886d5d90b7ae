-- The characters that a terminal shows in one column whatever stands beside them.
use Rattle.std.specs.Prelude.{ℕ, Bool, false, ◌||◌, List, [], ◌∷◌}
use Rattle.std.specs.Int.{is_in_range}

-- a printable ASCII character, or one that draws lines and blocks
abbrev pub is_plain : ℕ → Bool
is_plain c = is_in_range 0x20 0x7E c || is_in_range 0x2500 0x259F c

-- the first of these characters is plain
abbrev pub begins_plain : List ℕ → Bool
begins_plain [] = false
begins_plain (first ∷ _) = is_plain first

-- a printable ASCII character
abbrev pub is_printable : ℕ → Bool
is_printable byte = is_in_range 0x20 0x7E byte
