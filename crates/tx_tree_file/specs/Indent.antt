-- The blanks before a line of a tree file.
use Rattle.std.specs.Prelude.{ℕ, ◌+◌, ◌*◌, ◌%◌, ◌==◌, ◌&&◌, Bool, true, false, nat_le, if◌then◌else◌, List, [], ◌∷◌, drop, Option, Some, None, codes}
use Rattle.tx_read.specs.Pieces.{behind}
use Rattle.tx_tree.specs.declared.row.Row.{Row}

-- how many blanks stand at the start
abbrev pub blanks : List ℕ → ℕ
blanks [] = 0
blanks (byte ∷ bytes) = if byte == 32 then blanks bytes + 1 else 0

-- the line after them
abbrev pub past_blanks : List ℕ → List ℕ
past_blanks line = drop (blanks line) line

-- whether a word ends at the start of what stands after it
abbrev pub ends_word : Option (List ℕ) → Bool
ends_word None = false
ends_word (Some []) = true
ends_word (Some (byte ∷ bytes)) = byte == 32

-- whether the first word is `bind`
abbrev pub starts_bind : List ℕ → Bool
starts_bind text = ends_word (behind (codes "bind") text)

-- whether the first word of a line is `bind`
abbrev pub is_bind_line : List ℕ → Bool
is_bind_line line = starts_bind (past_blanks line)

-- whether so many blanks may stand before a line after a last row of this depth: a binding stands one step below it,
-- and a row at any depth from 1 to that
abbrev pub may_stand : ℕ → Bool → ℕ → Bool
may_stand depth true count = count == 2 * (depth + 1)
may_stand depth false count = count % 2 == 0 && (nat_le 2 count && nat_le count (2 * (depth + 1)))

-- whether a line may have its indent after this last row; the first line has none, but a binding there has no row and so
-- no indent that would be its own
abbrev pub may_indent : Option Row → List ℕ → Bool
may_indent None line = if is_bind_line line then true else blanks line == 0
may_indent (Some last) line = may_stand last.depth (is_bind_line line) (blanks line)

-- whether a row line is deeper than rows may be
abbrev pub is_too_deep : List ℕ → Bool
is_too_deep line = if is_bind_line line then false else blanks line == 128
