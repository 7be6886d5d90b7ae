-- Which private states a drawing or a reaction takes as they are, and what stands for the others.
use Rattle.std.specs.Prelude.{ℕ, ◌==◌, Bool, true, not, ◌&&◌, ◌||◌, nat_le, nat_lt, List, [], ◌∷◌, length, drop, if◌then◌else◌}
use Rattle.tx_cell.specs.Lines.{text_lines}
use Rattle.tx_tree.specs.Kind.{fresh, has_form}
use Rattle.tx_tree.specs.declared.kind.Kind.{Kind}
use Rattle.tx_tree.specs.declared.kind.Private.{Private}
use Rattle.tx_tree.specs.declared.kind.Private.TheVariants.{Plain, Cursor, On, Chosen, Bar}

-- whether these bytes are none or begin a character in UTF-8
abbrev pub begins_character : List ℕ → Bool
begins_character [] = true
begins_character (byte ∷ bytes) = nat_lt byte 128 || nat_le 192 byte

-- whether a byte offset is a character edge of a text, its end included
abbrev pub is_edge : List ℕ → ℕ → Bool
is_edge text at = nat_le at (length text) && begins_character (drop at text)

-- whether a private state suits a text: a cursor is a character edge, a chosen line is the first or one that is there, and a
-- bar has a total that isn't 0 and that it doesn't pass
abbrev pub suits : List ℕ → Private → Bool
suits text Plain = true
suits text (Cursor at) = is_edge text at
suits text (On on) = true
suits text (Chosen line) = (line == 0) || nat_lt line (length (text_lines text))
suits text (Bar done total) = not (total == 0) && nat_le done total

-- whether a private state is taken as it is
abbrev pub is_in_form : Kind → List ℕ → Private → Bool
is_in_form kind text private = has_form kind private && suits text private

-- the private state that a row is drawn with: its own where that is in form, else the fresh one
abbrev pub state_of : Kind → List ℕ → Private → Private
state_of kind text private = if is_in_form kind text private then private else fresh kind (length text)
