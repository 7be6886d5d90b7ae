-- The lines of a text.
use Rattle.std.specs.Prelude.{ℕ, ◌==◌, min, max, List, [], ◌∷◌, length, if◌then◌else◌}
use Rattle.std.specs.List.{slice_split}
use Rattle.std.specs.Str.Lines.{strip_carriage_return}
use Rattle.tx_cell.specs.Strip.{line_cells}
use Rattle.tx_cell.specs.declared.lines.Lines.{Lines}
use Rattle.tx_cell.specs.declared.pen.Pen.{Pen}

-- the lines that the pieces between line feeds are: a carriage return directly before a line feed is dropped
abbrev pub lines_of_pieces : List (List ℕ) → List (List ℕ)
lines_of_pieces [] = []
lines_of_pieces (last ∷ []) = last ∷ []
lines_of_pieces (piece ∷ next ∷ pieces) = strip_carriage_return piece ∷ lines_of_pieces (next ∷ pieces)

-- the pieces of a text between its line feeds, as lines
unfoldable pub pieces_of : List ℕ → List (List ℕ)
pieces_of text = lines_of_pieces (slice_split (λ byte. byte == 10) text)

-- the lines of a text: one of zero bytes has none
abbrev pub text_lines : List ℕ → List (List ℕ)
text_lines [] = []
text_lines (byte ∷ text) = pieces_of (byte ∷ text)

-- the lines that are still to come
abbrev pub lines_left : Lines → List (List ℕ)
lines_left lines = if lines.is_done then [] else pieces_of lines.rest.now

-- the columns of the widest of these lines
abbrev pub widest : List (List ℕ) → Pen → ℕ
widest [] pen = 0
widest (line ∷ lines) pen = max (length (line_cells line pen)) (widest lines pen)

-- the columns of a text: those of its widest line, where a greater number counts as 65,535
abbrev pub measured : List ℕ → Pen → ℕ
measured text pen = min (widest (text_lines text) pen) 65535
