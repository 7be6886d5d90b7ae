-- How a line is wrapped, as cells without tails: one for each cluster that has a cell.
use Rattle.std.specs.Prelude.{◌≡◌, ℕ, zero, suc, ◌-◌, ◌==◌, nat_le, nat_lt, Bool, true, false, ◌&&◌, ◌||◌, List, [], ◌∷◌, ◌++◌, length, take, drop, map, sum_by, Option, Some, None, if◌then◌else◌}
use Rattle.std.specs.List.{All, filter_map, flat_map}
use Rattle.std.specs.Option.{option_map}
use Rattle.unicode_segmentation.specs.Grapheme.{graphemes}
use Rattle.tx_cell.specs.Cell.{CellValue, replacement, cell_of}
use Rattle.tx_cell.specs.Lines.{text_lines}
use Rattle.tx_cell.specs.Strip.{line_cells, with_tail}
use Rattle.tx_cell.specs.declared.pen.Pen.{Pen}

-- the text is a blank
abbrev pub is_blank_text : List ℕ → Bool
is_blank_text (byte ∷ []) = byte == 32
is_blank_text _ = false

-- the cell is a blank
abbrev pub is_blank : CellValue → Bool
is_blank cell = is_blank_text cell.text

-- where one column is all there is, U+FFFD stands for a wide cell
abbrev pub narrowed : ℕ → CellValue → CellValue
narrowed width cell = if (width == 1) && nat_lt 1 cell.width then replacement cell.pen else cell

-- the cells of a line's clusters, to be wrapped at a width
unfoldable pub line_heads : ℕ → Pen → List ℕ → List CellValue
line_heads width pen line = filter_map (λ cluster. option_map (narrowed width) (cell_of cluster pen)) (graphemes true line)

-- the columns of these cells
abbrev pub columns : List CellValue → ℕ
columns cells = sum_by (λ cell. cell.width) cells

-- how many of the first cells fit in so many columns, at most
abbrev pub fit_count : ℕ → List CellValue → ℕ
fit_count room [] = 0
fit_count room (cell ∷ cells) = if nat_le cell.width room then suc (fit_count (room - cell.width) cells) else 0

-- the index of the last blank after the first cell, or of the first one where it is a blank itself
abbrev pub later_blank : Bool → Option ℕ → Option ℕ
later_blank here (Some index) = Some (suc index)
later_blank true None = Some 0
later_blank false None = None

-- the greatest index at which a blank stands, if there is one
abbrev pub last_blank : List CellValue → Option ℕ
last_blank [] = None
last_blank (cell ∷ cells) = later_blank (is_blank cell) (last_blank cells)

-- the cells without the blanks at their end
abbrev pub trimmed : List CellValue → List CellValue
trimmed [] = []
trimmed (cell ∷ cells) = if is_blank cell && (length (trimmed cells) == 0) then [] else cell ∷ trimmed cells

-- the cells without the blanks at their start
abbrev pub skip_blanks : List CellValue → List CellValue
skip_blanks [] = []
skip_blanks (cell ∷ cells) = if is_blank cell then skip_blanks cells else cell ∷ cells

-- a line and the cells after it, where `count` cells fit and a blank stands at the index after this one
abbrev pub broken_at : Option ℕ → ℕ → List CellValue → List CellValue × List CellValue
broken_at None count cells = (take count cells, drop count cells)
broken_at (Some index) count cells = (trimmed (take (suc index) cells), skip_blanks (drop (suc index) cells))

-- The first line and the cells after it. Cells that fit are kept. Else the line ends before the last blank at an index from 1 to
-- the count of those that fit, and where there is none it has as many as fit.
abbrev pub next_line : ℕ → List CellValue → List CellValue × List CellValue
next_line width cells =
    if nat_le (columns cells) width then (cells, [])
    else broken_at (last_blank (take (fit_count width cells) (drop 1 cells))) (fit_count width cells) cells

-- the lines until nothing is left, but no more than `most`
abbrev pub lines_until : ℕ → ℕ → List CellValue → List (List CellValue)
lines_until zero width cells = []
lines_until (suc most) width [] = []
lines_until (suc most) width (cell ∷ cells) =
    let next = next_line width (cell ∷ cells) in next.0 ∷ lines_until most width next.1

-- the lines of a line's cells: one empty line where the width or the line is nothing
abbrev pub wrapped : ℕ → List CellValue → List (List CellValue)
wrapped width cells = if (width == 0) || (length cells == 0) then [] ∷ [] else lines_until (length cells) width cells

-- the cells with the tails of the wide ones
abbrev pub with_tails : List CellValue → List CellValue
with_tails cells = flat_map with_tail cells

-- a line wrapped at a width
unfoldable pub wrapped_line : ℕ → Pen → List ℕ → List (List CellValue)
wrapped_line width pen line = map with_tails (wrapped width (line_heads width pen line))

-- a text wrapped at a width, line by line
abbrev pub wrapped_text : ℕ → Pen → List ℕ → List (List CellValue)
wrapped_text width pen text = flat_map (wrapped_line width pen) (text_lines text)

-- the cells of a text, line by line
abbrev pub text_cells : Pen → List ℕ → List CellValue
text_cells pen text = flat_map (λ line. line_cells line pen) (text_lines text)

-- the lines one after the other, with blanks after each, are these cells
abbrev pub AreLinesOf : List CellValue → List (List CellValue) → Type 0
AreLinesOf cells [] = cells ≡ []
AreLinesOf cells (line ∷ lines) =
    (blanks : List CellValue) × ((rest : List CellValue)
    × (All (λ cell. is_blank cell ≡ true) blanks × (cells ≡ line ++ (blanks ++ rest)) × AreLinesOf rest lines))
