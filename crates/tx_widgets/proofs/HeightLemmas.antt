-- How many lines a text is wrapped to doesn't depend on the pen.
use Rattle.std.proofs.Common.{◌≡◌, ◌∙◌, ◌∷◌, ◌+◌, ◌-◌, ℕ, zero, suc, Bool, true, false, List, [], map, length, take, drop, length-append, if◌then◌else◌, refl, sym, ap, arith}
use Rattle.std.proofs.lemmas.List.{length-map}
use Rattle.std.proofs.lemmas.List.Sums.{sum_by-cons}
use Rattle.std.specs.List.{filter_map, flat_map, cons_option, take-map, drop-map}
use Rattle.std.specs.Option.{option_map}
use Rattle.std.specs.Prelude.{Option, Some, None, nat_le, nat_lt, ◌==◌, ◌&&◌, ◌||◌}
use Rattle.unicode_segmentation.specs.Grapheme.{graphemes}
use Rattle.tx_cell.specs.Cell.{CellValue, replacement, cell_of}
use Rattle.tx_cell.specs.Lines.{text_lines}
use Rattle.tx_cell.specs.Wrap.{is_blank, narrowed, line_heads, columns, fit_count, later_blank, last_blank, skip_blanks, broken_at, next_line, lines_until, wrapped, with_tails, wrapped_line, wrapped_text}
use Rattle.tx_cell.specs.declared.pen.Pen.{Pen}
use Rattle.tx_widgets.proofs.PenLemmas.{penned, cell_of-penned}

columns-penned : (pen : Pen) (cells : List CellValue) → columns (map (penned pen) cells) ≡ columns cells
columns-penned pen [] = refl
columns-penned pen (cell ∷ cells) =
    sum_by-cons (λ cell. cell.width) (penned pen cell) (map (penned pen) cells)
    ∙ (ap (λ more. cell.width + more) (columns-penned pen cells) ∙ sym (sum_by-cons (λ cell. cell.width) cell cells))

fit_count-penned : (pen : Pen) (room : ℕ) (cells : List CellValue) → fit_count room (map (penned pen) cells) ≡ fit_count room cells
fit_count-penned pen room [] = refl
fit_count-penned pen room (cell ∷ cells) = ap (λ more. if nat_le cell.width room then suc more else 0) (fit_count-penned pen (room - cell.width) cells)

last_blank-penned : (pen : Pen) (cells : List CellValue) → last_blank (map (penned pen) cells) ≡ last_blank cells
last_blank-penned pen [] = refl
last_blank-penned pen (cell ∷ cells) = ap (later_blank (is_blank cell)) (last_blank-penned pen cells)

skip_blanks-penned-by : (pen : Pen) (here : Bool) (cell : CellValue) (cells : List CellValue)
    → skip_blanks (map (penned pen) cells) ≡ map (penned pen) (skip_blanks cells)
    → (if here then skip_blanks (map (penned pen) cells) else penned pen cell ∷ map (penned pen) cells)
    ≡ map (penned pen) (if here then skip_blanks cells else cell ∷ cells)
skip_blanks-penned-by pen true cell cells rest = rest
skip_blanks-penned-by pen false cell cells rest = refl

skip_blanks-penned : (pen : Pen) (cells : List CellValue) → skip_blanks (map (penned pen) cells) ≡ map (penned pen) (skip_blanks cells)
skip_blanks-penned pen [] = refl
skip_blanks-penned pen (cell ∷ cells) = skip_blanks-penned-by pen (is_blank cell) cell cells (skip_blanks-penned pen cells)

broken_at-penned : (pen : Pen) (blank : Option ℕ) (count : ℕ) (cells : List CellValue)
    → (broken_at blank count (map (penned pen) cells)).1 ≡ map (penned pen) (broken_at blank count cells).1
broken_at-penned pen None count cells = drop-map (penned pen) count cells
broken_at-penned pen (Some index) count cells =
    ap skip_blanks (drop-map (penned pen) (suc index) cells) ∙ skip_blanks-penned pen (drop (suc index) cells)

-- where a line is broken
abbrev place_in : ℕ → List CellValue → Option ℕ
place_in width cells = last_blank (take (fit_count width cells) (drop 1 cells))

place_in-penned : (pen : Pen) (width : ℕ) (cells : List CellValue) → place_in width (map (penned pen) cells) ≡ place_in width cells
place_in-penned pen width cells =
    ap (λ count. last_blank (take count (drop 1 (map (penned pen) cells)))) (fit_count-penned pen width cells)
    ∙ (ap (λ behind. last_blank (take (fit_count width cells) behind)) (drop-map (penned pen) 1 cells)
    ∙ (ap last_blank (take-map (penned pen) (fit_count width cells) (drop 1 cells))
    ∙ last_blank-penned pen (take (fit_count width cells) (drop 1 cells))))

-- what is left behind a line
abbrev left_by : Bool → Option ℕ → ℕ → List CellValue → List CellValue
left_by fits blank count cells = (if fits then (cells, []) else broken_at blank count cells).1

left_by-penned : (pen : Pen) (fits : Bool) (blank : Option ℕ) (count : ℕ) (cells : List CellValue)
    → left_by fits blank count (map (penned pen) cells) ≡ map (penned pen) (left_by fits blank count cells)
left_by-penned pen true blank count cells = refl
left_by-penned pen false blank count cells = broken_at-penned pen blank count cells

next_line-penned : (pen : Pen) (width : ℕ) (cells : List CellValue) → (next_line width (map (penned pen) cells)).1 ≡ map (penned pen) (next_line width cells).1
next_line-penned pen width cells =
    ap (λ all. left_by (nat_le all width) (place_in width (map (penned pen) cells)) (fit_count width (map (penned pen) cells)) (map (penned pen) cells)) (columns-penned pen cells)
    ∙ (ap (λ blank. left_by (nat_le (columns cells) width) blank (fit_count width (map (penned pen) cells)) (map (penned pen) cells)) (place_in-penned pen width cells)
    ∙ (ap (λ count. left_by (nat_le (columns cells) width) (place_in width cells) count (map (penned pen) cells)) (fit_count-penned pen width cells)
    ∙ left_by-penned pen (nat_le (columns cells) width) (place_in width cells) (fit_count width cells) cells))

lines_until-penned : (pen : Pen) (most width : ℕ) (cells : List CellValue) → length (lines_until most width (map (penned pen) cells)) ≡ length (lines_until most width cells)
lines_until-penned pen zero width cells = refl
lines_until-penned pen (suc most) width [] = refl
lines_until-penned pen (suc most) width (cell ∷ cells) =
    ap suc (ap (λ left. length (lines_until most width left)) (next_line-penned pen width (cell ∷ cells))
    ∙ lines_until-penned pen most width (next_line width (cell ∷ cells)).1)

wrapped-penned-by : (pen : Pen) (none : Bool) (width : ℕ) (cells : List CellValue)
    → length (if none then [] ∷ [] else lines_until (length cells) width (map (penned pen) cells)) ≡ length (if none then [] ∷ [] else lines_until (length cells) width cells)
wrapped-penned-by pen true width cells = refl
wrapped-penned-by pen false width cells = lines_until-penned pen (length cells) width cells

wrapped-penned : (pen : Pen) (width : ℕ) (cells : List CellValue) → length (wrapped width (map (penned pen) cells)) ≡ length (wrapped width cells)
wrapped-penned pen width cells =
    ap (λ count. length (if (width == 0) || (count == 0) then [] ∷ [] else lines_until count width (map (penned pen) cells))) (length-map cells (penned pen))
    ∙ wrapped-penned-by pen ((width == 0) || (length cells == 0)) width cells

narrowed-penned-by : (is_cut : Bool) (pen : Pen) (cell : CellValue) → (if is_cut then replacement pen else penned pen cell) ≡ penned pen (if is_cut then replacement cell.pen else cell)
narrowed-penned-by true pen cell = refl
narrowed-penned-by false pen cell = refl

narrowed-penned : (width : ℕ) (pen : Pen) (made : Option CellValue) → option_map (narrowed width) (option_map (penned pen) made) ≡ option_map (penned pen) (option_map (narrowed width) made)
narrowed-penned width pen None = refl
narrowed-penned width pen (Some cell) = ap Some (narrowed-penned-by ((width == 1) && nat_lt 1 cell.width) pen cell)

cons_option-penned : (pen : Pen) (made : Option CellValue) (cells : List CellValue) → cons_option (option_map (penned pen) made) (map (penned pen) cells) ≡ map (penned pen) (cons_option made cells)
cons_option-penned pen None cells = refl
cons_option-penned pen (Some cell) cells = refl

-- the cells of clusters, narrowed
abbrev heads : ℕ → Pen → List (List ℕ) → List CellValue
heads width pen clusters = filter_map (λ cluster. option_map (narrowed width) (cell_of cluster pen)) clusters

heads-penned : (width : ℕ) (p q : Pen) (clusters : List (List ℕ)) → heads width q clusters ≡ map (penned q) (heads width p clusters)
heads-penned width p q [] = refl
heads-penned width p q (cluster ∷ clusters) =
    ap (λ made. cons_option made (heads width q clusters)) (ap (option_map (narrowed width)) (cell_of-penned cluster p q) ∙ narrowed-penned width q (cell_of cluster p))
    ∙ (ap (cons_option (option_map (penned q) (option_map (narrowed width) (cell_of cluster p)))) (heads-penned width p q clusters)
    ∙ cons_option-penned q (option_map (narrowed width) (cell_of cluster p)) (heads width p clusters))

line_heads-penned : (width : ℕ) (p q : Pen) (line : List ℕ) → line_heads width q line ≡ map (penned q) (line_heads width p line)
unfolding line_heads
line_heads-penned width p q line = heads-penned width p q (graphemes true line)

wrapped_line-same : (width : ℕ) (p q : Pen) (line : List ℕ) → length (wrapped_line width q line) ≡ length (wrapped_line width p line)
unfolding wrapped_line
wrapped_line-same width p q line =
    length-map (wrapped width (line_heads width q line)) with_tails
    ∙ (ap (λ cells. length (wrapped width cells)) (line_heads-penned width p q line)
    ∙ (wrapped-penned q width (line_heads width p line)
    ∙ sym (length-map (wrapped width (line_heads width p line)) with_tails)))

wrapped_lines-same : (width : ℕ) (p q : Pen) (lines : List (List ℕ)) → length (flat_map (wrapped_line width q) lines) ≡ length (flat_map (wrapped_line width p) lines)
wrapped_lines-same width p q [] = refl
wrapped_lines-same width p q (line ∷ lines) =
    let first = wrapped_line-same width p q line in
    let rest = wrapped_lines-same width p q lines in
    let here = length-append (wrapped_line width q line) (flat_map (wrapped_line width q) lines) in
    let there = length-append (wrapped_line width p line) (flat_map (wrapped_line width p) lines) in
    omega (arith, first, rest, here, there)

-- the count of a text's wrapped lines doesn't depend on the pen
pub wrapped_text-same : (width : ℕ) (p q : Pen) (text : List ℕ) → length (wrapped_text width q text) ≡ length (wrapped_text width p text)
wrapped_text-same width p q text = wrapped_lines-same width p q (text_lines text)
