-- A text of one line that has the columns that it wants is drawn whole.
use Rattle.std.proofs.Common.{◌≡◌, ◌+◌, ◌-◌, ◌<◌, ◌≤◌, ℕ, suc, zero, max, List, [], ◌∷◌, ◌++◌, length, map, length-append, Bool, true, false, refl, sym, ap, ◌∙◌, arith, append-nil}
use Rattle.std.proofs.lemmas.Bool.{eqb-true, le-leb, ne_eqb}
use Rattle.std.proofs.lemmas.List.{nil_from_length}
use Rattle.std.proofs.lemmas.List.Sums.{sum_by-cons}
use Rattle.std.specs.List.{cons_option, filter_map, flat_map}
use Rattle.std.specs.Option.{option_map, option_map_or}
use Rattle.std.specs.Prelude.{Option, Some, None, ◌==◌, nat_lt, slice_get}
use Rattle.unicode_segmentation.specs.Grapheme.{graphemes}
use Rattle.tx_cell.specs.Cell.{CellValue, cell_of}
use Rattle.tx_cell.specs.Lines.{text_lines}
use Rattle.tx_cell.specs.Strip.{cluster_columns, line_cells, with_tail}
use Rattle.tx_cell.specs.Wrap.{columns, line_heads, lines_until, narrowed, with_tails, wrapped, wrapped_line}
use Rattle.tx_cell.proofs.lemmas.MadeCells.{cell_of-IsMade}
use Rattle.tx_cell.specs.declared.pen.Pen.{Pen}
use Rattle.tx_geom.specs.declared.choices.AlignX.{AlignX}
use Rattle.tx_geom.specs.declared.choices.AlignX.TheVariants.{Left, Center, Right}
use Rattle.tx_geom.specs.declared.choices.AlignY.{AlignY}
use Rattle.tx_geom.specs.declared.choices.AlignY.TheVariants.{Top, Middle, Bottom}
use Rattle.tx_tree.specs.declared.kind.Kind.{Kind}
use Rattle.tx_tree.specs.declared.kind.Kind.TheVariants.{Static, Label, Button, Header, Footer}
use Rattle.tx_tree.specs.declared.kind.Private.{Private}
use Rattle.tx_widgets.specs.Columns.{blanks, window}
use Rattle.tx_widgets.specs.Drawing.{drawn_row, face_lines, lines_row, row_by}
use Rattle.tx_widgets.specs.Field.{cells_of_clusters}
use Rattle.tx_widgets.specs.Form.{state_of}
use Rattle.tx_widgets.specs.Laws.{LinesAreWhole, ShowsAll, draws_lines}
use Rattle.tx_widgets.specs.Measures.{full_width}
use Rattle.tx_widgets.specs.TextRows.{start_column, top_row, widest_of}
use Rattle.tx_widgets.specs.declared.drawing.face.Face.{Face}
use Rattle.tx_widgets.proofs.FieldLemmas.{cut_end-line, cut_front-line}
use Rattle.tx_widgets.proofs.PenLemmas.{length-with_tail_width}
use Rattle.tx_widgets.proofs.RowLemmas.{lines_row-some}
use Rattle.tx_widgets.proofs.WholeLemmas.{HasAll-parts, window-all}

kept-by : (one wide : Bool) (width : ℕ) (cell : CellValue) → (width == 1) ≡ one → nat_lt 1 cell.width ≡ wide → length (with_tail cell) ≤ width → narrowed width cell ≡ cell
kept-by true true width cell one wide fits =
    let same = eqb-true width 1 one in
    let two : 2 ≤ width = rw wide at fits in
    absurd (omega (arith, same, two))
kept-by true false width cell one slim fits = rw (one, slim) refl
kept-by false wide width cell other is fits = rw other refl

heads-made : (width : ℕ) (made : Option CellValue) (cells : List CellValue) → length (option_map_or with_tail made []) ≤ width
    → cons_option (option_map (narrowed width) made) cells ≡ cons_option made cells
heads-made width None cells fits = refl
heads-made width (Some cell) cells fits = ap (λ c. c ∷ cells) (kept-by (width == 1) (nat_lt 1 cell.width) width cell refl refl fits)

-- the cells of clusters, without tails
abbrev heads : Pen → List (List ℕ) → List CellValue
heads pen clusters = filter_map (λ cluster. cell_of cluster pen) clusters

heads-kept : (width : ℕ) (pen : Pen) (clusters : List (List ℕ)) → length (cells_of_clusters pen clusters) ≤ width
    → filter_map (λ cluster. option_map (narrowed width) (cell_of cluster pen)) clusters ≡ heads pen clusters
heads-kept width pen [] fits = refl
heads-kept width pen (cluster ∷ clusters) fits =
    let parts = length-append (cluster_columns pen cluster) (cells_of_clusters pen clusters) in
    let first : length (cluster_columns pen cluster) ≤ width = omega (arith, parts, fits) in
    let rest : length (cells_of_clusters pen clusters) ≤ width = omega (arith, parts, fits) in
    heads-made width (cell_of cluster pen) _ first ∙ ap (cons_option (cell_of cluster pen)) (heads-kept width pen clusters rest)

tails-made : (made : Option CellValue) (cells : List CellValue) → with_tails (cons_option made cells) ≡ option_map_or with_tail made [] ++ with_tails cells
tails-made None cells = refl
tails-made (Some cell) cells = refl

heads-tails : (pen : Pen) (clusters : List (List ℕ)) → with_tails (heads pen clusters) ≡ cells_of_clusters pen clusters
heads-tails pen [] = refl
heads-tails pen (cluster ∷ clusters) =
    tails-made (cell_of cluster pen) (heads pen clusters) ∙ ap (λ rest. cluster_columns pen cluster ++ rest) (heads-tails pen clusters)

columns-made : (pen : Pen) (cluster : List ℕ) (made : Option CellValue) (cells : List CellValue) → cell_of cluster pen ≡ made
    → columns (cons_option made cells) ≡ length (option_map_or with_tail made []) + columns cells
columns-made pen cluster None cells is = omega arith
columns-made pen cluster (Some cell) cells is =
    sum_by-cons (λ (c : CellValue). c.width) cell cells ∙ ap (λ n. n + columns cells) (sym (length-with_tail_width pen cell (cell_of-IsMade cluster pen cell is)))

heads-columns : (pen : Pen) (clusters : List (List ℕ)) → columns (heads pen clusters) ≡ length (cells_of_clusters pen clusters)
heads-columns pen [] = refl
heads-columns pen (cluster ∷ clusters) =
    columns-made pen cluster (cell_of cluster pen) (heads pen clusters) refl
    ∙ ap (λ n. length (cluster_columns pen cluster) + n) (heads-columns pen clusters)
    ∙ sym (length-append (cluster_columns pen cluster) (cells_of_clusters pen clusters))

lines_until-none : (n width : ℕ) → lines_until n width [] ≡ []
lines_until-none zero width = refl
lines_until-none (suc n) width = refl

wrapped-one : (width : ℕ) (cells : List CellValue) → (width == 0) ≡ false → columns cells ≤ width → map with_tails (wrapped width cells) ≡ with_tails cells ∷ []
wrapped-one width [] some fits = rw some refl
wrapped-one width (cell ∷ cells) some fits =
    let more : (suc (length cells) == 0) ≡ false = ne_eqb (suc (length cells)) 0 (λ none. let same : suc (length cells) ≡ 0 = none in absurd (omega (arith, same))) in
    rw (some, le-leb (columns (cell ∷ cells)) width fits, more) (ap (λ lines. with_tails (cell ∷ cells) ∷ map with_tails lines) (lines_until-none (length cells) width))

line-one : (width : ℕ) (pen : Pen) (line : List ℕ) → (width == 0) ≡ false → length (line_cells line pen) ≤ width → wrapped_line width pen line ≡ line_cells line pen ∷ []
unfolding wrapped_line line_heads line_cells
line-one width pen line some fits =
    let kept = heads-kept width pen (graphemes true line) fits in
    let few : columns (heads pen (graphemes true line)) ≤ width = omega (arith, heads-columns pen (graphemes true line), fits) in
    ap (λ cells. map with_tails (wrapped width cells)) kept
    ∙ wrapped-one width (heads pen (graphemes true line)) some few
    ∙ ap (λ cells. cells ∷ []) (heads-tails pen (graphemes true line))

row_by-lines : (kind : Kind) (private : Private) (face : Face) (y : ℕ) → draws_lines kind ≡ true → row_by kind private face y ≡ lines_row face (face_lines face) y
row_by-lines Static private face y is = refl
row_by-lines Label private face y is = refl
row_by-lines Button private face y is = refl
row_by-lines Header private face y is = refl
row_by-lines Footer private face y is = refl
row_by-lines _ private face y is = cc

full-lines : (kind : Kind) (text line : List ℕ) (pen : Pen) → draws_lines kind ≡ true → text_lines text ≡ line ∷ [] → full_width kind text pen ≡ max (length (line_cells line pen)) 0
full-lines Static text line pen is one = rw one refl
full-lines Label text line pen is one = rw one refl
full-lines Button text line pen is one = rw one refl
full-lines Header text line pen is one = rw one refl
full-lines Footer text line pen is one = rw one refl
full-lines _ text line pen is one = cc

top-inside : (align : AlignY) (height : ℕ) → 0 < height → top_row align height 1 < height
top-inside Top height some = omega arith
top-inside Middle height some = omega arith
top-inside Bottom height some = omega arith

start-none : (text content : AlignX) (width n : ℕ) → n ≡ width → start_column text content width n n ≡ 0
start-none Left Left width n same = omega (arith, same)
start-none Left Center width n same = omega (arith, same)
start-none Left Right width n same = omega (arith, same)
start-none Center content width n same = omega (arith, same)
start-none Right content width n same = omega (arith, same)

lines-drawn : (face : Face) (y : ℕ) → draws_lines face.kind ≡ true → drawn_row face y ≡ lines_row face (face_lines face) y
unfolding drawn_row
lines-drawn face y is = row_by-lines face.kind (state_of face.kind face.text.now face.private) face y is

-- where the content has columns
whole-some : (face : Face) (line : List ℕ) → draws_lines face.kind ≡ true → text_lines face.text.now ≡ line ∷ [] → 0 < face.content.height
    → face.content.width ≡ length (line_cells line face.pen) → 0 < face.content.width → ShowsAll face (line_cells line face.pen)
whole-some face line is one rows same some =
    let l = line_cells line face.pen in
    let not_none : (face.content.width == 0) ≡ false = ne_eqb face.content.width 0 (λ none. let zero_is : face.content.width ≡ 0 = none in absurd (omega (arith, zero_is, some))) in
    let fits : length l ≤ face.content.width = omega (arith, same) in
    let lines : face_lines face ≡ l ∷ [] =
    ap (flat_map (wrapped_line face.content.width face.pen)) one ∙ append-nil (wrapped_line face.content.width face.pen line) ∙ line-one face.content.width face.pen line not_none fits in
    let top = top_row face.align.1 face.content.height 1 in
    let same_row : 0 ≡ top - top = omega arith in
    let all_same : widest_of (l ∷ []) ≡ length l = omega arith in
    let start : 0 ≡ start_column face.text_align face.align.0 face.content.width (length l) (length l) =
    sym (start-none face.text_align face.align.0 face.content.width (length l) (sym same)) in
    let row = lines_row-some face (l ∷ []) top top 0 (length l) (length l) l refl (omega arith) (ap (λ n. slice_get (l ∷ []) n) same_row) start (sym all_same) refl in
    let all : face.content.width - 0 ≡ face.content.width = omega arith in
    record {
      row = top;
      inside = top-inside face.align.1 face.content.height rows;
      all = HasAll-parts [] l (blanks (face.content.width - length l) face.pen) (drawn_row face top)
          (lines-drawn face top is ∙ ap (λ ls. lines_row face ls top) lines ∙ sym row
          ∙ ap (λ n. window 0 n face.pen l) all
          ∙ window-all face.content.width face.pen l (cut_front-line line face.pen) (cut_end-line line face.pen) fits);
    }

whole-none : (face : Face) (cells : List CellValue) → 0 < face.content.height → cells ≡ [] → ShowsAll face cells
whole-none face cells rows none = record {
  row = 0;
  inside = rows;
  all = HasAll-parts [] cells (drawn_row face 0) (drawn_row face 0) (ap (λ c. c ++ drawn_row face 0) (sym none));
}

whole-by : (face : Face) (line : List ℕ) (n : ℕ) → face.content.width ≡ n → draws_lines face.kind ≡ true → text_lines face.text.now ≡ line ∷ [] → 0 < face.content.height
    → face.content.width ≡ length (line_cells line face.pen) → ShowsAll face (line_cells line face.pen)
whole-by face line zero width is one rows same = whole-none face (line_cells line face.pen) rows (nil_from_length (line_cells line face.pen) (sym same ∙ width))
whole-by face line (suc n) width is one rows same = whole-some face line is one rows same (omega (arith, width))

pub lines-whole : LinesAreWhole
lines-whole face line is one fits =
    let full = full-lines face.kind face.text.now line face.pen is one in
    let same : face.content.width ≡ length (line_cells line face.pen) = omega (arith, fits.width, full, fits.uncut) in
    whole-by face line face.content.width refl is one fits.some same
