-- The cells of clusters, and the cursor among them.
use Rattle.std.proofs.Common.{◌≡◌, ◌+◌, ◌-◌, ◌<◌, ◌≤◌, ℕ, suc, zero, min, List, [], ◌∷◌, ◌++◌, length, take, drop, length-append, length-drop, Bool, true, false, if◌then◌else◌, refl, sym, ap, ap₂, ◌∙◌, arith, append_assoc, append-nil}
use Rattle.std.proofs.lemmas.Grind.{flat_map-append}
use Rattle.std.proofs.lemmas.List.{take_at, drop_at, take_all, drop-append-le, take_rest}
use Rattle.std.specs.Option.{option_map_or}
use Rattle.std.specs.Prelude.{Option, Some, None, nat_lt}
use Rattle.unicode_segmentation.specs.Grapheme.{graphemes}
use Rattle.tx_cell.specs.Cell.{CellValue, blank, cell_of}
use Rattle.tx_cell.specs.Strip.{cluster_columns, cropped, cut_end, cut_front, line_cells, with_tail, without_head}
use Rattle.tx_cell.proofs.lemmas.MadeCells.{cell_of-IsMade}
use Rattle.tx_cell.specs.declared.pen.Pen.{Pen}
use Rattle.tx_widgets.specs.Columns.{blanks, reversed, window}
use Rattle.tx_widgets.specs.Field.{cells_from_cursor, cells_of_clusters, clusters_before, clusters_from, columns_at, cursor_column, field_cells, field_row}
use Rattle.tx_widgets.proofs.CutLemmas.{length-cropped, window-none}
use Rattle.tx_widgets.proofs.PenLemmas.{same_columns}

pub cut_end-append : (front : List CellValue) (cell : CellValue) (rest : List CellValue) → cut_end (front ++ cell ∷ rest) ≡ front ++ cut_end (cell ∷ rest)
cut_end-append [] cell rest = refl
cut_end-append (first ∷ []) cell rest = refl
cut_end-append (first ∷ second ∷ front) cell rest = ap (λ cells. first ∷ cells) (cut_end-append (second ∷ front) cell rest)

pub cut_end-both : (front back : List CellValue) → cut_end front ≡ front → cut_end back ≡ back → cut_end (front ++ back) ≡ front ++ back
cut_end-both front [] whole more = ap cut_end (append-nil front) ∙ whole ∙ sym (append-nil front)
cut_end-both front (cell ∷ rest) whole more = cut_end-append front cell rest ∙ ap (λ cells. front ++ cells) more

cut_end-with_tail : (cell : CellValue) (is_wide : Bool) → nat_lt 1 cell.width ≡ is_wide → cut_end (with_tail cell) ≡ with_tail cell
cut_end-with_tail cell true wide = rw wide refl
cut_end-with_tail cell false narrow = rw (narrow, narrow) refl

cut_front-with_tail : (cell : CellValue) (rest : List CellValue) (is_wide : Bool) → nat_lt 1 cell.width ≡ is_wide → cell.tail ≡ false
    → cut_front (with_tail cell ++ rest) ≡ with_tail cell ++ rest
cut_front-with_tail cell rest true wide head = rw (wide, head) refl
cut_front-with_tail cell rest false narrow head = rw (narrow, head) refl

pub front_of : (pen : Pen) (cluster : List ℕ) (made : Option CellValue) (rest : List CellValue) → cell_of cluster pen ≡ made → cut_front rest ≡ rest
    → cut_front (option_map_or with_tail made [] ++ rest) ≡ option_map_or with_tail made [] ++ rest
front_of pen cluster None rest is whole = whole
front_of pen cluster (Some cell) rest is whole = cut_front-with_tail cell rest (nat_lt 1 cell.width) refl (cell_of-IsMade cluster pen cell is).head

pub end_of : (made : Option CellValue) → cut_end (option_map_or with_tail made []) ≡ option_map_or with_tail made []
end_of None = refl
end_of (Some cell) = cut_end-with_tail cell (nat_lt 1 cell.width) refl

-- the cells of clusters don't begin with a tail, nor do they end without one that is owed
pub cut_front-clusters : (pen : Pen) (clusters : List (List ℕ)) → cut_front (cells_of_clusters pen clusters) ≡ cells_of_clusters pen clusters
cut_front-clusters pen [] = refl
cut_front-clusters pen (cluster ∷ clusters) = front_of pen cluster (cell_of cluster pen) (cells_of_clusters pen clusters) refl (cut_front-clusters pen clusters)

pub cut_end-clusters : (pen : Pen) (clusters : List (List ℕ)) → cut_end (cells_of_clusters pen clusters) ≡ cells_of_clusters pen clusters
cut_end-clusters pen [] = refl
cut_end-clusters pen (cluster ∷ clusters) =
    cut_end-both (cluster_columns pen cluster) (cells_of_clusters pen clusters) (end_of (cell_of cluster pen)) (cut_end-clusters pen clusters)

cut_front-cluster : (pen : Pen) (cluster : List ℕ) → cut_front (cluster_columns pen cluster) ≡ cluster_columns pen cluster
cut_front-cluster pen cluster =
    ap cut_front (sym (append-nil (cluster_columns pen cluster))) ∙ front_of pen cluster (cell_of cluster pen) [] refl refl ∙ append-nil (cluster_columns pen cluster)

pub cut_front-line : (line : List ℕ) (pen : Pen) → cut_front (line_cells line pen) ≡ line_cells line pen
unfolding line_cells
cut_front-line line pen = cut_front-clusters pen (graphemes true line)

pub cut_end-line : (line : List ℕ) (pen : Pen) → cut_end (line_cells line pen) ≡ line_cells line pen
unfolding line_cells
cut_end-line line pen = cut_end-clusters pen (graphemes true line)

-- how many there are doesn't depend on the pen
pub length-clusters : (p q : Pen) (clusters : List (List ℕ)) → length (cells_of_clusters p clusters) ≡ length (cells_of_clusters q clusters)
length-clusters p q [] = refl
length-clusters p q (cluster ∷ clusters) =
    length-append (cluster_columns p cluster) _ ∙ ap₂ ◌+◌ (same_columns cluster p q) (length-clusters p q clusters) ∙ sym (length-append (cluster_columns q cluster) _)

pub length-line : (line : List ℕ) (p q : Pen) → length (line_cells line p) ≡ length (line_cells line q)
unfolding line_cells
length-line line p q = length-clusters p q (graphemes true line)

-- the part in the middle
cropped-middle : (front middle back : List CellValue) → cut_front middle ≡ middle → cut_end middle ≡ middle
    → cropped (front ++ (middle ++ back)) (length front) (length front + length middle) ≡ middle
cropped-middle front middle back no_tail no_head =
    let size : length front + length middle - length front ≡ length middle = omega arith in
    ap (λ n. cut_end (cut_front (take n (drop (length front) (front ++ (middle ++ back)))))) size
    ∙ ap (λ cells. cut_end (cut_front (take (length middle) cells))) (drop_at front (middle ++ back) (length front) refl)
    ∙ ap (λ cells. cut_end (cut_front cells)) (take_at middle back (length middle) refl)
    ∙ ap cut_end no_tail
    ∙ no_head

split-by : (test : Bool) (cluster : List ℕ) (clusters before from : List (List ℕ)) → before ++ from ≡ clusters
    → (if test then [] else cluster ∷ before) ++ (if test then cluster ∷ clusters else from) ≡ cluster ∷ clusters
split-by true cluster clusters before from same = refl
split-by false cluster clusters before from same = ap (λ rest. cluster ∷ rest) same

-- the clusters before an offset and those from it on are all
clusters-split : (at : ℕ) (clusters : List (List ℕ)) → clusters_before at clusters ++ clusters_from at clusters ≡ clusters
clusters-split at [] = refl
clusters-split at (cluster ∷ clusters) =
    split-by (nat_lt at (length cluster)) cluster clusters (clusters_before (at - length cluster) clusters) (clusters_from (at - length cluster) clusters)
    (clusters-split (at - length cluster) clusters)

-- a line before an offset and from it on
pub line-split : (at : ℕ) (pen : Pen) (text : List ℕ)
    → line_cells text pen ≡ cells_of_clusters pen (clusters_before at (graphemes true text)) ++ cells_of_clusters pen (clusters_from at (graphemes true text))
unfolding line_cells
line-split at pen text =
    ap (cells_of_clusters pen) (sym (clusters-split at (graphemes true text)))
    ∙ flat_map-append (cluster_columns pen) (clusters_before at (graphemes true text)) (clusters_from at (graphemes true text))

-- the cursor's column is within the line
pub column-inside : (at : ℕ) (pen : Pen) (text : List ℕ) → cursor_column at pen text ≤ length (line_cells text pen)
unfolding cursor_column
column-inside at pen text =
    let all = ap length (line-split at pen text) in
    let parts = length-append (cells_of_clusters pen (clusters_before at (graphemes true text))) (cells_of_clusters pen (clusters_from at (graphemes true text))) in
    omega (arith, all, parts)

columns-of : (pen : Pen) (clusters : List (List ℕ)) (n : ℕ) → columns_at pen clusters ≡ Some n → n ≤ length (cells_of_clusters pen clusters)
columns-of pen [] n is = cc
columns-of pen (cluster ∷ clusters) n is =
    let same : length (cluster_columns pen cluster) ≡ n = cc in
    let parts = length-append (cluster_columns pen cluster) (cells_of_clusters pen clusters) in
    omega (arith, same, parts)

-- so is the cluster at the cursor
pub columns-inside : (at : ℕ) (pen : Pen) (text : List ℕ) (n : ℕ) → columns_at pen (clusters_from at (graphemes true text)) ≡ Some n
    → cursor_column at pen text + n ≤ length (line_cells text pen)
unfolding cursor_column
columns-inside at pen text n is =
    let all = ap length (line-split at pen text) in
    let parts = length-append (cells_of_clusters pen (clusters_before at (graphemes true text))) (cells_of_clusters pen (clusters_from at (graphemes true text))) in
    let here = columns-of pen (clusters_from at (graphemes true text)) n is in
    omega (arith, all, parts, here)

-- what a line has before the marked cluster, the marked cluster, and what it has behind it
marked-parts : (pen mark : Pen) (before rest : List (List ℕ)) (cluster : List ℕ) (plain marked : List CellValue) (column n : ℕ)
    → plain ≡ cells_of_clusters pen before ++ (cluster_columns pen cluster ++ cells_of_clusters pen rest)
    → marked ≡ cells_of_clusters mark before ++ (cluster_columns mark cluster ++ cells_of_clusters mark rest)
    → column ≡ length (cells_of_clusters pen before) → n ≡ length (cluster_columns pen cluster)
    → cropped plain 0 column ++ (cropped marked column (column + n) ++ cropped plain (column + n) (length plain))
    ≡ cells_of_clusters pen before ++ (cluster_columns mark cluster ++ cells_of_clusters pen rest)
marked-parts pen mark before rest cluster plain marked column n plain_is marked_is column_is n_is =
    ap₂ ◌++◌ first (ap₂ ◌++◌ second third)
  where
    b : List CellValue
    b = cells_of_clusters pen before

    a : List CellValue
    a = cluster_columns pen cluster

    r : List CellValue
    r = cells_of_clusters pen rest

    first : cropped plain 0 column ≡ cells_of_clusters pen before
    first =
        let to : column ≡ 0 + length (cells_of_clusters pen before) = omega (arith, column_is) in
        ap₂ (λ cells m. cropped cells 0 m) plain_is to
        ∙ cropped-middle [] (cells_of_clusters pen before) (cluster_columns pen cluster ++ cells_of_clusters pen rest) (cut_front-clusters pen before) (cut_end-clusters pen before)

    second : cropped marked column (column + n) ≡ cluster_columns mark cluster
    second =
        let from = column_is ∙ length-clusters pen mark before in
        let more = n_is ∙ same_columns cluster pen mark in
        let to : column + n ≡ length (cells_of_clusters mark before) + length (cluster_columns mark cluster) = omega (arith, from, more) in
        ap (λ cells. cropped cells column (column + n)) marked_is
        ∙ ap₂ (λ l m. cropped (cells_of_clusters mark before ++ (cluster_columns mark cluster ++ cells_of_clusters mark rest)) l m) from to
        ∙ cropped-middle (cells_of_clusters mark before) (cluster_columns mark cluster) (cells_of_clusters mark rest) (cut_front-cluster mark cluster) (end_of (cell_of cluster mark))

    third : cropped plain (column + n) (length plain) ≡ cells_of_clusters pen rest
    third =
        let front = cells_of_clusters pen before ++ cluster_columns pen cluster in
        let cells = plain_is ∙ sym (append_assoc (cells_of_clusters pen before) (cluster_columns pen cluster) (cells_of_clusters pen rest))
        ∙ ap (λ back. front ++ back) (sym (append-nil (cells_of_clusters pen rest))) in
        let long = length-append (cells_of_clusters pen before) (cluster_columns pen cluster) in
        let from : column + n ≡ length front = omega (arith, long, column_is, n_is) in
        let sum = ap length cells ∙ length-append front (cells_of_clusters pen rest ++ []) ∙ ap (λ back. length front + length back) (append-nil (cells_of_clusters pen rest)) in
        ap (λ all. cropped all (column + n) (length plain)) cells
        ∙ ap₂ (λ l m. cropped (front ++ (cells_of_clusters pen rest ++ [])) l m) from sum
        ∙ cropped-middle front (cells_of_clusters pen rest) [] (cut_front-clusters pen rest) (cut_end-clusters pen rest)

marked-by : (at : ℕ) (pen : Pen) (text : List ℕ) (n : ℕ) (from : List (List ℕ)) → clusters_from at (graphemes true text) ≡ from → columns_at pen from ≡ Some n
    → cropped (line_cells text pen) 0 (cursor_column at pen text)
    ++ (cropped (line_cells text (reversed pen)) (cursor_column at pen text) (cursor_column at pen text + n) ++ cropped (line_cells text pen) (cursor_column at pen text + n) (length (line_cells text pen)))
    ≡ cells_of_clusters pen (clusters_before at (graphemes true text)) ++ cells_from_cursor (reversed pen) pen from
unfolding cursor_column
marked-by at pen text n [] is here = cc
marked-by at pen text n (cluster ∷ rest) is here =
    let columns : n ≡ length (cluster_columns pen cluster) = cc in
    marked-parts pen (reversed pen) (clusters_before at (graphemes true text)) rest cluster (line_cells text pen) (line_cells text (reversed pen)) _ n
    (line-split at pen text ∙ ap (λ clusters. cells_of_clusters pen (clusters_before at (graphemes true text)) ++ cells_of_clusters pen clusters) is)
    (line-split at (reversed pen) text ∙ ap (λ clusters. cells_of_clusters (reversed pen) (clusters_before at (graphemes true text)) ++ cells_of_clusters (reversed pen) clusters) is)
    refl columns

-- the cells where the cursor is on a cluster
pub marked-cells : (at : ℕ) (pen : Pen) (text : List ℕ) (n : ℕ) → columns_at pen (clusters_from at (graphemes true text)) ≡ Some n
    → cropped (line_cells text pen) 0 (cursor_column at pen text)
    ++ (cropped (line_cells text (reversed pen)) (cursor_column at pen text) (cursor_column at pen text + n) ++ cropped (line_cells text pen) (cursor_column at pen text + n) (length (line_cells text pen)))
    ≡ field_cells true at pen text
unfolding field_cells
marked-cells at pen text n here = marked-by at pen text n (clusters_from at (graphemes true text)) refl here

pub cells-unfocused : (at : ℕ) (pen : Pen) (text : List ℕ) → line_cells text pen ≡ field_cells false at pen text
unfolding field_cells
cells-unfocused at pen text = refl

none-from : (pen : Pen) (clusters : List (List ℕ)) → columns_at pen clusters ≡ None → clusters ≡ []
none-from pen [] none = refl
none-from pen (cluster ∷ clusters) none = cc

-- the cursor behind the text
pub column-end : (at : ℕ) (pen : Pen) (text : List ℕ) → columns_at pen (clusters_from at (graphemes true text)) ≡ None
    → cursor_column at pen text ≡ length (line_cells text pen)
unfolding cursor_column
column-end at pen text none =
    let no_more = none-from pen (clusters_from at (graphemes true text)) none in
    sym (ap length (line-split at pen text
    ∙ ap (λ clusters. cells_of_clusters pen (clusters_before at (graphemes true text)) ++ cells_of_clusters pen clusters) no_more
    ∙ append-nil (cells_of_clusters pen (clusters_before at (graphemes true text)))))

cells-end : (at : ℕ) (pen : Pen) (text : List ℕ) → columns_at pen (clusters_from at (graphemes true text)) ≡ None
    → field_cells true at pen text ≡ line_cells text pen ++ blank (reversed pen) ∷ []
unfolding field_cells
cells-end at pen text none =
    let no_more = none-from pen (clusters_from at (graphemes true text)) none in
    let before = cells_of_clusters pen (clusters_before at (graphemes true text)) in
    let all = line-split at pen text ∙ ap (λ clusters. before ++ cells_of_clusters pen clusters) no_more ∙ append-nil before in
    ap (λ clusters. before ++ cells_from_cursor (reversed pen) pen clusters) no_more ∙ ap (λ cells. cells ++ blank (reversed pen) ∷ []) (sym all)

end-tail : (first second : CellValue) (cells : List CellValue) → cut_end (first ∷ second ∷ cells) ≡ first ∷ second ∷ cells → cut_end (second ∷ cells) ≡ second ∷ cells
end-tail first second cells whole = ap (drop 1) whole

end-drop : (n : ℕ) (cells : List CellValue) → cut_end cells ≡ cells → cut_end (drop n cells) ≡ drop n cells
end-drop zero cells whole = whole
end-drop (suc n) [] whole = refl
end-drop (suc zero) (cell ∷ []) whole = refl
end-drop (suc (suc n)) (cell ∷ []) whole = refl
end-drop (suc n) (first ∷ second ∷ cells) whole = end-drop n (second ∷ cells) (end-tail first second cells whole)

end-head-by : (cell : CellValue) (tail : Bool) → cut_end (cell ∷ []) ≡ cell ∷ []
    → cut_end ((if tail then blank cell.pen else cell) ∷ []) ≡ (if tail then blank cell.pen else cell) ∷ []
end-head-by cell true whole = refl
end-head-by cell false whole = whole

end-front : (cells : List CellValue) → cut_end cells ≡ cells → cut_end (cut_front cells) ≡ cut_front cells
end-front [] whole = refl
end-front (cell ∷ []) whole = end-head-by cell cell.tail whole
end-front (first ∷ second ∷ cells) whole = ap (λ rest. without_head first ∷ rest) (end-tail first second cells whole)

front-push : (cells : List CellValue) (pen : Pen) → cut_front (cells ++ blank pen ∷ []) ≡ cut_front cells ++ blank pen ∷ []
front-push [] pen = refl
front-push (cell ∷ cells) pen = refl

-- a part up to a blank at the end
part-push : (cells : List CellValue) (pen : Pen) (first : ℕ) → cut_end cells ≡ cells → first ≤ length cells
    → cropped (cells ++ blank pen ∷ []) first (length cells + 1) ≡ cropped cells first (length cells) ++ blank pen ∷ []
part-push cells pen first whole inside =
    let x = drop first cells in
    let longer : length (x ++ blank pen ∷ []) ≤ length cells + 1 - first = omega (arith, length-append x (blank pen ∷ []), length-drop first cells) in
    ap (λ rest. cut_end (cut_front (take (length cells + 1 - first) rest))) (drop-append-le first cells (blank pen ∷ []) inside)
    ∙ ap (λ rest. cut_end (cut_front rest)) (take_all (length cells + 1 - first) (x ++ blank pen ∷ []) longer)
    ∙ ap cut_end (front-push x pen)
    ∙ cut_end-append (cut_front x) (blank pen) []
    ∙ ap (λ rest. rest ++ blank pen ∷ []) (sym (ap (λ rest. cut_end (cut_front rest)) (take_rest cells first) ∙ end-front x (end-drop first cells whole)))

-- the row where the cursor is behind the text
pub end-window : (cells : List CellValue) (pen : Pen) (first width : ℕ) → cut_end cells ≡ cells → 0 < width → first ≡ length cells + 1 - width
    → cropped cells first (length cells) ++ (blanks 1 (reversed pen) ++ blanks (width - 1 - (length cells - first)) pen)
    ≡ window first width pen (cells ++ blank (reversed pen) ∷ [])
unfolding window
end-window cells pen first width whole some first_is =
    let long = length-append cells (blank (reversed pen) ∷ []) in
    let to : length cells + 1 ≡ min (first + width) (length (cells ++ blank (reversed pen) ∷ [])) = omega (arith, long, first_is, some) in
    let rest : width - 1 - (length cells - first) ≡ width - (length (cells ++ blank (reversed pen) ∷ []) - first) = omega (arith, long, first_is, some) in
    let inside : first ≤ length cells = omega (arith, first_is, some) in
    sym (append_assoc (cropped cells first (length cells)) (blanks 1 (reversed pen)) (blanks (width - 1 - (length cells - first)) pen))
    ∙ ap (λ part. part ++ blanks (width - 1 - (length cells - first)) pen) (sym (part-push cells (reversed pen) first whole inside))
    ∙ ap₂ (λ m n. cropped (cells ++ blank (reversed pen) ∷ []) first m ++ blanks n pen) to rest

-- the same of an Input's text
pub end-row : (at : ℕ) (pen : Pen) (text : List ℕ) (first width : ℕ) → columns_at pen (clusters_from at (graphemes true text)) ≡ None → 0 < width
    → first ≡ cursor_column at pen text + 1 - width
    → cropped (line_cells text pen) first (length (line_cells text pen)) ++ (blanks 1 (reversed pen) ++ blanks (width - 1 - (length (line_cells text pen) - first)) pen)
    ≡ window (cursor_column at pen text + 1 - width) width pen (field_cells true at pen text)
end-row at pen text first width none some first_is =
    let column = column-end at pen text none in
    let begins : first ≡ length (line_cells text pen) + 1 - width = omega (arith, first_is, column) in
    end-window (line_cells text pen) pen first width (cut_end-line text pen) some begins
    ∙ ap₂ (λ n cells. window n width pen cells) first_is (sym (cells-end at pen text none))

-- The facts of the code that draws an Input, one by one.
pub field-none : (focused : Bool) (at width : ℕ) (pen : Pen) (text : List ℕ) → width ≡ 0 → [] ≡ field_row focused at width pen text
field-none focused at width pen text none =
    sym (ap (λ w. window (cursor_column at pen text + 1 - w) w pen (field_cells focused at pen text)) none
    ∙ window-none (cursor_column at pen text + 1 - 0) pen (field_cells focused at pen text))

pub plain-few : (bound : ℕ) (plain : List CellValue) (text : List ℕ) (pen : Pen) → plain ≡ line_cells text pen → length plain < bound
    → length (cells_of_clusters pen (graphemes true text)) < bound
unfolding line_cells
plain-few bound plain text pen is few = let same : length plain ≡ length (cells_of_clusters pen (graphemes true text)) = ap length is in omega (arith, same, few)

pub field-first-inside : (at : ℕ) (pen : Pen) (text : List ℕ) (plain : List CellValue) (column first width : ℕ) → plain ≡ line_cells text pen
    → column ≡ cursor_column at pen text → first ≡ column + 1 - width → 0 < width → first ≤ length plain
field-first-inside at pen text plain column first width plain_is column_is first_is some =
    omega (arith, ap length plain_is, column_is, first_is, column-inside at pen text, some)

pub field-plain : (focused : Bool) (at : ℕ) (pen : Pen) (text : List ℕ) (plain : List CellValue) (column first width : ℕ) → focused ≡ false → plain ≡ line_cells text pen
    → column ≡ cursor_column at pen text → first ≡ column + 1 - width → window first width pen plain ≡ field_row focused at width pen text
field-plain focused at pen text plain column first width unfocused plain_is column_is first_is =
    ap₂ (λ n cells. window n width pen cells) (first_is ∙ ap (λ k. k + 1 - width) column_is) (plain_is ∙ cells-unfocused at pen text)
    ∙ ap (λ f. field_row f at width pen text) (sym unfocused)

pub field-room : (at : ℕ) (pen : Pen) (text : List ℕ) (plain : List CellValue) (column first width : ℕ) → plain ≡ line_cells text pen
    → columns_at pen (clusters_from at (graphemes true text)) ≡ None → column ≡ cursor_column at pen text → first ≡ column + 1 - width → 0 < width
    → length plain - first < width
field-room at pen text plain column first width plain_is none column_is first_is some =
    omega (arith, ap length plain_is, column_is, first_is, column-end at pen text none, some)

pub field-end : (focused : Bool) (at : ℕ) (pen : Pen) (text : List ℕ) (plain : List CellValue) (column first width : ℕ) → focused ≡ true → plain ≡ line_cells text pen
    → columns_at pen (clusters_from at (graphemes true text)) ≡ None → column ≡ cursor_column at pen text → first ≡ column + 1 - width → 0 < width
    → cropped plain first (length plain) ++ (blanks 1 (reversed pen) ++ blanks (width - 1 - (length plain - first)) pen) ≡ field_row focused at width pen text
field-end focused at pen text plain column first width is_focused plain_is none column_is first_is some =
    ap (λ cells. cropped cells first (length cells) ++ (blanks 1 (reversed pen) ++ blanks (width - 1 - (length cells - first)) pen)) plain_is
    ∙ end-row at pen text first width none some (first_is ∙ ap (λ k. k + 1 - width) column_is)
    ∙ ap (λ f. field_row f at width pen text) (sym is_focused)

pub field-mark-inside : (at : ℕ) (pen : Pen) (text : List ℕ) (plain : List CellValue) (column n : ℕ) → plain ≡ line_cells text pen
    → columns_at pen (clusters_from at (graphemes true text)) ≡ Some n → column ≡ cursor_column at pen text → column + n ≤ length plain
field-mark-inside at pen text plain column n plain_is here column_is = omega (arith, ap length plain_is, column_is, columns-inside at pen text n here)

pub field-mark-same : (text : List ℕ) (pen mark : Pen) (plain marked : List CellValue) → plain ≡ line_cells text pen → marked ≡ line_cells text mark
    → length marked ≡ length plain
field-mark-same text pen mark plain marked plain_is marked_is = ap length marked_is ∙ length-line text mark pen ∙ sym (ap length plain_is)

pub field-mark-length : (plain marked cells : List CellValue) (column n : ℕ) → column + n ≤ length plain → length marked ≡ length plain
    → cells ≡ cropped plain 0 column ++ (cropped marked column (column + n) ++ cropped plain (column + n) (length plain)) → length cells ≡ length plain
field-mark-length plain marked cells column n inside same is =
    let parts = ap length is ∙ length-append (cropped plain 0 column) _ in
    let more = length-append (cropped marked column (column + n)) (cropped plain (column + n) (length plain)) in
    let a = length-cropped plain 0 column in
    let b = length-cropped marked column (column + n) in
    let d = length-cropped plain (column + n) (length plain) in
    omega (arith, parts, more, a, b, d, inside, same)

pub field-marked : (focused : Bool) (at : ℕ) (pen mark : Pen) (text : List ℕ) (plain marked cells : List CellValue) (column n first width : ℕ) → focused ≡ true
    → plain ≡ line_cells text pen → marked ≡ line_cells text mark → mark ≡ reversed pen → columns_at pen (clusters_from at (graphemes true text)) ≡ Some n
    → column ≡ cursor_column at pen text → first ≡ column + 1 - width
    → cells ≡ cropped plain 0 column ++ (cropped marked column (column + n) ++ cropped plain (column + n) (length plain))
    → window first width pen cells ≡ field_row focused at width pen text
field-marked focused at pen mark text plain marked cells column n first width is_focused plain_is marked_is mark_is here column_is first_is cells_is =
    let red = marked_is ∙ ap (λ p. line_cells text p) mark_is in
    let all = cells_is
    ∙ ap (λ p. cropped p 0 column ++ (cropped marked column (column + n) ++ cropped p (column + n) (length p))) plain_is
    ∙ ap (λ m. cropped (line_cells text pen) 0 column ++ (cropped m column (column + n) ++ cropped (line_cells text pen) (column + n) (length (line_cells text pen)))) red
    ∙ ap (λ k. cropped (line_cells text pen) 0 k ++ (cropped (line_cells text (reversed pen)) k (k + n) ++ cropped (line_cells text pen) (k + n) (length (line_cells text pen)))) column_is
    ∙ marked-cells at pen text n here in
    ap₂ (λ k c. window k width pen c) (first_is ∙ ap (λ k. k + 1 - width) column_is) all
    ∙ ap (λ f. field_row f at width pen text) (sym is_focused)
