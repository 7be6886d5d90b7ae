-- A text that has the columns that it wants is drawn whole.
use Rattle.std.proofs.Common.{◌≡◌, ◌+◌, ◌-◌, ◌≤◌, ℕ, List, [], ◌∷◌, ◌++◌, length, length-append, Bool, true, false, ◌||◌, if◌then◌else◌, refl, sym, ap, subst, ◌∙◌, arith, append_assoc, append-nil}
use Rattle.std.proofs.lemmas.List.{length-map, map-append, take_all}
use Rattle.std.specs.Option.{option_map_or}
use Rattle.std.specs.Prelude.{Some, None, ◌==◌, nat_lt}
use Rattle.std.specs.Str.{chars}
use Rattle.unicode_segmentation.specs.Grapheme.{graphemes}
use Rattle.unicode_width.specs.Width.{str_width}
use Rattle.tx_cell.specs.Cell.{CellValue, blank, cell_of, cell_of_clusters, cluster_cell, is_tab, is_unfit, most_bytes, replacement, shown}
use Rattle.tx_cell.specs.Lines.{text_lines}
use Rattle.tx_cell.specs.Strip.{cluster_columns, cut_end, cut_front, line_cells, with_tail}
use Rattle.tx_cell.specs.declared.pen.Pen.{Pen}
use Rattle.tx_tree.specs.declared.kind.Kind.{Kind}
use Rattle.tx_tree.specs.declared.kind.Kind.TheVariants.{Checkbox, Input}
use Rattle.tx_widgets.specs.Columns.{blanks, reversed, window}
use Rattle.tx_widgets.specs.Drawing.{ascii_cells, box_is_on, box_row, box_text, cursor_of, drawn_row, first_of, row_by}
use Rattle.tx_widgets.specs.Field.{cells_from_cursor, cells_of_clusters, clusters_before, clusters_from, cursor_column, field_cells, field_row}
use Rattle.tx_widgets.specs.Form.{state_of}
use Rattle.tx_widgets.specs.Laws.{BoxesAreWhole, FieldsAreWhole, HasAll, texts}
use Rattle.tx_widgets.specs.Measures.{box_width, field_width, full_width}
use Rattle.tx_widgets.specs.declared.drawing.face.Face.{Face}
use Rattle.tx_widgets.proofs.CutLemmas.{front-ascii, window-first}
use Rattle.tx_widgets.proofs.FieldLemmas.{column-inside, cut_end-both, cut_end-clusters, cut_end-line, cut_front-clusters, cut_front-line, end_of, front_of, line-split}
use Rattle.tx_widgets.proofs.PenLemmas.{same_columns}
use Rattle.tx_widgets.proofs.RowLemmas.{length-box_text}

-- a window that is wide enough
pub window-all : (width : ℕ) (pen : Pen) (cells : List CellValue) → cut_front cells ≡ cells → cut_end cells ≡ cells → length cells ≤ width
    → window 0 width pen cells ≡ cells ++ blanks (width - length cells) pen
window-all width pen cells no_tail no_head fits =
    window-first width pen cells
    ∙ ap (λ part. cut_end (cut_front part) ++ blanks (width - length cells) pen) (take_all width cells fits)
    ∙ ap (λ part. cut_end part ++ blanks (width - length cells) pen) no_tail
    ∙ ap (λ part. part ++ blanks (width - length cells) pen) no_head

pub HasAll-parts : (before cells behind row : List CellValue) → row ≡ before ++ (cells ++ behind) → HasAll cells row
HasAll-parts before cells behind row is = record {
  before = texts before;
  behind = texts behind;
  whole = ap texts is ∙ map-append (λ (c : CellValue). c.text) before (cells ++ behind) ∙ ap (λ rest. texts before ++ rest) (map-append (λ (c : CellValue). c.text) cells behind);
}

first-drawn : (face : Face) (kind : Kind) → face.kind ≡ kind → drawn_row face 0 ≡ row_by kind (state_of face.kind face.text.now face.private) face 0
unfolding drawn_row
first-drawn face kind is = ap (λ k. row_by k (state_of face.kind face.text.now face.private) face 0) is

end-box : (on : Bool) (pen : Pen) → cut_end (ascii_cells pen (box_text on)) ≡ ascii_cells pen (box_text on)
end-box true pen = refl
end-box false pen = refl

box-whole : (on : Bool) (width : ℕ) (pen : Pen) (text : List ℕ) → box_width text pen ≤ width
    → box_row on width pen text ≡ ascii_cells pen (box_text on) ++ (line_cells (first_of (text_lines text)) pen ++ blanks (width - length (ascii_cells pen (box_text on) ++ line_cells (first_of (text_lines text)) pen)) pen)
unfolding box_row
box-whole on width pen text fits =
    let a = ascii_cells pen (box_text on) in
    let l = line_cells (first_of (text_lines text)) pen in
    let long = length-append a l in
    let four = length-map (box_text on) (λ (byte : ℕ). shown (byte ∷ []) 1 pen) ∙ length-box_text on in
    let inside : length (a ++ l) ≤ width = omega (arith, long, four, fits) in
    window-all width pen (a ++ l) (front-ascii pen (box_text on) l (cut_front-line (first_of (text_lines text)) pen))
    (cut_end-both a l (end-box on pen) (cut_end-line (first_of (text_lines text)) pen)) inside
    ∙ append_assoc a l _

pub boxes-whole : BoxesAreWhole
boxes-whole face is fits =
    let full = ap (λ k. full_width k face.text.now face.pen) is in
    let enough : box_width face.text.now face.pen ≤ face.content.width = omega (arith, fits.width, full, fits.uncut) in
    record {
      row = 0;
      inside = fits.some;
      all = HasAll-parts _ (line_cells (first_of (text_lines face.text.now)) face.pen) _ (drawn_row face 0)
          (first-drawn face Checkbox is ∙ box-whole (box_is_on (state_of face.kind face.text.now face.private)) face.content.width face.pen face.text.now enough);
    }

-- the texts of a cluster's cells don't depend on the pen
texts-shown : (cluster : List ℕ) (width : ℕ) (p q : Pen) (is_wide : Bool) → nat_lt 1 width ≡ is_wide
    → texts (with_tail (shown cluster width p)) ≡ texts (with_tail (shown cluster width q))
texts-shown cluster width p q true wide = rw wide refl
texts-shown cluster width p q false narrow = rw narrow refl

texts-choice : (tab unfit none replaced : Bool) (cluster : List ℕ) (width : ℕ) (p q : Pen)
    → texts (option_map_or with_tail (if tab then Some (blank p) else if unfit then Some (replacement p) else if none then None else if replaced then Some (replacement p) else Some (shown cluster width p)) [])
    ≡ texts (option_map_or with_tail (if tab then Some (blank q) else if unfit then Some (replacement q) else if none then None else if replaced then Some (replacement q) else Some (shown cluster width q)) [])
texts-choice true unfit none replaced cluster width p q = refl
texts-choice false true none replaced cluster width p q = refl
texts-choice false false true replaced cluster width p q = refl
texts-choice false false false true cluster width p q = refl
texts-choice false false false false cluster width p q = texts-shown cluster width p q (nat_lt 1 width) refl

texts-clusters : (clusters : List (List ℕ)) (p q : Pen) → texts (option_map_or with_tail (cell_of_clusters clusters p) []) ≡ texts (option_map_or with_tail (cell_of_clusters clusters q) [])
unfolding cluster_cell
texts-clusters [] p q = refl
texts-clusters (cluster ∷ []) p q =
    let width = str_width false (chars cluster) in
    texts-choice (is_tab cluster) (is_unfit (chars cluster)) (width == 0) (nat_lt 2 width || nat_lt most_bytes (length cluster)) cluster width p q
texts-clusters (first ∷ second ∷ more) p q = refl

texts-cluster : (cluster : List ℕ) (p q : Pen) → texts (cluster_columns p cluster) ≡ texts (cluster_columns q cluster)
unfolding cell_of
texts-cluster cluster p q = texts-clusters (graphemes true cluster) p q

-- what the cursor adds to a text: a blank at the end
added : List (List ℕ) → List (List ℕ)
added [] = (32 ∷ []) ∷ []
added (cluster ∷ clusters) = []

texts-cursor : (mark pen : Pen) (clusters : List (List ℕ)) → texts (cells_from_cursor mark pen clusters) ≡ texts (cells_of_clusters pen clusters) ++ added clusters
unfolding added
texts-cursor mark pen [] = refl
texts-cursor mark pen (cluster ∷ clusters) =
    map-append (λ (c : CellValue). c.text) (cluster_columns mark cluster) (cells_of_clusters pen clusters)
    ∙ ap (λ front. front ++ texts (cells_of_clusters pen clusters)) (texts-cluster cluster mark pen)
    ∙ sym (map-append (λ (c : CellValue). c.text) (cluster_columns pen cluster) (cells_of_clusters pen clusters))
    ∙ sym (append-nil (texts (cells_of_clusters pen (cluster ∷ clusters))))

length-cursor : (mark pen : Pen) (clusters : List (List ℕ)) → length (cells_from_cursor mark pen clusters) ≤ length (cells_of_clusters pen clusters) + 1
length-cursor mark pen [] = omega arith
length-cursor mark pen (cluster ∷ clusters) =
    let a = length-append (cluster_columns mark cluster) (cells_of_clusters pen clusters) in
    let b = length-append (cluster_columns pen cluster) (cells_of_clusters pen clusters) in
    omega (arith, a, b, same_columns cluster mark pen)

front-cursor : (mark pen : Pen) (clusters : List (List ℕ)) → cut_front (cells_from_cursor mark pen clusters) ≡ cells_from_cursor mark pen clusters
front-cursor mark pen [] = refl
front-cursor mark pen (cluster ∷ clusters) = front_of mark cluster (cell_of cluster mark) (cells_of_clusters pen clusters) refl (cut_front-clusters pen clusters)

end-cursor : (mark pen : Pen) (clusters : List (List ℕ)) → cut_end (cells_from_cursor mark pen clusters) ≡ cells_from_cursor mark pen clusters
end-cursor mark pen [] = refl
end-cursor mark pen (cluster ∷ clusters) = cut_end-both (cluster_columns mark cluster) (cells_of_clusters pen clusters) (end_of (cell_of cluster mark)) (cut_end-clusters pen clusters)

front-before : (pen : Pen) (clusters : List (List ℕ)) (rest : List CellValue) → cut_front rest ≡ rest → cut_front (cells_of_clusters pen clusters ++ rest) ≡ cells_of_clusters pen clusters ++ rest
front-before pen [] rest whole = whole
front-before pen (cluster ∷ clusters) rest whole =
    ap cut_front (append_assoc (cluster_columns pen cluster) (cells_of_clusters pen clusters) rest)
    ∙ front_of pen cluster (cell_of cluster pen) (cells_of_clusters pen clusters ++ rest) refl (front-before pen clusters rest whole)
    ∙ sym (append_assoc (cluster_columns pen cluster) (cells_of_clusters pen clusters) rest)

-- what is known of the cells of an Input
record IsField (at : ℕ) (pen : Pen) (text : List ℕ) (cells : List CellValue) : Type 0 where
  front : cut_front cells ≡ cells
  last : cut_end cells ≡ cells
  fits : length cells ≤ length (line_cells text pen) + 1
  more : List (List ℕ)
  whole : texts cells ≡ texts (line_cells text pen) ++ more

field-is : (focused : Bool) (at : ℕ) (pen : Pen) (text : List ℕ) → IsField at pen text (field_cells focused at pen text)
unfolding field_cells
field-is false at pen text = record {
  front = cut_front-line text pen;
  last = cut_end-line text pen;
  fits = omega arith;
  more = [];
  whole = sym (append-nil (texts (line_cells text pen)));
}
field-is true at pen text =
    let before = clusters_before at (graphemes true text) in
    let from = clusters_from at (graphemes true text) in
    let all = line-split at pen text in
    let long = ap length all ∙ length-append (cells_of_clusters pen before) (cells_of_clusters pen from) in
    let mine = length-append (cells_of_clusters pen before) (cells_from_cursor (reversed pen) pen from) in
    record {
      front = front-before pen before (cells_from_cursor (reversed pen) pen from) (front-cursor (reversed pen) pen from);
      last = cut_end-both (cells_of_clusters pen before) (cells_from_cursor (reversed pen) pen from) (cut_end-clusters pen before) (end-cursor (reversed pen) pen from);
      fits = omega (arith, long, mine, length-cursor (reversed pen) pen from);
      more = added from;
      whole = map-append (λ (c : CellValue). c.text) (cells_of_clusters pen before) (cells_from_cursor (reversed pen) pen from)
          ∙ ap (λ rest. texts (cells_of_clusters pen before) ++ rest) (texts-cursor (reversed pen) pen from)
          ∙ sym (append_assoc (texts (cells_of_clusters pen before)) (texts (cells_of_clusters pen from)) (added from))
          ∙ ap (λ rest. rest ++ added from) (sym (ap texts all ∙ map-append (λ (c : CellValue). c.text) (cells_of_clusters pen before) (cells_of_clusters pen from)));
    }

field-whole : (focused : Bool) (at width : ℕ) (pen : Pen) (text : List ℕ) → width ≡ field_width text pen → HasAll (line_cells text pen) (field_row focused at width pen text)
field-whole focused at width pen text wants =
    let known = field-is focused at pen text in
    let cells = field_cells focused at pen text in
    let start : cursor_column at pen text + 1 - width ≡ 0 = omega (arith, wants, column-inside at pen text) in
    let inside : length cells ≤ width = omega (arith, wants, known.fits) in
    let row = ap (λ n. window n width pen cells) start ∙ window-all width pen cells known.front known.last inside in
    record {
      before = [];
      behind = known.more ++ texts (blanks (width - length cells) pen);
      whole = ap texts row ∙ map-append (λ (c : CellValue). c.text) cells (blanks (width - length cells) pen)
          ∙ ap (λ front. front ++ texts (blanks (width - length cells) pen)) known.whole
          ∙ append_assoc (texts (line_cells text pen)) known.more (texts (blanks (width - length cells) pen));
    }

pub fields-whole : FieldsAreWhole
fields-whole face is fits =
    let full = ap (λ k. full_width k face.text.now face.pen) is in
    let enough : face.content.width ≡ field_width face.text.now face.pen = omega (arith, fits.width, full, fits.uncut) in
    record {
      row = 0;
      inside = fits.some;
      all = subst (HasAll (line_cells face.text.now face.pen)) (sym (first-drawn face Input is))
          (field-whole face.focused (cursor_of (state_of face.kind face.text.now face.private)) face.content.width face.pen face.text.now enough);
    }
