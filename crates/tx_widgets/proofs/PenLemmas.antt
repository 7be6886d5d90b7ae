-- In another pen a cluster makes the same cell, but for the pen, and takes as many columns, which are those of its cell.
use Rattle.std.proofs.Common.{◌≡◌, ◌∙◌, ℕ, List, [], ◌∷◌, length, Bool, true, false, ◌||◌, if◌then◌else◌, refl, ap, arith}
use Rattle.std.proofs.lemmas.Bool.{ltb-false, ltb-true}
use Rattle.std.specs.Option.{option_map, option_map_or}
use Rattle.std.specs.Prelude.{Option, Some, None, nat_lt, ◌==◌}
use Rattle.std.specs.Str.{chars}
use Rattle.unicode_segmentation.specs.Grapheme.{graphemes}
use Rattle.unicode_width.specs.Width.{str_width}
use Rattle.tx_cell.specs.Cell.{CellValue, IsMade, most_bytes, shown, blank, replacement, is_tab, is_unfit, cluster_cell, cell_of_clusters, cell_of}
use Rattle.tx_cell.specs.Strip.{with_tail, cluster_columns}
use Rattle.tx_cell.specs.declared.pen.Pen.{Pen}

-- the cell in this pen
abbrev pub penned : Pen → CellValue → CellValue
penned pen cell = record cell { pen = pen }

same_choice : (tab unfit none replaced : Bool) (cluster : List ℕ) (width : ℕ) (p q : Pen)
    → (if tab then Some (blank q) else if unfit then Some (replacement q) else if none then None else if replaced then Some (replacement q) else Some (shown cluster width q))
    ≡ option_map (penned q) (if tab then Some (blank p) else if unfit then Some (replacement p) else if none then None else if replaced then Some (replacement p) else Some (shown cluster width p))
same_choice true unfit none replaced cluster width p q = refl
same_choice false true none replaced cluster width p q = refl
same_choice false false true replaced cluster width p q = refl
same_choice false false false true cluster width p q = refl
same_choice false false false false cluster width p q = refl

cell_of_clusters-penned : (clusters : List (List ℕ)) (p q : Pen) → cell_of_clusters clusters q ≡ option_map (penned q) (cell_of_clusters clusters p)
unfolding cluster_cell
cell_of_clusters-penned [] p q = refl
cell_of_clusters-penned (cluster ∷ []) p q =
    let width = str_width false (chars cluster) in
    same_choice (is_tab cluster) (is_unfit (chars cluster)) (width == 0) (nat_lt 2 width || nat_lt most_bytes (length cluster)) cluster width p q
cell_of_clusters-penned (first ∷ second ∷ more) p q = refl

-- the cell of a text in one pen is the one in another, but for the pen
pub cell_of-penned : (text : List ℕ) (p q : Pen) → cell_of text q ≡ option_map (penned q) (cell_of text p)
unfolding cell_of
cell_of-penned text p q = cell_of_clusters-penned (graphemes true text) p q

length-with_tail_penned-by : (pen : Pen) (cell : CellValue) (is_wide : Bool) → nat_lt 1 cell.width ≡ is_wide → length (with_tail (penned pen cell)) ≡ length (with_tail cell)
length-with_tail_penned-by pen cell true wide = rw wide refl
length-with_tail_penned-by pen cell false narrow = rw narrow refl

length-made : (pen : Pen) (made : Option CellValue) → length (option_map_or with_tail (option_map (penned pen) made) []) ≡ length (option_map_or with_tail made [])
length-made pen None = refl
length-made pen (Some cell) = length-with_tail_penned-by pen cell (nat_lt 1 cell.width) refl

-- the columns of a text don't depend on the pen
pub same_columns : (cluster : List ℕ) (p q : Pen) → length (cluster_columns p cluster) ≡ length (cluster_columns q cluster)
same_columns cluster p q = ap (λ made. length (option_map_or with_tail made [])) (cell_of-penned cluster q p) ∙ length-made p (cell_of cluster q)

length-with_tail_width-by : (pen : Pen) (cell : CellValue) (is_wide : Bool) → nat_lt 1 cell.width ≡ is_wide → IsMade pen cell → length (with_tail cell) ≡ cell.width
length-with_tail_width-by pen cell true wide made = let many = ltb-true 1 cell.width wide in rw wide (omega (arith, made.few))
length-with_tail_width-by pen cell false narrow made = let few = ltb-false 1 cell.width narrow in rw narrow (omega (arith, made.some))

-- a cell takes the columns of its width
pub length-with_tail_width : (pen : Pen) (cell : CellValue) → IsMade pen cell → length (with_tail cell) ≡ cell.width
length-with_tail_width pen cell made = length-with_tail_width-by pen cell (nat_lt 1 cell.width) refl made
