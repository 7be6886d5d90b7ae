-- An update between equal grids.
use Rattle.std.proofs.Common.{◌≡◌, ℕ, ◌+◌, List, [], ◌∷◌, ◌++◌, zip, flat_map, Bool, true, false, ◌&&◌, ◌||◌, not, cond, nat_lt, refl, ap, ap₂, ◌∙◌}
use Rattle.std.proofs.Math.Bool.{and-false}
use Rattle.tx_cell.specs.Cell.{CellValue}
use Rattle.tx_cell.specs.Same.{cell_eq, cell_eq-decides}
use Rattle.tx_term.proofs.LawLemmas.{updates_without_marks}
use Rattle.tx_term.specs.Laws.{EqualGridsSendNothing}
use Rattle.tx_term.specs.Update.{Unit, rows_marks, run_marks, runs, units, first_differ, unit_differs}

cell_same : (cell : CellValue) → cell_eq cell cell ≡ true
cell_same cell = (cell_eq-decides cell cell).1 refl

first_same : (cells : List CellValue) → first_differ (zip cells cells) ≡ false
first_same [] = refl
first_same (cell ∷ cells) = ap not (cell_same cell)

unit_same : (cell : CellValue) (cells : List CellValue) → unit_differs (cell, cell) (zip cells cells) ≡ false
unit_same cell cells = ap₂ (λ same differs. not same || (nat_lt 1 cell.width && differs)) (cell_same cell) (first_same cells) ∙ and-false (nat_lt 1 cell.width)

-- one unit that doesn't differ, or a tail, before a row without marks
no_mark : (row column : ℕ) (cell : CellValue) (rest : List Unit) (tail differs : Bool) → differs ≡ false
    → flat_map (run_marks row false) (runs rest) ≡ []
    → flat_map (run_marks row false) (runs (cond tail rest (record { column = column; cell = cell; differs = differs } ∷ rest))) ≡ []
no_mark row column cell rest true differs same none = none
no_mark row column cell rest false true same none = cc
no_mark row column cell rest false false same none = none

-- a row that stays has empty runs alone
no_marks : (row column : ℕ) (cells : List CellValue) → flat_map (run_marks row false) (runs (units false column (zip cells cells))) ≡ []
no_marks row column [] = refl
no_marks row column (cell ∷ cells) =
    no_mark row column cell (units false (column + 1) (zip cells cells)) cell.tail (unit_differs (cell, cell) (zip cells cells)) (unit_same cell cells) (no_marks row (column + 1) cells)

no_rows : (row : ℕ) (rows : List (List CellValue)) → rows_marks false row rows rows ≡ []
no_rows row [] = refl
no_rows row (cells ∷ rows) = ap₂ (λ a b. a ++ b) (no_marks row 0 cells) (no_rows (row + 1) rows)

pub equal_grids : EqualGridsSendNothing
equal_grids grid = (updates_without_marks grid grid).1 (no_rows 0 grid.rows)
