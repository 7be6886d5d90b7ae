-- Held cells that are put.
use Rattle.std.proofs.Common.{◌≡◌, ◌≤◌, ◌<◌, ◌+◌, ℕ, zero, suc, List, [], ◌∷◌, Bool, true, false, refl, arith, ap, sym, ◌∙◌, Option, Some, None, cond, nat_le}
use Rattle.std.proofs.lemmas.Bool.{leb-true}
use Rattle.tx_cell.proofs.lemmas.MadeCells.{cell_of-nothing}
use Rattle.tx_cell.specs.Cell.{CellValue, blank, cell_of}
use Rattle.tx_cell.specs.declared.pen.Pen.{Pen}
use Rattle.tx_geom.specs.declared.places.Size.{Size}
use Rattle.tx_cell.specs.Pen.{white_on_black}
use Rattle.std.specs.Prelude.{slice_get, unwrap_or}
use Rattle.tx_cell.specs.Grid.{GridValue, changed_at, filled, with_row_of}
use Rattle.tx_cell.specs.Strip.{laid, with_tail}
use Rattle.tx_term.specs.Canvas.{CanvasValue, IsInside, IsKept, fitting, held_cell, drawn, columns_of, put_held, shown_grid, erased, opened_canvas}

pub size-drawn : (grid : GridValue) (column row : ℕ) (cell : Option CellValue) → (drawn grid column row cell).size ≡ grid.size
size-drawn grid column row None = refl
size-drawn grid column row (Some cell) = refl

-- a cell that fits ends in the row
fitting-by : (column width : ℕ) (cell : CellValue) (fits : Bool) → nat_le (column + cell.width) width ≡ fits → column ≤ width
    → column + columns_of (cond fits (Some cell) None) ≤ width
fitting-by column width cell true is inside = leb-true _ _ is
fitting-by column width cell false is inside = omega arith

pub fitting-inside : (column width : ℕ) (cell : Option CellValue) → column ≤ width → column + columns_of (fitting column width cell) ≤ width
fitting-inside column width None inside = omega arith
fitting-inside column width (Some cell) inside = fitting-by column width cell _ refl inside

-- nothing is drawn where nothing is held
pub shown_grid-nothing : (canvas : CanvasValue) → canvas.held ≡ [] → shown_grid canvas ≡ canvas.grid
shown_grid-nothing canvas nothing =
    ap (λ cell. drawn canvas.grid canvas.column canvas.row (fitting canvas.column canvas.grid.size.width cell))
    (ap (λ text. cell_of text canvas.pen) nothing ∙ cell_of-nothing canvas.pen)

-- the held cell is put
pub IsKept-put : (shown : GridValue) (canvas : CanvasValue) → IsKept shown canvas → IsKept shown (put_held canvas)
unfolding put_held
IsKept-put shown canvas kept = record {
  inside = record {
    row = rw (size-drawn canvas.grid canvas.column canvas.row (held_cell canvas)) kept.inside.row;
    column = rw (size-drawn canvas.grid canvas.column canvas.row (held_cell canvas)) (fitting-inside canvas.column canvas.grid.size.width (cell_of canvas.held canvas.pen) kept.inside.column);
  };
  shown_is = kept.shown_is ∙ sym (shown_grid-nothing (put_held canvas) refl);
}

-- with nothing held, other cells and another cursor
pub IsKept-nothing : (canvas : CanvasValue) → canvas.held ≡ [] → IsInside canvas → IsKept canvas.grid canvas
IsKept-nothing canvas nothing inside = record { inside = inside; shown_is = sym (shown_grid-nothing canvas nothing) }

pub held-put_held : (canvas : CanvasValue) → (put_held canvas).held ≡ []
unfolding put_held
held-put_held canvas = refl

pub IsKept-pen : (shown : GridValue) (canvas : CanvasValue) (pen : Pen) → canvas.held ≡ [] → IsKept shown canvas → IsKept shown (record canvas { pen = pen })
IsKept-pen shown canvas pen nothing kept = record {
  inside = record { row = kept.inside.row; column = kept.inside.column };
  shown_is = kept.shown_is ∙ shown_grid-nothing canvas nothing ∙ sym (shown_grid-nothing (record canvas { pen = pen }) nothing);
}

pub IsKept-erased : (shown : GridValue) (canvas : CanvasValue) → canvas.held ≡ [] → IsKept shown canvas → IsKept (filled shown.size (blank canvas.pen)) (erased canvas)
IsKept-erased shown canvas nothing kept = record {
  inside = record { row = kept.inside.row; column = kept.inside.column };
  shown_is = ap (λ (g : GridValue). filled g.size (blank canvas.pen)) (kept.shown_is ∙ shown_grid-nothing canvas nothing) ∙ sym (shown_grid-nothing (erased canvas) nothing);
}

pub IsKept-opened : (size : Size) → 1 ≤ size.height → IsKept (filled size (blank white_on_black)) (opened_canvas size)
IsKept-opened size some = record { inside = record { row = omega (arith, some); column = omega arith }; shown_is = sym (shown_grid-nothing (opened_canvas size) refl) }

-- another cursor
pub IsKept-at : (shown : GridValue) (canvas : CanvasValue) (row column : ℕ) → canvas.held ≡ [] → row < canvas.grid.size.height → column ≤ canvas.grid.size.width
    → IsKept shown canvas → IsKept shown (record canvas { row = row; column = column })
IsKept-at shown canvas row column nothing below beside kept = record {
  inside = record { row = below; column = beside };
  shown_is = kept.shown_is ∙ shown_grid-nothing canvas nothing ∙ sym (shown_grid-nothing (record canvas { row = row; column = column }) nothing);
}

-- ---- a cell that is taken back

changed_back : (y : ℕ) (change : List CellValue → List CellValue) (rows : List (List CellValue))
    → changed_at y (λ row. unwrap_or (slice_get rows y) row) (changed_at y change rows) ≡ rows
changed_back y change [] = refl
changed_back zero change (row ∷ rows) = refl
changed_back (suc y) change (row ∷ rows) = ap (λ more. row ∷ more) (changed_back y change rows)

row_stays : (y : ℕ) (rows : List (List CellValue)) → changed_at y (λ row. unwrap_or (slice_get rows y) row) rows ≡ rows
row_stays y [] = refl
row_stays zero (row ∷ rows) = refl
row_stays (suc y) (row ∷ rows) = ap (λ more. row ∷ more) (row_stays y rows)

pub drawn-back : (grid : GridValue) (column row : ℕ) (cell : Option CellValue) → with_row_of (drawn grid column row cell) grid row ≡ grid
drawn-back grid column row None = ap (λ rows. record grid { rows = rows }) (row_stays row grid.rows)
drawn-back grid column row (Some cell) = ap (λ rows. record grid { rows = rows }) (changed_back row (laid column (with_tail cell)) grid.rows)
