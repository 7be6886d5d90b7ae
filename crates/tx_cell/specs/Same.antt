-- When two cells are the same.
use Rattle.std.specs.Prelude.{◌≡◌, Bool, ◌&&◌, ◌==◌}
use Rattle.std.proofs.Common.{ap}
use Rattle.std.proofs.lemmas.Bool.Decides.{Decides-and, Decides-like}
use Rattle.std.specs.Bool.{Decides}
use Rattle.std.specs.Cmp.{booleans_Decides, unsigned_Decides}
use Rattle.std.specs.Cmp.Lexicographic.{pointwise, bytes_decides}
use mathlib.Core.Bool.{beq}
use Rattle.tx_cell.specs.Cell.{CellValue}
use Rattle.tx_cell.specs.Pen.{pen_eq, pen_eq-decides}

-- whether two cells have the same parts
abbrev pub cell_eq : CellValue → CellValue → Bool
cell_eq a b = pointwise ◌==◌ a.text b.text && ((a.width == b.width) && (beq a.tail b.tail && pen_eq a.pen b.pen))

-- the test of cells is right
pub cell_eq-decides : (a b : CellValue) → Decides (cell_eq a b) (a ≡ b)
cell_eq-decides a b =
    Decides-like (cell_eq a b)
    (λ (same : (a.text ≡ b.text) × ((a.width ≡ b.width) × ((a.tail ≡ b.tail) × (a.pen ≡ b.pen)))). λ i. record { text = same.0 i; width = same.1.0 i; tail = same.1.1.0 i; pen = same.1.1.1 i })
    (λ same. (ap (λ (c : CellValue). c.text) same, (ap (λ (c : CellValue). c.width) same, (ap (λ (c : CellValue). c.tail) same, ap (λ (c : CellValue). c.pen) same))))
    (Decides-and _ _ (bytes_decides a.text b.text)
    (Decides-and _ _ (unsigned_Decides a.width b.width) (Decides-and _ _ (booleans_Decides a.tail b.tail) (pen_eq-decides a.pen b.pen))))
