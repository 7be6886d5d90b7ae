-- Texts that make one cell of one column.
use Rattle.std.proofs.Common.{◌≡◌, [], ◌∷◌, Bool, true, false, refl}
use Rattle.std.specs.Str.{chars}
use Rattle.unicode_segmentation.proofs.Computing.{unicode_segmentation}
use Rattle.unicode_width.proofs.Computing.{unicode_width}
use Rattle.tx_cell.specs.Cell.{cell_of, cluster_cell, shown}
use Rattle.tx_cell.specs.Strip.{line_cells}
use Rattle.tx_cell.specs.declared.pen.Pen.{Pen}
use Rattle.tx_widgets.specs.Drawing.{ascii_cells, box_text, thick, thin}

pub line_cells-blank : (pen : Pen) → line_cells (32 ∷ []) pen ≡ shown (32 ∷ []) 1 pen ∷ []
unfolding line_cells cell_of cluster_cell chars unicode_segmentation unicode_width
line_cells-blank pen = refl

pub line_cells-thick : (pen : Pen) → line_cells (226 ∷ 148 ∷ 129 ∷ []) pen ≡ thick pen ∷ []
unfolding line_cells cell_of cluster_cell chars unicode_segmentation unicode_width
line_cells-thick pen = refl

pub line_cells-thin : (pen : Pen) → line_cells (226 ∷ 148 ∷ 128 ∷ []) pen ≡ thin pen ∷ []
unfolding line_cells cell_of cluster_cell chars unicode_segmentation unicode_width
line_cells-thin pen = refl

pub line_cells-box : (on : Bool) (pen : Pen) → line_cells (box_text on) pen ≡ ascii_cells pen (box_text on)
unfolding line_cells cell_of cluster_cell chars unicode_segmentation unicode_width
line_cells-box true pen = refl
line_cells-box false pen = refl
