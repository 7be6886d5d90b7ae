-- The row of an Input: its text in one line, and the cursor.
use Rattle.std.specs.Prelude.{ℕ, ◌+◌, ◌-◌, Bool, true, false, nat_lt, List, [], ◌∷◌, ◌++◌, length, Option, Some, None, if◌then◌else◌}
use Rattle.std.specs.List.{flat_map}
use Rattle.unicode_segmentation.specs.Grapheme.{graphemes}
use Rattle.tx_cell.specs.Cell.{CellValue, blank}
use Rattle.tx_cell.specs.Strip.{cluster_columns, line_cells}
use Rattle.tx_widgets.specs.Columns.{reversed, window}
use Rattle.tx_cell.specs.declared.pen.Pen.{Pen}

-- the clusters before the one that has the byte at this offset
abbrev pub clusters_before : ℕ → List (List ℕ) → List (List ℕ)
clusters_before at [] = []
clusters_before at (cluster ∷ clusters) = if nat_lt at (length cluster) then [] else cluster ∷ clusters_before (at - length cluster) clusters

-- that cluster and those after it: none where the offset is the end
abbrev pub clusters_from : ℕ → List (List ℕ) → List (List ℕ)
clusters_from at [] = []
clusters_from at (cluster ∷ clusters) = if nat_lt at (length cluster) then cluster ∷ clusters else clusters_from (at - length cluster) clusters

-- the cells of clusters
abbrev pub cells_of_clusters : Pen → List (List ℕ) → List CellValue
cells_of_clusters pen clusters = flat_map (cluster_columns pen) clusters

-- the cursor's column: the first one of the cluster in which it stands, or the one after the text
unfoldable pub cursor_column : ℕ → Pen → List ℕ → ℕ
cursor_column at pen text = length (cells_of_clusters pen (clusters_before at (graphemes true text)))

-- the columns of that cluster, unless the offset is the end
abbrev pub columns_at : Pen → List (List ℕ) → Option ℕ
columns_at pen [] = None
columns_at pen (cluster ∷ clusters) = Some (length (cluster_columns pen cluster))

-- the cursor's cluster in a pen of its own, or a blank at the end, and the clusters after it
abbrev pub cells_from_cursor : Pen → Pen → List (List ℕ) → List CellValue
cells_from_cursor mark pen [] = blank mark ∷ []
cells_from_cursor mark pen (cluster ∷ clusters) = cluster_columns mark cluster ++ cells_of_clusters pen clusters

-- the cells of the text, where the cluster at the cursor has reverse changed if the row has the focus
unfoldable pub field_cells : Bool → ℕ → Pen → List ℕ → List CellValue
field_cells false at pen text = line_cells text pen
field_cells true at pen text =
    cells_of_clusters pen (clusters_before at (graphemes true text)) ++ cells_from_cursor (reversed pen) pen (clusters_from at (graphemes true text))

-- the column that is shown first: the one that puts the cursor into the last column, or the first of all
abbrev pub first_column : ℕ → ℕ → Pen → List ℕ → ℕ
first_column at width pen text = cursor_column at pen text + 1 - width

-- the row
abbrev pub field_row : Bool → ℕ → ℕ → Pen → List ℕ → List CellValue
field_row focused at width pen text = window (first_column at width pen text) width pen (field_cells focused at pen text)
