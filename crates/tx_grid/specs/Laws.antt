-- What holds of where children stand, in an author's words.
use Rattle.std.specs.Prelude.{◌≡◌, ◌≢◌, ◌↔◌, ℕ, ◌<◌, ◌≤◌, List, length, take, slice_index_or, Option, Some, None, IsSome, All, sum_by}
use Rattle.tx_grid.specs.declared.places.Cells.{Cells}
use Rattle.tx_grid.specs.declared.places.Spans.{Spans}
use Rattle.tx_grid.specs.Standing.{cut, SharesNoCell, StandsAt, first_place, standing, rows_used}

-- the first place is where a child stands, and no other place is
abbrev pub FirstPlaceIsWhereItStands : Type 0
FirstPlaceIsWhereItStands =
    (columns : ℕ) (rows : Option ℕ) (before : List (Option Cells)) (span : Spans) (place : Option Cells)
    → (first_place columns rows before span ≡ place) ↔ StandsAt columns rows before span place

-- each child stands at the first place that was free when it was placed, and nowhere exactly where none was
abbrev pub EachStandsFirst : Type 0
EachStandsFirst =
    (spans : List Spans) (columns : ℕ) (rows : Option ℕ) (i : ℕ) (span : Spans) → i < length spans
    → StandsAt columns rows (take i (standing spans columns rows)) (cut columns rows (slice_index_or spans i span)) (slice_index_or (standing spans columns rows) i None)

-- two children share no cell
abbrev pub NoneShareCells : Type 0
NoneShareCells =
    (spans : List Spans) (columns : ℕ) (rows : Option ℕ) (i j : ℕ) (a b : Cells)
    → slice_index_or (standing spans columns rows) i None ≡ Some a
    → slice_index_or (standing spans columns rows) j None ≡ Some b
    → i ≢ j
    → SharesNoCell a b

-- where no rows are given each child is placed, and the rows used are at most all rows of the spans
abbrev pub AllArePlaced : Type 0
AllArePlaced =
    (spans : List Spans) (columns : ℕ)
    → All IsSome (standing spans columns None) × (rows_used (standing spans columns None) ≤ sum_by (λ span. span.rows) spans)
