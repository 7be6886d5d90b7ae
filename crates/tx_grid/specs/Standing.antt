-- Where the children of one layer of a grid stand. Columns count from the left and rows from the top, both from 0.
use Rattle.std.specs.Prelude.{◌≡◌, ℕ, zero, suc, ◌+◌, ◌<◌, ◌≤◌, ◌⊎◌, min, max, nat_le, Bool, true, ◌&&◌, ◌||◌, if◌then◌else◌, List, [], ◌∷◌, ◌++◌, Option, Some, None, IfSome, All}
use Rattle.std.specs.Option.{option_or}
use Rattle.tx_grid.specs.declared.places.Cells.{Cells}
use Rattle.tx_grid.specs.declared.places.Spans.{Spans}

-- ---- spans and cells

-- a number, and no more than a limit where one is given
abbrev pub at_most : Option ℕ → ℕ → ℕ
at_most None n = n
at_most (Some limit) n = min n limit

-- the span that a child gets: cut to the columns, and to the rows where these are given
abbrev pub cut : ℕ → Option ℕ → Spans → Spans
cut columns rows span = record { columns = min span.columns columns; rows = at_most rows span.rows }

-- the cells of a span whose first one is in this row and this column
abbrev pub cells_at : Spans → ℕ → ℕ → Cells
cells_at span row column = record { column = column; row = row; columns = span.columns; rows = span.rows }

-- the cell in column x and row y is one of these
pub record Holds (cells : Cells) (x y : ℕ) : Type 0 where
  pub from_left : cells.column ≤ x
  pub to_right : x < cells.column + cells.columns
  pub from_top : cells.row ≤ y
  pub to_bottom : y < cells.row + cells.rows

-- no cell is in both
abbrev pub SharesNoCell : Cells → Cells → Type 0
SharesNoCell a b = (x y : ℕ) → Holds a x y → Holds b x y → ⊥

-- ---- the first place in row order, as a relation. `before` is where those before a child stand, None for one that isn't placed

-- no cell is one of those of a child before
abbrev pub IsFree : List (Option Cells) → Cells → Type 0
IsFree before cells = All (λ other. IfSome other (SharesNoCell cells)) before

-- the cells are inside the columns, and the rows where these are given, and free
pub record Fits (columns : ℕ) (rows : Option ℕ) (before : List (Option Cells)) (cells : Cells) : Type 0 where
  pub in_columns : cells.column + cells.columns ≤ columns
  pub in_rows : IfSome rows (λ limit. cells.row + cells.rows ≤ limit)
  pub free : IsFree before cells

-- one cell comes before another in row order
abbrev pub IsEarlier : ℕ → ℕ → ℕ → ℕ → Type 0
IsEarlier row column other_row other_column = (row < other_row) ⊎ ((row ≡ other_row) × (column < other_column))

-- the place is the first one in row order at which the span fits
pub record IsFirstPlace (columns : ℕ) (rows : Option ℕ) (before : List (Option Cells)) (span : Spans) (place : Cells) : Type 0 where
  pub of_span : place ≡ cells_at span place.row place.column
  pub fits : Fits columns rows before place
  pub first : (row column : ℕ) → IsEarlier row column place.row place.column → Fits columns rows before (cells_at span row column) → ⊥

-- where a child with this span stands: at the first place at which it fits, and nowhere where it fits at none
abbrev pub StandsAt : ℕ → Option ℕ → List (Option Cells) → Spans → Option Cells → Type 0
StandsAt columns rows before span (Some place) = IsFirstPlace columns rows before span place
StandsAt columns rows before span None = (row column : ℕ) → Fits columns rows before (cells_at span row column) → ⊥

-- ---- the same as a function

-- whether two have no column or no row in common
abbrev pub are_apart : Cells → Cells → Bool
are_apart a b =
    nat_le (min (a.column + a.columns) (b.column + b.columns)) (max a.column b.column)
    || nat_le (min (a.row + a.rows) (b.row + b.rows)) (max a.row b.row)

abbrev pub is_free : List (Option Cells) → Cells → Bool
is_free [] cells = true
is_free (None ∷ before) cells = is_free before cells
is_free (Some other ∷ before) cells = are_apart cells other && is_free before cells

abbrev pub is_inside : Option ℕ → ℕ → Bool
is_inside None end = true
is_inside (Some limit) end = nat_le end limit

abbrev pub fits : ℕ → Option ℕ → List (Option Cells) → Cells → Bool
fits columns rows before cells = nat_le (cells.column + cells.columns) columns && (is_inside rows (cells.row + cells.rows) && is_free before cells)

-- where the lowest of them ends
abbrev pub rows_used : List (Option Cells) → ℕ
rows_used [] = 0
rows_used (None ∷ places) = rows_used places
rows_used (Some cells ∷ places) = max (cells.row + cells.rows) (rows_used places)

-- the last row that a span can begin in: below those before it is room
abbrev pub last_row : Option ℕ → List (Option Cells) → ℕ
last_row None before = rows_used before
last_row (Some limit) before = limit

-- what f gives for the first of n numbers from `from` on for which it gives something
abbrev pub first_given : {A : Type 0} → (ℕ → Option A) → ℕ → ℕ → Option A
first_given f zero from = None
first_given f (suc n) from = option_or (f from) (first_given f n (suc from))

-- the cells of a span in this row and this column, where it fits there
abbrev pub place_in : ℕ → Option ℕ → List (Option Cells) → Spans → ℕ → ℕ → Option Cells
place_in columns rows before span row column =
    if fits columns rows before (cells_at span row column) then Some (cells_at span row column) else None

-- the first place: in the first row that has one, in the first column
unfoldable pub first_place : ℕ → Option ℕ → List (Option Cells) → Spans → Option Cells
first_place columns rows before span =
    first_given (λ row. first_given (place_in columns rows before span row) (suc columns) 0) (suc (last_row rows before)) 0

-- the first place of each span, after those before it
abbrev pub standing_after : ℕ → Option ℕ → List (Option Cells) → List Spans → List (Option Cells)
standing_after columns rows before [] = []
standing_after columns rows before (span ∷ spans) =
    first_place columns rows before (cut columns rows span)
    ∷ standing_after columns rows (before ++ first_place columns rows before (cut columns rows span) ∷ []) spans

-- where the children of a layer stand, in document order, in these columns and, where they are given, rows
abbrev pub standing : List Spans → ℕ → Option ℕ → List (Option Cells)
standing spans columns rows = standing_after columns rows [] spans

-- ---- conditions and bounds

-- a span or a number of columns
pub record IsSpan (n : ℕ) : Type 0 where
  pub least : 1 ≤ n
  pub most : n ≤ 100

pub record AreSpans (span : Spans) : Type 0 where
  pub columns : IsSpan span.columns
  pub rows : IsSpan span.rows

pub record IsRowCount (n : ℕ) : Type 0 where
  pub least : 1 ≤ n
  pub most : n ≤ 1000

-- a place inside the columns, and the rows where these are given
pub record IsInside (columns : ℕ) (rows : Option ℕ) (cells : Cells) : Type 0 where
  pub wide : IsSpan cells.columns
  pub high : IsSpan cells.rows
  pub in_columns : cells.column + cells.columns ≤ columns
  pub in_rows : IfSome rows (λ limit. cells.row + cells.rows ≤ limit)
