-- Which cells are taken, as a number for each row that has a bit for each column, and how far down a span is known to fit nowhere.
use Rattle.std.specs.Prelude.{◌≡◌, ℕ, ◌+◌, ◌*◌, ◌<◌, ◌≤◌, ◌↔◌, List, length, slice_index, Option, Some, None, IfSome, All}
use Rattle.std.specs.Int.{bit_at}
use Rattle.tx_grid.specs.declared.places.Cells.{Cells}
use Rattle.tx_grid.specs.declared.places.Spans.{Spans}
use Rattle.tx_grid.specs.Standing.{Holds, IsEarlier, cells_at}

-- no child before has the cell in column x and row y
abbrev pub IsClear : List (Option Cells) → ℕ → ℕ → Type 0
IsClear before x y = All (λ other. IfSome other (λ cells. ¬ Holds cells x y)) before

-- the bit of the cell in column x and row y is 0
abbrev pub IsOpenAt : List ℕ → ℕ → ℕ → Type 0
IsOpenAt taken x y = bit_at (slice_index taken y) x ≡ 0

-- the bits are 0 exactly where no child before has the cell
abbrev pub Shows : List ℕ → List (Option Cells) → Type 0
Shows taken before = (x y : ℕ) → IsOpenAt taken x y ↔ IsClear before x y

-- so many bits of a number from a column on are 0
abbrev pub IsOpenFrom : ℕ → ℕ → ℕ → Type 0
IsOpenFrom mask column width = (x : ℕ) → column ≤ x → x < column + width → bit_at mask x ≡ 0

-- the bits of a number say where so many bits of another one are 0
abbrev pub AreStarts : ℕ → ℕ → ℕ → Type 0
AreStarts mask width starts = (x : ℕ) → x + width ≤ 128 → (bit_at starts x ≡ 1) ↔ IsOpenFrom mask x width

-- a bit of the number is 0 where those of all rows from `from` to `to` are
abbrev pub Joins : List ℕ → ℕ → ℕ → ℕ → Type 0
Joins taken from to mask = (x : ℕ) → (bit_at mask x ≡ 0) ↔ ((y : ℕ) → from ≤ y → y < to → IsOpenAt taken x y)

-- the column is the first one from `from` on, with so many columns inside, in which they are open
pub record IsNextOpen (mask from width columns column : ℕ) : Type 0 where
  pub from_on : from ≤ column
  pub inside : column + width ≤ columns
  pub is_open : IsOpenFrom mask column width
  pub next : (c : ℕ) → from ≤ c → c < column → IsOpenFrom mask c width → ⊥

-- the cells are inside and open
pub record FitsOpen (columns : ℕ) (rows : Option ℕ) (taken : List ℕ) (cells : Cells) : Type 0 where
  pub in_columns : cells.column + cells.columns ≤ columns
  pub in_rows : IfSome rows (λ limit. cells.row + cells.rows ≤ limit)
  pub are_open : (x y : ℕ) → Holds cells x y → IsOpenAt taken x y

-- the cells are inside the columns and open
pub record IsOpenIn (columns : ℕ) (taken : List ℕ) (cells : Cells) : Type 0 where
  pub in_columns : cells.column + cells.columns ≤ columns
  pub are_open : (x y : ℕ) → Holds cells x y → IsOpenAt taken x y

-- in its row the column is the first one at which the span is open
pub record IsFirstInRow (columns : ℕ) (taken : List ℕ) (span : Spans) (row column : ℕ) : Type 0 where
  pub is_open : IsOpenIn columns taken (cells_at span row column)
  pub first : (c : ℕ) → c < column → IsOpenIn columns taken (cells_at span row c) → ⊥

-- the span is open in no row from `from` to `to`
abbrev pub IsClosed : ℕ → List ℕ → Spans → ℕ → ℕ → Type 0
IsClosed columns taken span from to =
    (row column : ℕ) → from ≤ row → row < to → IsOpenIn columns taken (cells_at span row column) → ⊥

-- the next row that is worth a look, after one in which the span is open nowhere
pub record IsNextRow (columns : ℕ) (taken : List ℕ) (span : Spans) (row next : ℕ) : Type 0 where
  pub later : row < next
  pub near : next ≤ row + span.rows
  pub closed : IsClosed columns taken span row next

-- the first place at which the span fits
pub record IsFirstOpen (columns : ℕ) (rows : Option ℕ) (taken : List ℕ) (span : Spans) (place : Cells) : Type 0 where
  pub of_span : place ≡ cells_at span place.row place.column
  pub fits : FitsOpen columns rows taken place
  pub first : (row column : ℕ) → IsEarlier row column place.row place.column → FitsOpen columns rows taken (cells_at span row column) → ⊥

abbrev pub StandsOpen : ℕ → Option ℕ → List ℕ → Spans → Option Cells → Type 0
StandsOpen columns rows taken span (Some place) = IsFirstOpen columns rows taken span place
StandsOpen columns rows taken span None = (row column : ℕ) → FitsOpen columns rows taken (cells_at span row column) → ⊥

-- what a row becomes where these columns of it are taken
abbrev pub AddsColumns : ℕ → ℕ → ℕ → ℕ → Type 0
AddsColumns old new column width = (x : ℕ) → (bit_at new x ≡ 0) ↔ ((bit_at old x ≡ 0) × ((column ≤ x) → (x < column + width) → ⊥))

-- these cells are taken, and no others that were open
abbrev pub Adds : List ℕ → List ℕ → Cells → Type 0
Adds old new cells = (x y : ℕ) → IsOpenAt new x y ↔ (IsOpenAt old x y × ¬ Holds cells x y)

-- the span fits in no row before this one
abbrev pub FitsInNoRowBefore : ℕ → Option ℕ → List ℕ → Spans → ℕ → Type 0
FitsInNoRowBefore columns rows taken span row = (r c : ℕ) → r < row → FitsOpen columns rows taken (cells_at span r c) → ⊥

-- for each span, the row up to which it is known to fit nowhere
abbrev pub span_number : ℕ → ℕ → ℕ
span_number width height = 100 * width + height

pub record IsSpanWithin (columns width height : ℕ) : Type 0 where
  pub wide : 1 ≤ width
  pub within : width ≤ columns
  pub high : 1 ≤ height
  pub most : height ≤ 100

abbrev pub Knows : ℕ → Option ℕ → List ℕ → List ℕ → Type 0
Knows columns rows taken known =
    (width height row column : ℕ) → IsSpanWithin columns width height → row < slice_index known (span_number width height)
    → FitsOpen columns rows taken (cells_at (record { columns = width; rows = height }) row column) → ⊥

-- the cells of a child that is placed are taken, and no others that were open
abbrev pub AddsPlace : List ℕ → List ℕ → Option Cells → Type 0
AddsPlace old new None = new ≡ old
AddsPlace old new (Some cells) = Adds old new cells

-- what is kept beside the children placed so far
pub record IsBoard (columns : ℕ) (rows : Option ℕ) (taken known : List ℕ) : Type 0 where
  pub count : length known ≡ 100 * columns + 101
  pub low : (k : ℕ) → slice_index known k ≤ 100 * 65536
  pub knows : Knows columns rows taken known
