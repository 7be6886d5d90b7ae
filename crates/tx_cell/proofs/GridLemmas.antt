-- The rows of a grid, kept one after another.
use Rattle.std.proofs.Common.{◌≡◌, ◌+◌, ◌-◌, ◌*◌, ◌<◌, ◌≤◌, ℕ, zero, suc, List, [], ◌∷◌, ◌++◌, length, take, drop, replicate, Bool, true, false, refl, sym, arith, ap, ap₂, subst, ◌∙◌, length-append, length-drop, append_assoc}
use Rattle.std.proofs.Math.Seq.{take_at, drop_at, take-add, drop-drop, length-take-le}
use Rattle.std.proofs.lemmas.List.{length-replicate}
use Rattle.std.proofs.Math.ListN.{replicate-append-replicate}
use Rattle.std.proofs.lemmas.List.Elements.{All-nil, All-cons, All-head, All-tail, All-replicate}
use Rattle.std.specs.List.{All, slice_get}
use Rattle.std.specs.Prelude.{Option, Some, unwrap_or, nat_lt}
use Rattle.tx_cell.specs.Cell.{CellValue, IsCell, IsOfItsText}
use Rattle.tx_cell.specs.Grid.{GridValue, IsGrid, IsArray, rows_of, changed_at}
use Rattle.tx_geom.specs.declared.places.Size.{Size}
use Rattle.tx_cell.specs.Strip.{IsWellFormed, laid}
use Rattle.tx_cell.proofs.StripLemmas.{IsWellFormed-laid, length-laid}

-- one row more is as many cells more as a row has
past_row : (width y : ℕ) → suc y * width ≡ width + y * width
past_row width y = omega arith

-- each of the rows, by where it begins
pub slice_get-rows_of : (width height y : ℕ) (cells : List CellValue) → y < height
    → slice_get (rows_of width height cells) y ≡ Some (take width (drop (y * width) cells))
slice_get-rows_of width zero y cells inside = absurd (omega arith)
slice_get-rows_of width (suc height) zero cells inside = rw (ap (λ n. take width (drop n cells)) (zero_rows width)) refl
  where
    zero_rows : (width : ℕ) → 0 * width ≡ 0
    zero_rows width = omega arith
slice_get-rows_of width (suc height) (suc y) cells inside =
    slice_get-rows_of width height y (drop width cells) (omega arith)
    ∙ ap (λ (row : List CellValue). Some (take width row)) (drop-drop (y * width) width cells ∙ ap (λ n. drop n cells) (sym (past_row width y)))

-- there are as many rows as are asked for
pub length-rows_of : (width height : ℕ) (cells : List CellValue) → length (rows_of width height cells) ≡ height
length-rows_of width zero cells = refl
length-rows_of width (suc height) cells = ap suc (length-rows_of width height (drop width cells))

-- each row has the width
pub widths-rows_of : (width height : ℕ) (cells : List CellValue) → length cells ≡ width * height
    → All (λ row. length row ≡ width) (rows_of width height cells)
widths-rows_of width zero cells area = All-nil (λ row. length row ≡ width)
widths-rows_of width (suc height) cells area =
    All-cons (λ row. length row ≡ width) (take width cells) (rows_of width height (drop width cells))
    (length-take-le width cells (omega arith))
    (widths-rows_of width height (drop width cells) (length-drop width cells ∙ omega arith))

-- equal cells make equal rows
pub rows_of-replicate : (width height : ℕ) (fill : CellValue) → rows_of width height (replicate (width * height) fill) ≡ replicate height (replicate width fill)
rows_of-replicate width zero fill = refl
rows_of-replicate width (suc height) fill =
    let front = replicate width fill in
    let back = replicate (width * height) fill in
    let more : width * suc height ≡ width + width * height = omega arith in
    let split : replicate (width * suc height) fill ≡ front ++ back =
    ap (λ n. replicate n fill) more ∙ sym (replicate-append-replicate width (width * height) fill) in
    ap₂ (λ row rest. row ∷ rows_of width height rest)
    (ap (take width) split ∙ take_at front back width (length-replicate width fill))
    (ap (drop width) split ∙ drop_at front back width (length-replicate width fill))
    ∙ ap (λ rows. front ∷ rows) (rows_of-replicate width height fill)

-- a first row before the others
rows_of-append : (width height : ℕ) (row rest : List CellValue) → length row ≡ width → rows_of width (suc height) (row ++ rest) ≡ row ∷ rows_of width height rest
rows_of-append width height row rest wide =
    ap₂ (λ first others. first ∷ rows_of width height others) (take_at row rest width wide) (drop_at row rest width wide)

-- a change of the cells of one row changes that row
pub rows_of-changed : (width height y : ℕ) (cells row : List CellValue) (change : List CellValue → List CellValue)
    → y < height → length cells ≡ width * height → length row ≡ width → change (take width (drop (y * width) cells)) ≡ row
    → rows_of width height (take (y * width) cells ++ (row ++ drop (y * width + width) cells)) ≡ changed_at y change (rows_of width height cells)
rows_of-changed width zero y cells row change inside area wide is = absurd (omega arith)
rows_of-changed width (suc height) zero cells row change inside area wide is =
    let none : 0 * width ≡ 0 = omega arith in
    let past : 0 * width + width ≡ width = omega arith in
    ap₂ (λ n m. rows_of width (suc height) (take n cells ++ (row ++ drop m cells))) none past
    ∙ rows_of-append width height row (drop width cells) wide
    ∙ ap (λ first. first ∷ rows_of width height (drop width cells)) (sym is ∙ ap (λ n. change (take width (drop n cells))) none)
rows_of-changed width (suc height) (suc y) cells row change inside area wide is =
    let first = take width cells in
    let rest = drop width cells in
    let start = past_row width y in
    let past : suc y * width + width ≡ width + (y * width + width) = omega (arith, start) in
    let behind : drop (suc y * width + width) cells ≡ drop (y * width + width) rest = ap (λ n. drop n cells) past ∙ sym (drop-drop (y * width + width) width cells) in
    let before : take (suc y * width) cells ≡ first ++ take (y * width) rest = ap (λ n. take n cells) start ∙ take-add width (y * width) cells in
    let here : drop (suc y * width) cells ≡ drop (y * width) rest = ap (λ n. drop n cells) start ∙ sym (drop-drop (y * width) width cells) in
    let first_wide : length first ≡ width = length-take-le width cells (omega arith) in
    let rest_area : length rest ≡ width * height = length-drop width cells ∙ omega arith in
    ap₂ (λ front back. rows_of width (suc height) (front ++ (row ++ back))) before behind
    ∙ ap (rows_of width (suc height)) (append_assoc first (take (y * width) rest) (row ++ drop (y * width + width) rest))
    ∙ rows_of-append width height first _ first_wide
    ∙ ap (λ rows. first ∷ rows) (rows_of-changed width height y rest row change (omega arith) rest_area wide (ap (λ l. change (take width l)) (sym here) ∙ is))

-- what the kept cells tell of the grid
pub IsGrid-kept : (size : Size) (cells : List CellValue) → IsArray size cells → IsGrid (record { size = size; rows = rows_of size.width size.height cells })
IsGrid-kept size cells kept = record {
  height = length-rows_of size.width size.height cells;
  width = widths-rows_of size.width size.height cells kept.area;
  formed = kept.formed;
}

-- a row ends where all rows end, or before
row_inside : (width height y : ℕ) → y < height → y * width + width ≤ width * height
row_inside width zero y inside = absurd (omega arith)
row_inside width (suc height) zero inside = omega arith
row_inside width (suc height) (suc y) inside = let below = row_inside width height y (omega arith) in omega (arith, below)

past_back : (all start width : ℕ) → start + width ≤ all → start + (width + (all - (start + width))) ≡ all
past_back all start width inside = omega arith

-- what holds of all rows holds of one
All-row : (y : ℕ) (rows : List (List CellValue)) (row : List CellValue) → slice_get rows y ≡ Some row → All IsWellFormed rows → IsWellFormed row
All-row y [] row is all = cc
All-row zero (first ∷ rows) row is all = let same : first ≡ row = cc in subst IsWellFormed same (All-head IsWellFormed first rows all)
All-row (suc y) (first ∷ rows) row is all = All-row y rows row is (All-tail IsWellFormed first rows all)

-- rows stay well formed where one of them is changed into well-formed cells
pub All-changed_at : (P : List CellValue → Type 0) (change : List CellValue → List CellValue) (y : ℕ) (rows : List (List CellValue)) (row : List CellValue)
    → slice_get rows y ≡ Some row → P (change row) → All P rows → All P (changed_at y change rows)
All-changed_at P change y [] row is kept all = All-nil P
All-changed_at P change zero (first ∷ rows) row is kept all = All-cons P _ rows (subst (λ r. P (change r)) (Some-same row first (sym is)) kept) (All-tail P first rows all)
  where
    Some-same : (a b : List CellValue) → ◌≡◌ {A = Option (List CellValue)} (Some a) (Some b) → a ≡ b
    Some-same a b same = cc
All-changed_at P change (suc y) (first ∷ rows) row is kept all =
    All-cons P first _ (All-head P first rows all) (All-changed_at P change y rows row is kept (All-tail P first rows all))

module _ (size : Size) (cells new : List CellValue) (x y : ℕ) (kept : IsArray size cells) (inside : y < size.height) (fits : x + length new ≤ size.width) where
  start_inside : y * size.width + size.width ≤ length cells
  start_inside = subst (λ n. y * size.width + size.width ≤ n) (sym kept.area) (row_inside size.width size.height y inside)

  pub row_length : length (take size.width (drop (y * size.width) cells)) ≡ size.width
  row_length = length-take-le size.width _ (rw (length-drop (y * size.width) cells) (omega (arith, start_inside)))

  new_length : length (laid x new (take size.width (drop (y * size.width) cells))) ≡ size.width
  new_length = length-laid x new _ (rw row_length fits) ∙ row_length

  -- the rows are the old ones but the one over which cells were laid
  pub rows_of-laid : rows_of size.width size.height (take (y * size.width) cells ++ (laid x new (take size.width (drop (y * size.width) cells)) ++ drop (y * size.width + size.width) cells))
      ≡ changed_at y (laid x new) (rows_of size.width size.height cells)
  rows_of-laid = rows_of-changed size.width size.height y cells _ (laid x new) inside kept.area new_length refl

  -- the cells stay those of a grid
  pub IsArray-laid : IsWellFormed new → IsArray size (take (y * size.width) cells ++ (laid x new (take size.width (drop (y * size.width) cells)) ++ drop (y * size.width + size.width) cells))
  IsArray-laid formed = record {
    area =
        length-append (take (y * size.width) cells) _
        ∙ ap₂ ◌+◌ (length-take-le (y * size.width) cells (omega (arith, start_inside)))
        (length-append (laid x new (take size.width (drop (y * size.width) cells))) _ ∙ ap₂ ◌+◌ new_length (length-drop (y * size.width + size.width) cells))
        ∙ past_back (length cells) (y * size.width) size.width start_inside
        ∙ kept.area;
    formed = rw rows_of-laid (All-changed_at IsWellFormed (laid x new) y _ _ (slice_get-rows_of size.width size.height y cells inside)
        (IsWellFormed-laid x new _ formed (All-row y _ _ (slice_get-rows_of size.width size.height y cells inside) kept.formed)) kept.formed);
  }

narrow_own : (cell : CellValue) (is_tail : Bool) → cell.tail ≡ is_tail → IsCell cell → cell.width ≡ 1 → IsOfItsText cell
narrow_own cell true is known narrow = let tail_width = ap (λ (c : CellValue). c.width) (known.tail is) in absurd (omega (arith, tail_width, narrow))
narrow_own cell false is known narrow = known.text is

IsWellFormed-replicate : (n : ℕ) (cell : CellValue) → IsOfItsText cell → nat_lt 1 cell.width ≡ false → IsWellFormed (replicate n cell)
IsWellFormed-replicate zero cell own narrow = tt
IsWellFormed-replicate (suc n) cell own narrow = rw narrow (own, IsWellFormed-replicate n cell own narrow)

-- one narrow cell everywhere makes a grid
pub IsArray-filled : (size : Size) (fill : CellValue) → IsCell fill → fill.width ≡ 1 → IsArray size (replicate (size.width * size.height) fill)
IsArray-filled size fill known narrow = record {
  area = length-replicate (size.width * size.height) fill;
  formed = rw (rows_of-replicate size.width size.height fill)
      (All-replicate IsWellFormed size.height (replicate size.width fill) (IsWellFormed-replicate size.width fill (narrow_own fill fill.tail refl known narrow) (ap (λ w. nat_lt 1 w) narrow)));
}

-- ---- a row of another grid

module _ (size : Size) (cells from : List CellValue) (y : ℕ) (kept : IsArray size cells) (kept_from : IsArray size from) (inside : y < size.height) where
  abbrev pub row_from : List CellValue
  row_from = take size.width (drop (y * size.width) from)

  row_inside_from : y * size.width + size.width ≤ length from
  row_inside_from = subst (λ n. y * size.width + size.width ≤ n) (sym kept_from.area) (row_inside size.width size.height y inside)

  row_inside_here : y * size.width + size.width ≤ length cells
  row_inside_here = subst (λ n. y * size.width + size.width ≤ n) (sym kept.area) (row_inside size.width size.height y inside)

  from_length : length row_from ≡ size.width
  from_length = length-take-le size.width _ (rw (length-drop (y * size.width) from) (omega (arith, row_inside_from)))

  -- the row that is got
  abbrev pub got : List CellValue → List CellValue
  got row = unwrap_or (slice_get (rows_of size.width size.height from) y) row

  got_is : (row : List CellValue) → got row ≡ row_from
  got_is row = ap (λ found. unwrap_or found row) (slice_get-rows_of size.width size.height y from inside)

  -- the rows are the old ones but that one
  pub rows_of-taken : rows_of size.width size.height (take (y * size.width) cells ++ (row_from ++ drop (y * size.width + size.width) cells))
      ≡ changed_at y got (rows_of size.width size.height cells)
  rows_of-taken = rows_of-changed size.width size.height y cells row_from got inside kept.area from_length (got_is _)

  -- the cells stay those of a grid
  pub IsArray-taken : IsArray size (take (y * size.width) cells ++ (row_from ++ drop (y * size.width + size.width) cells))
  IsArray-taken = record {
    area =
        length-append (take (y * size.width) cells) _
        ∙ ap₂ ◌+◌ (length-take-le (y * size.width) cells (omega (arith, row_inside_here)))
        (length-append row_from _ ∙ ap₂ ◌+◌ from_length (length-drop (y * size.width + size.width) cells))
        ∙ past_back (length cells) (y * size.width) size.width row_inside_here
        ∙ kept.area;
    formed = rw rows_of-taken (All-changed_at IsWellFormed got y _ _ (slice_get-rows_of size.width size.height y cells inside)
        (subst IsWellFormed (sym (got_is _)) (All-row y _ _ (slice_get-rows_of size.width size.height y from inside) kept_from.formed)) kept.formed);
  }

-- the grid of these cells
abbrev pub grid_of : Size → List CellValue → GridValue
grid_of size cells = record { size = size; rows = rows_of size.width size.height cells }

pub IsArray-same : (size size_now : Size) (cells : List CellValue) → size_now ≡ size → IsArray size cells → IsArray size_now cells
IsArray-same size size_now cells same kept = subst (λ s. IsArray s cells) (sym same) kept
