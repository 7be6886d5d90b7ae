-- Blanks at the ends of a line, and how many cells fit.
use Rattle.std.proofs.Common.{◌≡◌, ◌+◌, ◌-◌, ◌<◌, ◌≤◌, ℕ, zero, suc, List, [], ◌∷◌, ◌++◌, length, take, drop, get_or, Bool, true, false, ◌&&◌, if◌then◌else◌, refl, sym, ap, ap₂, subst, ◌∙◌, arith, length-append, ⊎_elim}
use Rattle.std.proofs.Math.Seq.{take-suc, drop-cons, length-take-le, take_all}
use Rattle.std.proofs.Math.ListN.{take-append-drop}
use Rattle.std.proofs.lemmas.Bool.{cases_lt, leb-true, ne_eqb, le-leb}
use Rattle.std.proofs.lemmas.List.Sums.{sum_by-cons}
use Rattle.std.specs.Prelude.{Some, None, nat_le, ◌==◌}
use Rattle.tx_cell.specs.Cell.{CellValue}
use Rattle.tx_cell.specs.Wrap.{is_blank, columns, fit_count, later_blank, last_blank, trimmed, broken_at, next_line}

trimmed-blank : (cells : List CellValue) (cell : CellValue) → is_blank cell ≡ true → trimmed (cells ++ cell ∷ []) ≡ trimmed cells
trimmed-blank [] cell is = rw is refl
trimmed-blank (first ∷ cells) cell is = rw (trimmed-blank cells cell is) refl

some_trimmed : (n : ℕ) (first : Bool) (cells : List CellValue) (cell : CellValue) → n ≡ length cells + 1 → (first && (n == 0)) ≡ false
some_trimmed n true cells cell is = ne_eqb n 0 (λ none. let impossible : n ≡ 0 = none in absurd (omega arith))
some_trimmed n false cells cell is = refl

trimmed-other : (cells : List CellValue) (cell : CellValue) → is_blank cell ≡ false → trimmed (cells ++ cell ∷ []) ≡ cells ++ cell ∷ []
trimmed-other [] cell is = rw is refl
trimmed-other (first ∷ cells) cell is =
    let rest = trimmed-other cells cell is in
    let len : length (trimmed (cells ++ cell ∷ [])) ≡ length cells + 1 = ap length rest ∙ length-append cells (cell ∷ []) in
    let some = some_trimmed (length (trimmed (cells ++ cell ∷ []))) (is_blank first) cells cell len in
    rw some (ap (λ more. first ∷ more) rest)

-- a blank at the end is no matter
pub trimmed-step : (cells : List CellValue) (end : ℕ) (cell : CellValue) → 0 < end → end ≤ length cells → cell ≡ get_or cells (end - 1) cell → is_blank cell ≡ true
    → trimmed (take (end - 1) cells) ≡ trimmed (take end cells)
trimmed-step cells zero cell some inside is blank = absurd (omega arith)
trimmed-step cells (suc end) cell some inside is blank =
    let less : suc end - 1 ≡ end = omega arith in
    let here : cell ≡ get_or cells end cell = is ∙ ap (λ n. get_or cells n cell) less in
    ap (λ n. trimmed (take n cells)) less
    ∙ sym (trimmed-blank (take end cells) cell blank)
    ∙ ap (λ (c : CellValue). trimmed (take end cells ++ c ∷ [])) here
    ∙ ap trimmed (sym (take-suc cells end cell (omega arith)))

-- cells that end with no blank are trimmed
pub trimmed-done : (cells : List CellValue) (end : ℕ) (cell : CellValue) → 0 < end → end ≤ length cells → cell ≡ get_or cells (end - 1) cell → is_blank cell ≡ false
    → trimmed (take end cells) ≡ take end cells
trimmed-done cells zero cell some inside is other = absurd (omega arith)
trimmed-done cells (suc end) cell some inside is other =
    let less : suc end - 1 ≡ end = omega arith in
    let here : cell ≡ get_or cells end cell = is ∙ ap (λ n. get_or cells n cell) less in
    let last : take (suc end) cells ≡ take end cells ++ cell ∷ [] = take-suc cells end cell (omega arith) ∙ ap (λ (c : CellValue). take end cells ++ c ∷ []) (sym here) in
    ap trimmed last ∙ trimmed-other (take end cells) cell other ∙ sym last

last_blank-append : (front back : List CellValue) (index : ℕ) → last_blank back ≡ Some index → last_blank (front ++ back) ≡ Some (length front + index)
last_blank-append [] back index is = is ∙ ap (λ (n : ℕ). Some n) (omega arith)
last_blank-append (first ∷ front) back index is =
    ap (later_blank (is_blank first)) (last_blank-append front back index is) ∙ ap (λ (n : ℕ). Some n) (omega arith)

-- a blank behind which there is none
pub last_blank-found : (cells : List CellValue) (index : ℕ) (cell : CellValue) → index < length cells → cell ≡ get_or cells index cell → is_blank cell ≡ true
    → last_blank (drop (suc index) cells) ≡ None → last_blank cells ≡ Some index
last_blank-found cells index cell inside is blank none =
    let here : drop index cells ≡ cell ∷ drop (suc index) cells = drop-cons cells index cell inside ∙ ap (λ (c : CellValue). c ∷ drop (suc index) cells) (sym is) in
    let first : last_blank (drop index cells) ≡ Some 0 = ap last_blank here ∙ ap₂ later_blank blank none in
    let at = last_blank-append (take index cells) (drop index cells) 0 first in
    ap last_blank (sym (take-append-drop index cells)) ∙ at ∙ ap (λ (n : ℕ). Some n) (ap (λ n. n + 0) (length-take-le index cells (omega arith)) ∙ omega arith)

columns-cons : (cell : CellValue) (cells : List CellValue) → columns (cell ∷ cells) ≡ cell.width + columns cells
columns-cons cell cells = sum_by-cons (λ (c : CellValue). c.width) cell cells

fit_count-le-by : (fits : Bool) (more n : ℕ) → more ≤ n → (if fits then suc more else 0) ≤ suc n
fit_count-le-by true more n less = omega arith
fit_count-le-by false more n less = omega arith

pub fit_count-le : (room : ℕ) (cells : List CellValue) → fit_count room cells ≤ length cells
fit_count-le room [] = omega arith
fit_count-le room (cell ∷ cells) = fit_count-le-by (nat_le cell.width room) (fit_count (room - cell.width) cells) (length cells) (fit_count-le (room - cell.width) cells)

columns-fit-by : (fits : Bool) (room : ℕ) (cell : CellValue) (cells : List CellValue) → nat_le cell.width room ≡ fits
    → columns (take (fit_count (room - cell.width) cells) cells) ≤ room - cell.width
    → columns (take (if fits then suc (fit_count (room - cell.width) cells) else 0) (cell ∷ cells)) ≤ room
columns-fit-by true room cell cells fits rest =
    let small = leb-true cell.width room fits in
    rw (columns-cons cell (take (fit_count (room - cell.width) cells) cells)) (omega (arith, small, rest))
columns-fit-by false room cell cells fits rest = omega arith

-- the cells that fit have no more columns than there are
pub columns-fit : (room : ℕ) (cells : List CellValue) → columns (take (fit_count room cells) cells) ≤ room
columns-fit room [] = omega arith
columns-fit room (cell ∷ cells) = columns-fit-by (nat_le cell.width room) room cell cells refl (columns-fit (room - cell.width) cells)

-- cells whose columns are there all fit
pub fit_count-all : (room : ℕ) (cells : List CellValue) → columns cells ≤ room → fit_count room cells ≡ length cells
fit_count-all room [] fits = refl
fit_count-all room (cell ∷ cells) fits =
    let sum = columns-cons cell cells in
    let first : nat_le cell.width room ≡ true = le-leb cell.width room (omega (arith, sum, fits)) in
    let rest = fit_count-all (room - cell.width) cells (omega (arith, sum, fits)) in
    rw first (ap suc rest)

-- where all cells fit, their columns are there
pub columns-all : (room : ℕ) (cells : List CellValue) → fit_count room cells ≡ length cells → columns cells ≤ room
columns-all room cells all =
    let fit = columns-fit room cells in
    let whole : take (fit_count room cells) cells ≡ cells = take_all _ cells (omega (arith, all)) in
    subst (λ c. columns c ≤ room) whole fit

next_line-by : (fits : Bool) (width : ℕ) (cells : List CellValue) → nat_le (columns cells) width ≡ fits
    → next_line width cells ≡ (if fits then (cells, []) else broken_at (last_blank (take (fit_count width cells) (drop 1 cells))) (fit_count width cells) cells)
next_line-by true width cells fits = rw fits refl
next_line-by false width cells fits = rw fits refl

-- cells that fit are the line
pub next_line-fits : (width : ℕ) (cells : List CellValue) → columns cells ≤ width → next_line width cells ≡ (cells, [])
next_line-fits width cells fits = next_line-by true width cells (le-leb (columns cells) width fits)

leb-above : (a b : ℕ) → b < a → nat_le a b ≡ false
leb-above a b above = by (nat_le a b) refl
  where
    by : (test : Bool) → nat_le a b ≡ test → nat_le a b ≡ false
    by true is = let below = leb-true a b is in absurd (omega (arith, below))
    by false is = is

-- cells that don't fit are broken
pub next_line-breaks : (width : ℕ) (cells : List CellValue) → width < columns cells
    → next_line width cells ≡ broken_at (last_blank (take (fit_count width cells) (drop 1 cells))) (fit_count width cells) cells
next_line-breaks width cells more = next_line-by false width cells (leb-above (columns cells) width more)

-- cells of which not all fit have more columns
pub columns-more : (width : ℕ) (cells : List CellValue) → (fit_count width cells ≡ length cells → ⊥) → width < columns cells
columns-more width cells differ = ⊎_elim (λ more. more) (λ fits. absurd (differ (fit_count-all width cells fits))) (cases_lt width (columns cells))
