-- The tests of a place decide what they are named for.
use Rattle.std.proofs.Common.{ℕ, ◌+◌, ◌≤◌, ◌⊎◌, min, max, nat_le, List, [], ◌∷◌, Option, Some, None, IfSome, Decides, refl, inl, inr, arith}
use Rattle.std.proofs.lemmas.Bool.{cases_lt}
use Rattle.std.proofs.lemmas.Bool.Decides.{Decides-like, Decides-and, Decides-or, nat_tests}
use Rattle.std.proofs.lemmas.List.Elements.{All-nil, All-cons, All-head, All-tail}
use Rattle.tx_grid.specs.declared.places.Cells.{Cells}
use Rattle.tx_grid.specs.Standing.{SharesNoCell, IsFree, Fits, are_apart, is_free, is_inside, fits}

Decides-le : (a b : ℕ) → Decides (nat_le a b) (a ≤ b)
Decides-le a b = (λ h. grind (arith, nat_tests), λ h. grind (arith, nat_tests))

-- the columns that two have in common end before they begin, or the rows do
abbrev IsCrossed : Cells → Cells → Type 0
IsCrossed a b =
    (min (a.column + a.columns) (b.column + b.columns) ≤ max a.column b.column)
    ⊎ (min (a.row + a.rows) (b.row + b.rows) ≤ max a.row b.row)

shares_none : (a b : Cells) → IsCrossed a b → SharesNoCell a b
shares_none a b (inl h) x y p q = omega (arith, h, p.from_left, p.to_right, q.from_left, q.to_right)
shares_none a b (inr h) x y p q = omega (arith, h, p.from_top, p.to_bottom, q.from_top, q.to_bottom)

crossed : (a b : Cells) → SharesNoCell a b → IsCrossed a b
crossed a b h =
    elim (cases_lt (max a.column b.column) (min (a.column + a.columns) (b.column + b.columns))) [
      | inr l ↦ inl l
      | inl l ↦ elim (cases_lt (max a.row b.row) (min (a.row + a.rows) (b.row + b.rows))) [
        | inr m ↦ inr m
        | inl m ↦
            absurd
            (h (max a.column b.column) (max a.row b.row)
            (record { from_left = omega arith; to_right = omega (arith, l); from_top = omega arith; to_bottom = omega (arith, m) })
            (record { from_left = omega arith; to_right = omega (arith, l); from_top = omega arith; to_bottom = omega (arith, m) }))
      ]
    ]

Decides-apart : (a b : Cells) → Decides (are_apart a b) (SharesNoCell a b)
Decides-apart a b = Decides-like _ (shares_none a b) (crossed a b) (Decides-or _ _ (Decides-le _ _) (Decides-le _ _))

-- what a place shares with one of those before it: no cell
abbrev pub IsApartFrom : Cells → Option Cells → Type 0
IsApartFrom cells other = IfSome other (SharesNoCell cells)

Decides-free : (before : List (Option Cells)) (cells : Cells) → Decides (is_free before cells) (IsFree before cells)
Decides-free [] cells = (λ _. All-nil (IsApartFrom cells), λ _. refl)
Decides-free (None ∷ before) cells =
    Decides-like _ (All-cons (IsApartFrom cells) None before tt) (All-tail (IsApartFrom cells) None before) (Decides-free before cells)
Decides-free (Some other ∷ before) cells =
    Decides-like _ (λ h. All-cons (IsApartFrom cells) (Some other) before h.0 h.1) (λ h. (All-head (IsApartFrom cells) (Some other) before h, All-tail (IsApartFrom cells) (Some other) before h))
    (Decides-and _ _ (Decides-apart cells other) (Decides-free before cells))

Decides-inside : (rows : Option ℕ) (end : ℕ) → Decides (is_inside rows end) (IfSome rows (λ limit. end ≤ limit))
Decides-inside None end = (λ _. tt, λ _. refl)
Decides-inside (Some limit) end = Decides-le end limit

pub Decides-fits : (columns : ℕ) (rows : Option ℕ) (before : List (Option Cells)) (cells : Cells)
    → Decides (fits columns rows before cells) (Fits columns rows before cells)
Decides-fits columns rows before cells =
    Decides-like _ (λ h. record { in_columns = h.0; in_rows = h.1.0; free = h.1.1 }) (λ f. (f.in_columns, (f.in_rows, f.free)))
    (Decides-and _ _ (Decides-le _ _) (Decides-and _ _ (Decides-inside rows _) (Decides-free before cells)))
