-- What holds of all places of a list of spans, by recursion on those before.
use Rattle.std.proofs.Common.{◌≡◌, ℕ, zero, suc, ◌+◌, ◌<◌, ◌≤◌, max, List, [], ◌∷◌, ◌++◌, length, take, get_or, Option, Some, None, IsSome, All, sum_by, refl, sym, ap, ◌∙◌, subst, append_assoc, append-nil, inl, inr, arith}
use Rattle.std.proofs.lemmas.Bool.{cases_lt}
use Rattle.std.proofs.lemmas.List.{get_or-take, length-take-le}
use Rattle.std.proofs.lemmas.List.Elements.{All-nil, All-cons}
use Rattle.std.proofs.lemmas.List.Sums.{sum_by-cons}
use Rattle.tx_grid.specs.declared.places.Cells.{Cells}
use Rattle.tx_grid.specs.declared.places.Spans.{Spans}
use Rattle.tx_grid.specs.Standing.{cut, SharesNoCell, StandsAt, first_place, standing, standing_after, rows_used}
use Rattle.tx_grid.specs.Laws.{EachStandsFirst, NoneShareCells, AllArePlaced}
use Rattle.tx_grid.proofs.Deciding.{IsApartFrom}
use Rattle.tx_grid.proofs.FirstPlace.{first_stands, not_lower, has_place}

pub length-standing : (columns : ℕ) (rows : Option ℕ) (before : List (Option Cells)) (spans : List Spans)
    → length (standing_after columns rows before spans) ≡ length spans
length-standing columns rows before [] = refl
length-standing columns rows before (span ∷ spans) = ap suc (length-standing columns rows (before ++ first_place columns rows before (cut columns rows span) ∷ []) spans)

each_after : (columns : ℕ) (rows : Option ℕ) (before : List (Option Cells)) (spans : List Spans) (i : ℕ) (d : Spans) → i < length spans
    → StandsAt columns rows (before ++ take i (standing_after columns rows before spans)) (cut columns rows (get_or spans i d)) (get_or (standing_after columns rows before spans) i None)
each_after columns rows before [] i d h = absurd (omega arith)
each_after columns rows before (span ∷ spans) zero d h =
    subst (λ b. StandsAt columns rows b (cut columns rows span) (first_place columns rows before (cut columns rows span))) (sym (append-nil before))
    (first_stands columns rows before (cut columns rows span))
each_after columns rows before (span ∷ spans) (suc i) d h =
    let place = first_place columns rows before (cut columns rows span) in
    let rest = standing_after columns rows (before ++ place ∷ []) spans in
    subst (λ b. StandsAt columns rows b (cut columns rows (get_or spans i d)) (get_or rest i None)) (append_assoc before (place ∷ []) (take i rest))
    (each_after columns rows (before ++ place ∷ []) spans i d (omega arith))

pub each_stands_first : EachStandsFirst
each_stands_first spans columns rows i span h = each_after columns rows [] spans i span h

-- a place that is none where the list has ended
past : {A : Type 0} (xs : List (Option A)) (i : ℕ) (x : A) → get_or xs i None ≡ Some x → i < length xs
past [] i x h = cc
past (y ∷ ys) zero x h = omega arith
past (y ∷ ys) (suc i) x h = omega (arith, past ys i x h)

later_shares_none : (spans : List Spans) (columns : ℕ) (rows : Option ℕ) (i j : ℕ) (a b : Cells)
    → get_or (standing spans columns rows) i None ≡ Some a → get_or (standing spans columns rows) j None ≡ Some b → i < j → SharesNoCell b a
later_shares_none spans columns rows i j a b at_i at_j l =
    let all = standing spans columns rows in
    let inside = past all j b at_j in
    let len = length-standing columns rows [] spans in
    let stands = subst (StandsAt columns rows (take j all) (cut columns rows (get_or spans j (record { columns = 0; rows = 0 })))) at_j
    (each_stands_first spans columns rows j (record { columns = 0; rows = 0 }) (omega (arith, inside, len))) in
    subst (IsApartFrom b) (get_or-take j all i None l ∙ at_i)
    (stands.fits.free i None (omega (arith, l, length-take-le j all (omega (arith, inside)))))

pub none_share_cells : NoneShareCells
none_share_cells spans columns rows i j a b at_i at_j ne =
    elim (cases_lt i j) [
      | inl l ↦ (λ x y p q. later_shares_none spans columns rows i j a b at_i at_j l x y q p)
      | inr l ↦ later_shares_none spans columns rows j i b a at_j at_i (omega (arith, l, ne))
    ]

-- ---- how many rows are used

pub rows_used-push : (before : List (Option Cells)) (place : Option Cells) → rows_used (before ++ place ∷ []) ≡ max (rows_used before) (rows_used (place ∷ []))
rows_used-push [] None = refl
rows_used-push [] (Some cells) = omega arith
rows_used-push (None ∷ before) place = rows_used-push before place
rows_used-push (Some cells ∷ before) place = omega (arith, rows_used-push before place)

-- at most the rows of its span are used more by a child
pub rows_used-stands : (columns : ℕ) (rows : Option ℕ) (before : List (Option Cells)) (span : Spans) (place : Option Cells)
    → StandsAt columns rows before span place → rows_used (before ++ place ∷ []) ≤ rows_used before + span.rows
rows_used-stands columns rows before span None h = omega (arith, rows_used-push before None)
rows_used-stands columns rows before span (Some place) h =
    omega (arith, rows_used-push before (Some place), not_lower columns rows before span place h, ap (λ p. p.rows) h.of_span)

-- ---- where no rows are given

some_stands : (columns : ℕ) (before : List (Option Cells)) (span : Spans) → span.columns ≤ columns → (place : Option Cells)
    → StandsAt columns None before span place → IsSome place
some_stands columns before span l (Some place) h = refl
some_stands columns before span l None h = absurd (has_place columns before span l h)

all_placed : (columns : ℕ) (before : List (Option Cells)) (spans : List Spans) → All IsSome (standing_after columns None before spans)
all_placed columns before [] = All-nil IsSome
all_placed columns before (span ∷ spans) =
    All-cons IsSome _ _ (some_stands columns before (cut columns None span) (omega arith) _ (first_stands columns None before (cut columns None span)))
    (all_placed columns (before ++ first_place columns None before (cut columns None span) ∷ []) spans)

rows_after : (columns : ℕ) (before : List (Option Cells)) (spans : List Spans)
    → rows_used (before ++ standing_after columns None before spans) ≤ rows_used before + sum_by (λ span. span.rows) spans
rows_after columns before [] = omega (arith, ap rows_used (append-nil before))
rows_after columns before (span ∷ spans) =
    let place = first_place columns None before (cut columns None span) in
    omega (
      arith,
      sum_by-cons (λ span. span.rows) span spans,
      rows_after columns (before ++ place ∷ []) spans,
      ap rows_used (append_assoc before (place ∷ []) (standing_after columns None (before ++ place ∷ []) spans)),
      rows_used-stands columns None before (cut columns None span) place (first_stands columns None before (cut columns None span)),
    )

pub all_are_placed : AllArePlaced
all_are_placed spans columns = (all_placed columns [] spans, omega (arith, rows_after columns [] spans))
