-- The one region that has the cells of two others.
use Rattle.std.proofs.Common.{◌≡◌, ℕ, ◌<◌, ◌==◌, ◌||◌, inl, inr, arith, ℤ, pos, negsuc, Bool, true, false, refl, if◌then◌else◌}
use Rattle.std.specs.Prelude.{◌+ℤ◌, ◌-ℤ◌, ◌<ℤ◌, ◌↔◌}
use Rattle.std.specs.Int.{int_max, int_min}
use Rattle.std.proofs.lemmas.Bool.{or_cases, eqb-true}
use Rattle.std.proofs.lemmas.Bool.Decides.{nat_tests}
use Rattle.std.proofs.lemmas.Int.{ints, clamps}
use Rattle.tx_geom.specs.Region.{IsAmong, Holds, nothing_at}
use Rattle.tx_geom.specs.declared.places.Offset.{Offset}
use Rattle.tx_geom.specs.declared.places.Region.{Region}
use Rattle.tx_layout.specs.Sides.{count_of}
use Rattle.tx_scroll.specs.Clip.{common, common_columns, common_rows, overlap, clipped}

-- ---- runs of columns or rows

-- what a number comes to as a count
count_is : (z : ℤ) → 0 < count_of z → z ≡ pos (count_of z)
count_is (pos n) some = refl
count_is (negsuc n) some = absurd (omega arith)

some_count : (z : ℤ) → pos 0 <ℤ z → 0 < count_of z
some_count (pos n) some = omega (arith, ints)
some_count (negsuc n) some = absurd (omega (arith, ints))

-- a run that has what two others have in common
abbrev HasCommon : ℤ → ℕ → ℤ → ℕ → ℤ → ℕ → Type 0
HasCommon a m b n r k = (z : ℤ) → IsAmong r k z ↔ (IsAmong a m z × IsAmong b n z)

-- the first one that is in both
first_of_both : (a b : ℤ) (m n : ℕ) → 0 < common a m b n → IsAmong a m (int_max a b) × IsAmong b n (int_max a b)
first_of_both a b m n some =
    let e : (int_min (a +ℤ pos m) (b +ℤ pos n) -ℤ int_max a b) ≡ pos (common a m b n) = count_is _ some in (
      record { from_on = omega (arith, ints, clamps); before = omega (arith, ints, clamps) },
      record { from_on = omega (arith, ints, clamps); before = omega (arith, ints, clamps) },
    )

-- where some number is in both, they have some in common
in_both : (a b : ℤ) (m n : ℕ) (z : ℤ) → IsAmong a m z → IsAmong b n z → 0 < common a m b n
in_both a b m n z p q = some_count (int_min (a +ℤ pos m) (b +ℤ pos n) -ℤ int_max a b) (omega (arith, ints, clamps))

run_is : (a b r : ℤ) (m n k : ℕ) → 0 < common a m b n → HasCommon a m b n r k → (r ≡ int_max a b) × (k ≡ common a m b n)
run_is a b r m n k some has =
    let e : (int_min (a +ℤ pos m) (b +ℤ pos n) -ℤ int_max a b) ≡ pos (common a m b n) = count_is _ some in
    let first : IsAmong r k (int_max a b) = (has (int_max a b)).1 (first_of_both a b m n some) in
    let start : IsAmong a m r × IsAmong b n r = (has r).0 (record { from_on = omega (arith, ints); before = omega (arith, ints) }) in
    let at_start : r ≡ int_max a b = omega (arith, ints, clamps, start.0.from_on, start.1.from_on) in
    let last : IsAmong a m (r +ℤ pos k -ℤ pos 1) × IsAmong b n (r +ℤ pos k -ℤ pos 1) =
    (has (r +ℤ pos k -ℤ pos 1)).0 (record { from_on = omega (arith, ints); before = omega (arith, ints) }) in
    let end : IsAmong r k (int_max a b +ℤ pos (common a m b n) -ℤ pos 1) =
    (has (int_max a b +ℤ pos (common a m b n) -ℤ pos 1)).1 (
      record { from_on = omega (arith, ints, clamps); before = omega (arith, ints, clamps) },
      record { from_on = omega (arith, ints, clamps); before = omega (arith, ints, clamps) },
    ) in
    (at_start, omega (arith, ints, clamps, last.0.before, last.1.before, end.before))

-- ---- regions

-- the columns of a region that has the cells of two others, where they have a row in common
columns_of : (s o r : Region) → ((p : Offset) → Holds r p ↔ (Holds s p × Holds o p)) → 0 < common_columns s o → 0 < common_rows s o
    → HasCommon s.x s.width o.x o.width r.x r.width
columns_of s o r cells some_columns some_rows z =
    let row = first_of_both s.y o.y s.height o.height some_rows in
    let column = first_of_both s.x o.x s.width o.width some_columns in
    let corner : Holds r (record { x = int_max s.x o.x; y = int_max s.y o.y }) =
    (cells (record { x = int_max s.x o.x; y = int_max s.y o.y })).1 (record { column = column.0; row = row.0 }, record { column = column.1; row = row.1 }) in (
      λ h.
          let both = (cells (record { x = z; y = int_max s.y o.y })).0 (record { column = h; row = corner.row }) in
          (both.0.column, both.1.column),
      λ h. ((cells (record { x = z; y = int_max s.y o.y })).1 (record { column = h.0; row = row.0 }, record { column = h.1; row = row.1 })).column,
    )

rows_of : (s o r : Region) → ((p : Offset) → Holds r p ↔ (Holds s p × Holds o p)) → 0 < common_columns s o → 0 < common_rows s o
    → HasCommon s.y s.height o.y o.height r.y r.height
rows_of s o r cells some_columns some_rows z =
    let row = first_of_both s.y o.y s.height o.height some_rows in
    let column = first_of_both s.x o.x s.width o.width some_columns in
    let corner : Holds r (record { x = int_max s.x o.x; y = int_max s.y o.y }) =
    (cells (record { x = int_max s.x o.x; y = int_max s.y o.y })).1 (record { column = column.0; row = row.0 }, record { column = column.1; row = row.1 }) in (
      λ h.
          let both = (cells (record { x = int_max s.x o.x; y = z })).0 (record { column = corner.column; row = h }) in
          (both.0.row, both.1.row),
      λ h. ((cells (record { x = int_max s.x o.x; y = z })).1 (record { column = column.0; row = h.0 }, record { column = column.1; row = h.1 })).row,
    )

-- two regions without a column, or without a row, in common have no cell in common
apart : (s o : Region) → ((common_columns s o == 0) || (common_rows s o == 0)) ≡ true → (p : Offset) → Holds s p → ¬ Holds o p
apart s o none p hs ho =
    let columns : 0 < common_columns s o = in_both s.x o.x s.width o.width p.x hs.column ho.column in
    let rows : 0 < common_rows s o = in_both s.y o.y s.height o.height p.y hs.row ho.row in
    elim (or_cases (common_columns s o == 0) (common_rows s o == 0) none) [
      | inl e ↦ let z = eqb-true (common_columns s o) 0 e in omega arith
      | inr e ↦ let z = eqb-true (common_rows s o) 0 e in omega arith
    ]

same_region : (r : Region) (x y : ℤ) (w h : ℕ) → r.x ≡ x → r.y ≡ y → r.width ≡ w → r.height ≡ h → r ≡ record { x = x; y = y; width = w; height = h }
same_region r x y w h p q u v = rw (← p, ← q, ← u, ← v) refl

clipped_if : (s o r : Region) → ((p : Offset) → Holds r p ↔ (Holds s p × Holds o p)) → (((p : Offset) → Holds s p → ¬ Holds o p) → r ≡ nothing_at s)
    → (none : Bool) → ((common_columns s o == 0) || (common_rows s o == 0)) ≡ none → r ≡ (if none then nothing_at s else overlap s o)
clipped_if s o r cells nothing true is = nothing (apart s o is)
clipped_if s o r cells nothing false is =
    let some_columns : 0 < common_columns s o = grind (arith, nat_tests) in
    let some_rows : 0 < common_rows s o = grind (arith, nat_tests) in
    let columns = run_is s.x o.x r.x s.width o.width r.width some_columns (columns_of s o r cells some_columns some_rows) in
    let rows = run_is s.y o.y r.y s.height o.height r.height some_rows (rows_of s o r cells some_columns some_rows) in
    same_region r _ _ _ _ columns.0 rows.0 columns.1 rows.1

pub clipped-is : (s o r : Region) → ((p : Offset) → Holds r p ↔ (Holds s p × Holds o p)) → (((p : Offset) → Holds s p → ¬ Holds o p) → r ≡ nothing_at s)
    → r ≡ clipped s o
clipped-is s o r cells nothing = clipped_if s o r cells nothing _ refl
