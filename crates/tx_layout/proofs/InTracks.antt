-- Children that stand inside a grid stand inside its tracks.
use Rattle.std.proofs.Common.{◌≡◌, ℕ, zero, suc, ◌+◌, ◌<◌, ◌≤◌, subst, refl, List, [], ◌∷◌, length, Option, Some, None, All, arith}
use Rattle.std.specs.Prelude.{IfSome, slice_index_or}
use Rattle.tx_box.specs.declared.items.Span.{Span}
use Rattle.tx_grid.specs.declared.places.Cells.{Cells}
use Rattle.tx_grid.specs.Standing.{IsInside, rows_used}
use Rattle.tx_layout.specs.Grid.{AreInTracks, row_count}

-- a child uses no more rows than all of them
used_by : (places : List (Option Cells)) (k : ℕ) (d : Option Cells) (cells : Cells) → k < length places → slice_index_or places k d ≡ Some cells → cells.row + cells.rows ≤ rows_used places
used_by [] k d cells within is = absurd (omega arith)
used_by (None ∷ places) zero d cells within is = absurd (let h : ⊥ = cc in h)
used_by (Some other ∷ places) zero d cells within is = let e : other ≡ cells = cc in subst (λ (c : Cells). c.row + c.rows ≤ rows_used (Some other ∷ places)) e (omega arith)
used_by (None ∷ places) (suc k) d cells within is = used_by places k d cells (omega arith) is
used_by (Some other ∷ places) (suc k) d cells within is = let rest = used_by places k d cells (omega arith) is in omega arith

in_rows : (given : Option ℕ) (places : List (Option Cells)) (cells : Cells) (limit rows : ℕ) → rows ≡ row_count given places → cells.row + cells.rows ≤ rows_used places → IsInside limit given cells → cells.row + cells.rows ≤ rows
in_rows None places cells limit rows is used h = omega arith
in_rows (Some n) places cells limit rows is used h = let k : cells.row + cells.rows ≤ n = h.in_rows in omega arith

pub in_tracks : (limit : ℕ) (given : Option ℕ) (columns rows : List Span) (places : List (Option Cells)) → length columns ≡ limit → length rows ≡ row_count given places
    → All (λ place. IfSome place (IsInside limit given)) places → All (λ place. IfSome place (AreInTracks columns rows)) places
in_tracks limit given columns rows places wide tall h k d within = at (slice_index_or places k d) refl (h k d within)
  where
    at : (p : Option Cells) → slice_index_or places k d ≡ p → IfSome p (IsInside limit given) → IfSome p (AreInTracks columns rows)
    at None is q = tt
    at (Some cells) is q =
        let a = q.wide in
        let b = q.high in
        let some = a.least in
        let few = a.most in
        let some' = b.least in
        let few' = b.most in
        let inside = q.in_columns in
        record {
          wide = some;
          few_columns = few;
          in_columns = omega arith;
          high = some';
          few_rows = few';
          in_rows = in_rows given places cells limit (length rows) tall (used_by places k d cells within is) q;
        }
