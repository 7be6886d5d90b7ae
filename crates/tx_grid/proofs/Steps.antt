-- One child after another: what is kept beside those placed so far.
use Rattle.std.proofs.Common.{◌≡◌, ℕ, suc, ◌+◌, ◌*◌, ◌<◌, ◌≤◌, ◌≢◌, ◌⊎◌, List, [], ◌∷◌, ◌++◌, length, slice_index, slice_set, get_or, get_or-set_other, get_or-set_same, length-set, replicate, drop, drop-cons, add-one, Option, Some, None, IfSome, All, refl, sym, ap, ap₂, subst, ◌∙◌, append_assoc, append-nil, inl, inr, arith}
use Rattle.std.specs.Int.{bit_at}
use Rattle.std.proofs.lemmas.Bool.{cases_lt}
use Rattle.std.proofs.lemmas.List.{get_or_past, get_or-replicate, length-replicate, length-append, drop_all}
use Rattle.std.proofs.lemmas.Nat.Bits.{bit_at-zero}
use Rattle.std.proofs.lemmas.List.Elements.{All-nil, All-push, All-pop}
use Rattle.tx_grid.specs.declared.places.Cells.{Cells}
use Rattle.tx_grid.specs.declared.places.Spans.{Spans}
use Rattle.tx_grid.specs.Standing.{Holds, SharesNoCell, Fits, StandsAt, cells_at, cut, first_place, standing_after, rows_used, AreSpans, IsSpan, IsRowCount, IsInside}
use Rattle.tx_grid.specs.Taken.{Shows, Adds, AddsPlace, FitsOpen, IsFirstOpen, StandsOpen, Knows, FitsInNoRowBefore, IsBoard, span_number}
use Rattle.tx_grid.proofs.FirstPlace.{stands_is_first}
use Rattle.tx_grid.proofs.Open.{past_open, lower}
use Rattle.tx_grid.proofs.Standings.{rows_used-stands}

-- ---- the bits and the children before

free_of : (cells : Cells) (other : Option Cells) → ((x y : ℕ) → Holds cells x y → IfSome other (λ o. Holds o x y → ⊥)) → IfSome other (SharesNoCell cells)
free_of cells None h = tt
free_of cells (Some o) h = λ x y p q. h x y p q

clear_of : (cells : Cells) (other : Option Cells) → IfSome other (SharesNoCell cells) → (x y : ℕ) → Holds cells x y → IfSome other (λ o. Holds o x y → ⊥)
clear_of cells None h x y p = tt
clear_of cells (Some o) h x y p = λ q. h x y p q

module _ (columns : ℕ) (rows : Option ℕ) (taken : List ℕ) (before : List (Option Cells)) (shows : Shows taken before) where
  fits_of_open : (cells : Cells) → FitsOpen columns rows taken cells → Fits columns rows before cells
  fits_of_open cells f = record {
    in_columns = f.in_columns;
    in_rows = f.in_rows;
    free = λ k d l. free_of cells (get_or before k d) (λ x y p. (shows x y).0 (f.are_open x y p) k d l);
  }

  open_of_fits : (cells : Cells) → Fits columns rows before cells → FitsOpen columns rows taken cells
  open_of_fits cells f = record {
    in_columns = f.in_columns;
    in_rows = f.in_rows;
    are_open = λ x y p. (shows x y).1 (λ k d l. clear_of cells (get_or before k d) (f.free k d l) x y p);
  }

  stands_at : (span : Spans) (place : Option Cells) → StandsOpen columns rows taken span place → StandsAt columns rows before span place
  stands_at span (Some place) s = record {
    of_span = s.of_span;
    fits = fits_of_open place s.fits;
    first = λ row column e f. s.first row column e (open_of_fits (cells_at span row column) f);
  }
  stands_at span None s = λ row column f. s row column (open_of_fits (cells_at span row column) f)

abbrev NotHeldBy : ℕ → ℕ → Option Cells → Type 0
NotHeldBy x y other = IfSome other (λ cells. Holds cells x y → ⊥)

shows_more : (old new : List ℕ) (before : List (Option Cells)) (place : Option Cells) → Shows old before → AddsPlace old new place → Shows new (before ++ place ∷ [])
shows_more old new before None shows same x y = (
  λ h. All-push (NotHeldBy x y) before None ((shows x y).0 (ap (λ t. bit_at (slice_index t y) x) (sym same) ∙ h)) tt,
  λ h. ap (λ t. bit_at (slice_index t y) x) same ∙ (shows x y).1 (All-pop (NotHeldBy x y) (before ++ None ∷ []) before (Some None) refl h).0,
)
shows_more old new before (Some cells) shows adds x y = (
  λ h. (let both = (adds x y).0 h in All-push (NotHeldBy x y) before (Some cells) ((shows x y).0 both.0) both.1),
  λ h. (let both = All-pop (NotHeldBy x y) (before ++ Some cells ∷ []) before (Some (Some cells)) refl h in (adds x y).1 ((shows x y).1 both.0, both.1)),
)

-- ---- how far down a span is known to fit nowhere

still_open : (columns : ℕ) (rows : Option ℕ) (old new : List ℕ) (place cells : Cells) → Adds old new place → FitsOpen columns rows new cells → FitsOpen columns rows old cells
still_open columns rows old new place cells adds f = record {
  in_columns = f.in_columns;
  in_rows = f.in_rows;
  are_open = λ x y p. ((adds x y).0 (f.are_open x y p)).0;
}

-- a place begins at the latest below all rows that are kept
open_not_lower : (columns : ℕ) (rows : Option ℕ) (taken : List ℕ) (span : Spans) (place : Cells) → IsFirstOpen columns rows taken span place → place.row ≤ length taken
open_not_lower columns rows taken span place s =
    elim (cases_lt (length taken) place.row) [
      | inr l ↦ l
      | inl l ↦
          (let f = subst (FitsOpen columns rows taken) s.of_span s.fits in
          absurd (s.first (length taken) place.column (inl l) (record {
            in_columns = f.in_columns;
            in_rows = lower rows (length taken) place.row span.rows (omega (arith, l)) f.in_rows;
            are_open = λ x y p. past_open taken x y p.from_top;
          })))
    ]

abbrev spans : ℕ → ℕ → Spans
spans width height = record { columns = width; rows = height }

-- spans with one number are the same
same_span : (a b c d : ℕ) → 1 ≤ b → b ≤ 100 → 1 ≤ d → d ≤ 100
    → ((a ≡ c) × (b ≡ d) × (span_number a b ≡ span_number c d)) ⊎ (span_number a b ≢ span_number c d)
same_span a b c d l m n o =
    elim (cases_lt (span_number a b) (span_number c d)) [
      | inl p ↦ inr (λ e. omega (arith, p, e))
      | inr p ↦ elim (cases_lt (span_number c d) (span_number a b)) [
        | inl q ↦ inr (λ e. omega (arith, q, e))
        | inr q ↦ inl (omega (arith, l, m, n, o, p, q), omega (arith, l, m, n, o, p, q), omega (arith, p, q))
      ]
    ]

-- a row for one span more
knows_set : (columns : ℕ) (rows : Option ℕ) (taken known : List ℕ) (span : Spans) (row : ℕ) → AreSpans span → span_number span.columns span.rows < length known
    → ((r c : ℕ) → r < row → FitsOpen columns rows taken (cells_at span r c) → ⊥) → Knows columns rows taken known
    → Knows columns rows taken (slice_set known (span_number span.columns span.rows) row)
knows_set columns rows taken known span row is_span w none knows width height r c within l f =
    elim (same_span width height span.columns span.rows within.high within.most is_span.rows.least is_span.rows.most) [
      | inl same ↦
          none r c
          (omega (arith, l, get_or-set_same known (span_number span.columns span.rows) row 0 w, ap (λ n. slice_index (slice_set known (span_number span.columns span.rows) row) n) same.2))
          (subst (λ s. FitsOpen columns rows taken (cells_at s r c)) (ap₂ (λ a b. spans a b) same.0 same.1) f)
      | inr other ↦ knows width height r c within (omega (arith, l, get_or-set_other known (span_number span.columns span.rows) (span_number width height) row 0 other)) f
    ]

-- ---- the board

pub number_within : (columns : ℕ) (rows : Option ℕ) (taken known : List ℕ) (span : Spans) → IsBoard columns rows taken known → AreSpans span → span.columns ≤ columns
    → span_number span.columns span.rows < length known
number_within columns rows taken known span b s w = omega (arith, b.count, s.rows.most, w)

pub known_before : (columns : ℕ) (rows : Option ℕ) (taken known : List ℕ) (span : Spans) → IsBoard columns rows taken known → AreSpans span → span.columns ≤ columns
    → (r c : ℕ) → r < slice_index known (span_number span.columns span.rows) → FitsOpen columns rows taken (cells_at span r c) → ⊥
known_before columns rows taken known span b s w r c l f =
    b.knows span.columns span.rows r c (record { wide = s.columns.least; within = w; high = s.rows.least; most = s.rows.most }) l f

low_set : (known : List ℕ) (n value most : ℕ) → n < length known → value ≤ most → ((k : ℕ) → slice_index known k ≤ most) → (k : ℕ) → slice_index (slice_set known n value) k ≤ most
low_set known n value most w v low k =
    elim (cases_lt k n) [
      | inl l ↦ omega (arith, low k, get_or-set_other known n k value 0 (omega (arith, l)))
      | inr l ↦ elim (cases_lt n k) [
        | inl m ↦ omega (arith, low k, get_or-set_other known n k value 0 (omega (arith, m)))
        | inr m ↦ (let e : k ≡ n = omega (arith, l, m) in omega (arith, v, get_or-set_same known n value 0 w, ap (λ i. slice_index (slice_set known n value) i) e))
      ]
    ]

pub board_set : (columns : ℕ) (rows : Option ℕ) (taken known : List ℕ) (span : Spans) (row : ℕ) → AreSpans span → span.columns ≤ columns → row ≤ 100 * 65536
    → IsBoard columns rows taken known → FitsInNoRowBefore columns rows taken span row
    → IsBoard columns rows taken (slice_set known (span_number span.columns span.rows) row)
board_set columns rows taken known span row s w low b none =
    let inside = number_within columns rows taken known span b s w in
    record {
      count = length-set known (span_number span.columns span.rows) row ∙ b.count;
      low = low_set known (span_number span.columns span.rows) row (100 * 65536) inside low b.low;
      knows = knows_set columns rows taken known span row s inside none b.knows;
    }

pub board_kept : (columns : ℕ) (rows : Option ℕ) (old new known : List ℕ) (cells : Cells) → Adds old new cells → IsBoard columns rows old known → IsBoard columns rows new known
board_kept columns rows old new known cells adds b =
    record {
      count = b.count;
      low = b.low;
      knows = λ width height r c within l f. b.knows width height r c within l (still_open columns rows old new cells (cells_at (spans width height) r c) adds f);
    }

-- before its first place a span fits in no row
pub none_before_first : (columns : ℕ) (rows : Option ℕ) (old new : List ℕ) (span : Spans) (cells : Cells) → IsFirstOpen columns rows old span cells → Adds old new cells
    → FitsInNoRowBefore columns rows new span cells.row
none_before_first columns rows old new span cells first adds r c l f = first.first r c (inl l) (still_open columns rows old new cells (cells_at span r c) adds f)

pub first_low : (columns : ℕ) (rows : Option ℕ) (taken : List ℕ) (span : Spans) (cells : Cells) → IsFirstOpen columns rows taken span cells → length taken ≤ 100 * 65535
    → cells.row ≤ 100 * 65536
first_low columns rows taken span cells first short = omega (arith, short, open_not_lower columns rows taken span cells first)

less_high : (rows : Option ℕ) (row low high : ℕ) → low ≤ high → IfSome rows (λ limit. row + high ≤ limit) → IfSome rows (λ limit. row + low ≤ limit)
less_high None row low high l h = tt
less_high (Some limit) row low high l h = omega (arith, l, h)

-- where a span fits nowhere, none fits that is as wide and as high
pub larger_fits_nowhere : (columns : ℕ) (rows : Option ℕ) (taken : List ℕ) (span larger : Spans) (row : ℕ) → span.columns ≤ larger.columns → span.rows ≤ larger.rows
    → FitsInNoRowBefore columns rows taken span row → FitsInNoRowBefore columns rows taken larger row
larger_fits_nowhere columns rows taken span larger row w h none r c l f =
    none r c l (record {
      in_columns = omega (arith, w, f.in_columns);
      in_rows = less_high rows r span.rows larger.rows h f.in_rows;
      are_open = λ x y p. f.are_open x y (record {
        from_left = p.from_left;
        to_right = omega (arith, w, p.to_right);
        from_top = p.from_top;
        to_bottom = omega (arith, h, p.to_bottom);
      });
    })

-- a child ends at most its own rows below those that are kept
pub end_of_first : (columns : ℕ) (rows : Option ℕ) (taken : List ℕ) (span : Spans) (cells : Cells) → IsFirstOpen columns rows taken span cells
    → cells.row + cells.rows ≤ length taken + span.rows
end_of_first columns rows taken span cells s = omega (arith, open_not_lower columns rows taken span cells s, ap (λ p. p.rows) s.of_span)

empty_known : (n k : ℕ) → slice_index (replicate n 0) k ≡ 0
empty_known n k =
    elim (cases_lt k n) [
      | inl l ↦ get_or-replicate {A = ℕ} n k 0 0 l
      | inr l ↦ get_or_past (replicate {A = ℕ} n 0) k 0 (omega (arith, l, length-replicate {A = ℕ} n 0))
    ]

pub board_empty : (columns : ℕ) (rows : Option ℕ) (n : ℕ) → n ≡ 100 * columns + 101 → IsBoard columns rows [] (replicate n 0)
board_empty columns rows n e =
    record {
      count = length-replicate {A = ℕ} n 0 ∙ e;
      low = λ k. omega (arith, empty_known n k);
      knows = λ width height r c within l f. absurd (omega (arith, l, empty_known n (span_number width height)));
    }

-- ---- the children one after another

-- what holds of a span that is cut
pub cut_are_spans : (columns : ℕ) (rows : Option ℕ) (asked : Spans) → IsSpan columns → IfSome rows IsRowCount → AreSpans asked → AreSpans (cut columns rows asked)
cut_are_spans columns None asked c r s =
    record { columns = record { least = omega (arith, c.least, s.columns.least); most = omega (arith, s.columns.most) }; rows = s.rows }
cut_are_spans columns (Some limit) asked c r s =
    record {
      columns = record { least = omega (arith, c.least, s.columns.least); most = omega (arith, s.columns.most) };
      rows = record { least = omega (arith, r.least, s.rows.least); most = omega (arith, s.rows.most) };
    }

inside_of : (columns : ℕ) (rows : Option ℕ) (taken : List ℕ) (span : Spans) (place : Option Cells) → AreSpans span → StandsOpen columns rows taken span place
    → IfSome place (IsInside columns rows)
inside_of columns rows taken span None s h = tt
inside_of columns rows taken span (Some cells) s h =
    record {
      wide = subst IsSpan (sym (ap (λ p. p.columns) h.of_span)) s.columns;
      high = subst IsSpan (sym (ap (λ p. p.rows) h.of_span)) s.rows;
      in_columns = h.fits.in_columns;
      in_rows = h.fits.in_rows;
    }

-- so many children are placed
pub record ArePlaced (columns : ℕ) (rows : Option ℕ) (spans : List Spans) (i : ℕ) (places : List (Option Cells)) (taken known : List ℕ) : Type 0 where
  pub told : places ++ standing_after columns rows places (drop i spans) ≡ standing_after columns rows [] spans
  pub shows : Shows taken places
  pub board : IsBoard columns rows taken known
  pub short : length taken ≤ 100 * i
  pub used : rows_used places ≤ 100 * i
  pub inside : All (λ place. IfSome place (IsInside columns rows)) places
  pub count : length places ≡ i

told_more : (columns : ℕ) (rows : Option ℕ) (spans : List Spans) (i : ℕ) (places : List (Option Cells)) (asked d : Spans) (place : Option Cells)
    → i < length spans → asked ≡ get_or spans i d → first_place columns rows places (cut columns rows asked) ≡ place
    → places ++ standing_after columns rows places (drop i spans) ≡ standing_after columns rows [] spans
    → places ++ place ∷ [] ++ standing_after columns rows (places ++ place ∷ []) (drop (i + 1) spans) ≡ standing_after columns rows [] spans
told_more columns rows spans i places asked d place l e first told =
    append_assoc places (place ∷ []) _
    ∙ ap (λ p. places ++ (p ∷ standing_after columns rows (places ++ p ∷ []) (drop (i + 1) spans))) (sym first)
    ∙ ap (λ n. places ++ standing_after columns rows places (asked ∷ drop n spans)) (add-one i)
    ∙ ap (λ s. places ++ standing_after columns rows places (s ∷ drop (suc i) spans)) e
    ∙ ap (λ s. places ++ standing_after columns rows places s) (sym (drop-cons spans i d l))
    ∙ told

pub placed_none : (columns : ℕ) (rows : Option ℕ) (spans : List Spans) (n : ℕ) → n ≡ 100 * columns + 101 → ArePlaced columns rows spans 0 [] [] (replicate n 0)
placed_none columns rows spans n e =
    record {
      told = refl;
      shows = λ x y. (λ h. All-nil (NotHeldBy x y), λ h. bit_at-zero x);
      board = board_empty columns rows n e;
      short = omega arith;
      used = omega arith;
      inside = All-nil (λ place. IfSome place (IsInside columns rows));
      count = refl;
    }

pub placed_more : (columns : ℕ) (rows : Option ℕ) (spans : List Spans) (i : ℕ) (places : List (Option Cells)) (old new old_known known : List ℕ) (asked d : Spans) (place : Option Cells)
    → i < length spans → asked ≡ get_or spans i d → AreSpans (cut columns rows asked)
    → StandsOpen columns rows old (cut columns rows asked) place → AddsPlace old new place → IsBoard columns rows new known → length new ≤ length old + 100
    → ArePlaced columns rows spans i places old old_known → ArePlaced columns rows spans (i + 1) (places ++ place ∷ []) new known
placed_more columns rows spans i places old new old_known known asked d place l e are stands adds board length p =
    let at = stands_at columns rows old places p.shows (cut columns rows asked) place stands in
    record {
      told = told_more columns rows spans i places asked d place l e (stands_is_first columns rows places (cut columns rows asked) place at) p.told;
      shows = shows_more old new places place p.shows adds;
      board = board;
      short = omega (arith, length, p.short);
      used = omega (arith, p.used, rows_used-stands columns rows places (cut columns rows asked) place at, are.rows.most);
      inside = All-push (λ place. IfSome place (IsInside columns rows)) places place p.inside (inside_of columns rows old (cut columns rows asked) place are stands);
      count = length-append places (place ∷ []) ∙ omega (arith, p.count);
    }

pub placed_all : (columns : ℕ) (rows : Option ℕ) (spans : List Spans) (i : ℕ) (places : List (Option Cells)) (taken known : List ℕ) → length spans ≤ i
    → ArePlaced columns rows spans i places taken known → places ≡ standing_after columns rows [] spans
placed_all columns rows spans i places taken known l p =
    sym (append-nil places) ∙ ap (λ s. places ++ standing_after columns rows places s) (sym (drop_all i spans l)) ∙ p.told
