-- The first place as a function is the one that the relation allows.
use Rattle.std.proofs.Common.{◌≡◌, ℕ, zero, suc, ◌+◌, ◌<◌, ◌≤◌, ◌⊎◌, ◌↔◌, Bool, true, false, true≢false, if◌then◌else◌, List, [], ◌∷◌, Option, Some, None, IfSome, refl, sym, ap, ◌∙◌, subst, inl, inr, arith}
use Rattle.std.specs.Option.{option_or}
use Rattle.std.proofs.lemmas.Bool.{cases_lt}
use Rattle.std.proofs.lemmas.List.Elements.{All-nil, All-cons}
use Rattle.tx_grid.specs.declared.places.Cells.{Cells}
use Rattle.tx_grid.specs.declared.places.Spans.{Spans}
use Rattle.tx_grid.specs.Standing.{cells_at, IsFree, Fits, IsEarlier, IsFirstPlace, StandsAt, fits, rows_used, last_row, first_given, place_in, first_place}
use Rattle.tx_grid.proofs.Deciding.{Decides-fits, IsApartFrom}

-- ---- the first that is given

record IsFirstGiven {A : Type 0} (f : ℕ → Option A) (from n : ℕ) (x : A) : Type 0 where
  at : ℕ
  from_on : from ≤ at
  within : at < from + n
  gives : f at ≡ Some x
  none : (k : ℕ) → from ≤ k → k < at → f k ≡ None

given_at : {A : Type 0} (f : ℕ → Option A) (from n : ℕ) (x : A) (o : Option A) → f from ≡ o
    → (first_given f n (suc from) ≡ Some x → IsFirstGiven f (suc from) n x)
    → option_or o (first_given f n (suc from)) ≡ Some x → IsFirstGiven f from (suc n) x
given_at f from n x (Some y) e rest h =
    record { at = from; from_on = omega arith; within = omega arith; gives = e ∙ h; none = λ k l m. absurd (omega arith) }
given_at f from n x None e rest h =
    let r = rest h in
    record {
      at = r.at;
      from_on = omega (arith, r.from_on);
      within = omega (arith, r.within);
      gives = r.gives;
      none = λ k l m. elim (cases_lt from k) [ inl b ↦ r.none k (omega arith) m | inr b ↦ (let s : k ≡ from = omega arith in ap f s ∙ e) ];
    }

given_some : {A : Type 0} (f : ℕ → Option A) (from n : ℕ) (x : A) → first_given f n from ≡ Some x → IsFirstGiven f from n x
given_some f from zero x h = cc
given_some f from (suc n) x h = given_at f from n x (f from) refl (given_some f (suc from) n x) h

none_at : {A : Type 0} (f : ℕ → Option A) (from n : ℕ) (o : Option A) → f from ≡ o
    → (first_given f n (suc from) ≡ None → (k : ℕ) → suc from ≤ k → k < suc from + n → f k ≡ None)
    → option_or o (first_given f n (suc from)) ≡ None → (k : ℕ) → from ≤ k → k < from + suc n → f k ≡ None
none_at f from n (Some y) e rest h k l m = cc
none_at f from n None e rest h k l m = elim (cases_lt from k) [ inl b ↦ rest h k (omega arith) (omega arith) | inr b ↦ (let s : k ≡ from = omega arith in ap f s ∙ e) ]

given_none : {A : Type 0} (f : ℕ → Option A) (from n : ℕ) → first_given f n from ≡ None → (k : ℕ) → from ≤ k → k < from + n → f k ≡ None
given_none f from zero h k l m = absurd (omega arith)
given_none f from (suc n) h k l m = none_at f from n (f from) refl (given_none f (suc from) n) h k l m

-- ---- one place

module _ (columns : ℕ) (rows : Option ℕ) (before : List (Option Cells)) (span : Spans) where
  fits_from : (b : Bool) (row column : ℕ) (place : Cells) → fits columns rows before (cells_at span row column) ≡ b
      → (if b then Some (cells_at span row column) else None) ≡ Some place
      → Fits columns rows before place × (place ≡ cells_at span row column)
  fits_from true row column place e h =
      let same : cells_at span row column ≡ place = cc in
      (subst (Fits columns rows before) same ((Decides-fits columns rows before (cells_at span row column)).0 e), sym same)
  fits_from false row column place e h = cc

  not_fits : (b : Bool) (row column : ℕ) → fits columns rows before (cells_at span row column) ≡ b
      → (if b then Some (cells_at span row column) else None) ≡ None → Fits columns rows before (cells_at span row column) → ⊥
  not_fits true row column e h f = cc
  not_fits false row column e h f = true≢false (sym ((Decides-fits columns rows before (cells_at span row column)).1 f) ∙ e)

  in_row : (row : ℕ) → first_given (place_in columns rows before span row) (suc columns) 0 ≡ None
      → (column : ℕ) → Fits columns rows before (cells_at span row column) → ⊥
  in_row row h column f =
      not_fits _ row column refl (given_none (place_in columns rows before span row) 0 (suc columns) h column (omega arith) (omega (arith, f.in_columns))) f

  first_is : (place : Cells) → first_place columns rows before span ≡ Some place → IsFirstPlace columns rows before span place
  unfolding first_place
  first_is place h =
      let r = given_some (λ row. first_given (place_in columns rows before span row) (suc columns) 0) 0 (suc (last_row rows before)) place h in
      let c = given_some (place_in columns rows before span r.at) 0 (suc columns) place r.gives in
      let f = fits_from _ r.at c.at place refl c.gives in
      record {
        of_span = f.1 ∙ ap (λ p. cells_at span p.row p.column) (sym f.1);
        fits = f.0;
        first = λ row column e g. elim e [
          | inl l ↦ in_row row (r.none row (omega arith) (omega (arith, l, ap (λ p. p.row) f.1))) column g
          | inr l ↦ (let same : row ≡ r.at = l.0 ∙ ap (λ p. p.row) f.1 in
              not_fits _ row column refl (ap (λ n. place_in columns rows before span n column) same ∙ c.none column (omega arith) (omega (arith, l.1, ap (λ p. p.column) f.1))) g)
        ];
      }

-- ---- where there is none

below_is_free : (before : List (Option Cells)) (cells : Cells) → rows_used before ≤ cells.row → IsFree before cells
below_is_free [] cells h = All-nil (IsApartFrom cells)
below_is_free (None ∷ before) cells h = All-cons (IsApartFrom cells) None before tt (below_is_free before cells h)
below_is_free (Some other ∷ before) cells h =
    All-cons (IsApartFrom cells) (Some other) before (λ x y p q. omega (arith, h, p.from_top, q.to_bottom)) (below_is_free before cells (omega (arith, h)))

lower_rows : (rows : Option ℕ) (row used high : ℕ) → used ≤ row → IfSome rows (λ limit. row + high ≤ limit) → IfSome rows (λ limit. used + high ≤ limit)
lower_rows None row used high l h = tt
lower_rows (Some limit) row used high l h = omega (arith, l, h)

-- what fits lower fits directly below those before it
fits_below : (columns : ℕ) (rows : Option ℕ) (before : List (Option Cells)) (span : Spans) (row column : ℕ) → rows_used before ≤ row
    → Fits columns rows before (cells_at span row column) → Fits columns rows before (cells_at span (rows_used before) column)
fits_below columns rows before span row column l f =
    record {
      in_columns = f.in_columns;
      in_rows = lower_rows rows row (rows_used before) span.rows l f.in_rows;
      free = below_is_free before _ (omega arith);
    }

within_rows : (columns : ℕ) (rows : Option ℕ) (before : List (Option Cells)) (span : Spans) (row column : ℕ)
    → ((row column : ℕ) → row < suc (last_row rows before) → Fits columns rows before (cells_at span row column) → ⊥)
    → Fits columns rows before (cells_at span row column) → ⊥
within_rows columns (Some limit) before span row column none f = none row column (omega (arith, f.in_rows)) f
within_rows columns None before span row column none f =
    elim (cases_lt (rows_used before) row) [
      | inr l ↦ none row column (omega (arith, l)) f
      | inl l ↦ none (rows_used before) column (omega arith) (fits_below columns None before span row column (omega (arith, l)) f)
    ]

none_is : (columns : ℕ) (rows : Option ℕ) (before : List (Option Cells)) (span : Spans) → first_place columns rows before span ≡ None
    → (row column : ℕ) → Fits columns rows before (cells_at span row column) → ⊥
unfolding first_place
none_is columns rows before span h row column f =
    within_rows columns rows before span row column
    (λ r c l g. in_row columns rows before span r (given_none (λ row. first_given (place_in columns rows before span row) (suc columns) 0) 0 (suc (last_row rows before)) h r (omega arith) (omega (arith, l))) c g) f

-- ---- both ways

stands_from : (columns : ℕ) (rows : Option ℕ) (before : List (Option Cells)) (span : Spans) (place : Option Cells)
    → first_place columns rows before span ≡ place → StandsAt columns rows before span place
stands_from columns rows before span (Some place) h = first_is columns rows before span place h
stands_from columns rows before span None h = none_is columns rows before span h

pub first_stands : (columns : ℕ) (rows : Option ℕ) (before : List (Option Cells)) (span : Spans)
    → StandsAt columns rows before span (first_place columns rows before span)
first_stands columns rows before span = stands_from columns rows before span _ refl

-- of two cells one is earlier, or they are one
in_order : (row column other_row other_column : ℕ) → (IsEarlier row column other_row other_column) ⊎ ((IsEarlier other_row other_column row column) ⊎ ((row ≡ other_row) × (column ≡ other_column)))
in_order row column other_row other_column =
    elim (cases_lt row other_row) [
      | inl l ↦ inl (inl l)
      | inr l ↦ elim (cases_lt other_row row) [
        | inl m ↦ inr (inl (inl m))
        | inr m ↦ elim (cases_lt column other_column) [
          | inl n ↦ inl (inr (omega (arith, l, m), n))
          | inr n ↦ elim (cases_lt other_column column) [
            | inl o ↦ inr (inl (inr (omega (arith, l, m), o)))
            | inr o ↦ inr (inr (omega (arith, l, m), omega (arith, n, o)))
          ]
        ]
      ]
    ]

one_first : (columns : ℕ) (rows : Option ℕ) (before : List (Option Cells)) (span : Spans) (a b : Cells)
    → IsFirstPlace columns rows before span a → IsFirstPlace columns rows before span b → a ≡ b
one_first columns rows before span a b p q =
    elim (in_order a.row a.column b.row b.column) [
      | inl e ↦ absurd (q.first a.row a.column e (subst (Fits columns rows before) p.of_span p.fits))
      | inr rest ↦ elim rest [
        | inl e ↦ absurd (p.first b.row b.column e (subst (Fits columns rows before) q.of_span q.fits))
        | inr same ↦ p.of_span ∙ ap (λ n. cells_at span n a.column) same.0 ∙ ap (λ n. cells_at span b.row n) same.1 ∙ sym q.of_span
      ]
    ]

one_place : (columns : ℕ) (rows : Option ℕ) (before : List (Option Cells)) (span : Spans) (a b : Option Cells)
    → StandsAt columns rows before span a → StandsAt columns rows before span b → a ≡ b
one_place columns rows before span None None p q = refl
one_place columns rows before span (Some a) (Some b) p q = ap Some (one_first columns rows before span a b p q)
one_place columns rows before span None (Some b) p q = absurd (p b.row b.column (subst (Fits columns rows before) q.of_span q.fits))
one_place columns rows before span (Some a) None p q = absurd (q a.row a.column (subst (Fits columns rows before) p.of_span p.fits))

pub stands_is_first : (columns : ℕ) (rows : Option ℕ) (before : List (Option Cells)) (span : Spans) (place : Option Cells)
    → StandsAt columns rows before span place → first_place columns rows before span ≡ place
stands_is_first columns rows before span place h = one_place columns rows before span _ place (first_stands columns rows before span) h

pub first_place_iff : (columns : ℕ) (rows : Option ℕ) (before : List (Option Cells)) (span : Spans) (place : Option Cells)
    → (first_place columns rows before span ≡ place) ↔ StandsAt columns rows before span place
first_place_iff columns rows before span place = (stands_from columns rows before span place, stands_is_first columns rows before span place)

-- ---- how far down

-- the first place begins at the latest below all those before it
pub not_lower : (columns : ℕ) (rows : Option ℕ) (before : List (Option Cells)) (span : Spans) (place : Cells)
    → IsFirstPlace columns rows before span place → place.row ≤ rows_used before
not_lower columns rows before span place p =
    elim (cases_lt (rows_used before) place.row) [
      | inr l ↦ l
      | inl l ↦ absurd (p.first (rows_used before) place.column (inl l)
          (fits_below columns rows before span place.row place.column (omega (arith, l)) (subst (Fits columns rows before) p.of_span p.fits)))
    ]

-- where no rows are given there is a place
pub has_place : (columns : ℕ) (before : List (Option Cells)) (span : Spans) → span.columns ≤ columns
    → StandsAt columns None before span None → ⊥
has_place columns before span l h =
    h (rows_used before) 0 (record { in_columns = omega (arith, l); in_rows = tt; free = below_is_free before _ (omega arith) })
