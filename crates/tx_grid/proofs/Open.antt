-- Where a span is open.
use Rattle.std.proofs.Common.{◌≡◌, ℕ, ◌+◌, ◌-◌, ◌<◌, ◌≤◌, bit_or, List, length, slice_index, Option, Some, None, IfSome, refl, sym, ap, subst, ◌∙◌, inl, inr, arith}
use Rattle.std.specs.Int.{bit_at}
use Rattle.std.proofs.lemmas.Bool.{cases_lt}
use Rattle.std.proofs.lemmas.List.{get_or_past}
use Rattle.std.proofs.lemmas.Nat.Bits.{bit_at-zero}
use Rattle.tx_grid.specs.declared.places.Cells.{Cells}
use Rattle.tx_grid.specs.declared.places.Spans.{Spans}
use Rattle.tx_grid.specs.Standing.{cells_at}
use Rattle.tx_grid.specs.Taken.{IsOpenAt, IsOpenFrom, Joins, IsNextOpen, IsOpenIn, IsFirstInRow, IsNextRow, FitsOpen, FitsInNoRowBefore, IsFirstOpen}
use Rattle.tx_grid.proofs.Bits.{or_open}

-- ---- one row, with the rows below it joined

-- what is known once the rows from `end` on are joined
pub record IsJoined (columns : ℕ) (taken : List ℕ) (span : Spans) (row end mask column : ℕ) : Type 0 where
  pub joins : Joins taken end (row + span.rows) mask
  pub is_open : IsOpenFrom mask column span.columns
  pub inside : column + span.columns ≤ columns
  pub closed : (c : ℕ) → c < column → IsOpenFrom mask c span.columns → ⊥
  pub from : row ≤ end
  pub to : end ≤ row + span.rows

pub joined_none : (columns : ℕ) (taken : List ℕ) (span : Spans) (row : ℕ) → span.columns ≤ columns → IsJoined columns taken span row (row + span.rows) 0 0
joined_none columns taken span row w = record {
  joins = λ x. (λ h y l m. absurd (omega arith), λ h. bit_at-zero x);
  is_open = λ x l m. bit_at-zero x;
  inside = omega arith;
  closed = λ c l h. absurd (omega arith);
  from = omega arith;
  to = omega arith;
}

joins_more : (taken : List ℕ) (end to mask : ℕ) → 0 < end → end ≤ to → Joins taken end to mask
    → Joins taken (end - 1) to (bit_or mask (slice_index taken (end - 1)))
joins_more taken end to mask p q j x =
    let both = or_open mask (slice_index taken (end - 1)) x in (
      λ h y l m. elim (cases_lt y end) [
        | inl n ↦ (let e : end - 1 ≡ y = omega (arith, l, n) in subst (λ k. IsOpenAt taken x k) e (both.0 h).1)
        | inr n ↦ (j x).0 (both.0 h).0 y n m
      ],
      λ h. both.1 ((j x).1 (λ y l m. h y (omega (arith, l)) m), h (end - 1) (omega arith) (omega arith)),
    )

open_before : (a b c width : ℕ) → IsOpenFrom (bit_or a b) c width → IsOpenFrom a c width
open_before a b c width h x l m = ((or_open a b x).0 (h x l m)).0

pub joined_more : (columns : ℕ) (taken : List ℕ) (span : Spans) (row end mask column bits next : ℕ) → bits ≡ slice_index taken (end - 1) → row < end
    → IsJoined columns taken span row end mask column → IsNextOpen (bit_or mask bits) column span.columns columns next
    → IsJoined columns taken span row (end - 1) (bit_or mask bits) next
joined_more columns taken span row end mask column bits next e l j n = record {
  joins = subst (λ k. Joins taken (end - 1) (row + span.rows) (bit_or mask k)) (sym e) (joins_more taken end (row + span.rows) mask (omega arith) j.to j.joins);
  is_open = n.is_open;
  inside = n.inside;
  closed = λ c m h. elim (cases_lt c column) [ inl k ↦ j.closed c k (open_before mask bits c span.columns h) | inr k ↦ n.next c k m h ];
  from = omega (arith, l);
  to = omega (arith, j.to);
}

pub first_in_row : (columns : ℕ) (taken : List ℕ) (span : Spans) (row end mask column : ℕ) → end ≤ row
    → IsJoined columns taken span row end mask column → IsFirstInRow columns taken span row column
first_in_row columns taken span row end mask column l j = record {
  is_open = record {
    in_columns = j.inside;
    are_open = λ x y p. (j.joins x).0 (j.is_open x p.from_left p.to_right) y (omega (arith, l, p.from_top)) p.to_bottom;
  };
  first = λ c m o. j.closed c m (λ x a b. (j.joins x).1 (λ y k n.
      o.are_open x y (record { from_left = a; to_right = b; from_top = omega (arith, k, j.from); to_bottom = n })));
}

pub next_row : (columns : ℕ) (taken : List ℕ) (span : Spans) (row end mask column bits : ℕ) → bits ≡ slice_index taken (end - 1) → row < end
    → IsJoined columns taken span row end mask column
    → ((c : ℕ) → column ≤ c → c + span.columns ≤ columns → IsOpenFrom (bit_or mask bits) c span.columns → ⊥)
    → IsNextRow columns taken span row end
next_row columns taken span row end mask column bits e l j none = record {
  later = l;
  near = j.to;
  closed = λ r c k m o.
      let joins = subst (λ b. Joins taken (end - 1) (row + span.rows) (bit_or mask b)) (sym e) (joins_more taken end (row + span.rows) mask (omega arith) j.to j.joins) in
      let opens : IsOpenFrom (bit_or mask bits) c span.columns = (λ x a b. (joins x).1 (λ y n p.
      o.are_open x y (record { from_left = a; to_right = b; from_top = omega (arith, m, n); to_bottom = omega (arith, k, p) }))) in
      elim (cases_lt c column) [ inl n ↦ j.closed c n (open_before mask bits c span.columns opens) | inr n ↦ none c n o.in_columns opens ];
}

-- ---- the first place

pub open_in : (columns : ℕ) (rows : Option ℕ) (taken : List ℕ) (cells : Cells) → FitsOpen columns rows taken cells → IsOpenIn columns taken cells
open_in columns rows taken cells f = record { in_columns = f.in_columns; are_open = f.are_open }

pub closed_to : (columns : ℕ) (rows : Option ℕ) (taken : List ℕ) (span : Spans) (row next : ℕ)
    → FitsInNoRowBefore columns rows taken span row → IsNextRow columns taken span row next → FitsInNoRowBefore columns rows taken span next
closed_to columns rows taken span row next before n r c l f =
    elim (cases_lt r row) [ inl m ↦ before r c m f | inr m ↦ n.closed r c m l (open_in columns rows taken _ f) ]

pub first_there : (columns : ℕ) (rows : Option ℕ) (taken : List ℕ) (span : Spans) (row column : ℕ)
    → IfSome rows (λ limit. row + span.rows ≤ limit) → FitsInNoRowBefore columns rows taken span row
    → IsFirstInRow columns taken span row column → IsFirstOpen columns rows taken span (cells_at span row column)
first_there columns rows taken span row column inside before f = record {
  of_span = refl;
  fits = record { in_columns = f.is_open.in_columns; in_rows = inside; are_open = f.is_open.are_open };
  first = λ r c e g. elim e [
    | inl l ↦ before r c l g
    | inr l ↦ f.first c l.1 (subst (λ k. IsOpenIn columns taken (cells_at span k c)) l.0 (open_in columns rows taken _ g))
  ];
}

-- past the last row all is open
pub past_open : (taken : List ℕ) (x y : ℕ) → length taken ≤ y → IsOpenAt taken x y
past_open taken x y l = ap (λ n. bit_at n x) (get_or_past taken y 0 l) ∙ bit_at-zero x

pub first_past : (columns : ℕ) (rows : Option ℕ) (taken : List ℕ) (span : Spans) (row : ℕ) → length taken ≤ row → span.columns ≤ columns
    → IfSome rows (λ limit. row + span.rows ≤ limit) → FitsInNoRowBefore columns rows taken span row
    → IsFirstOpen columns rows taken span (cells_at span row 0)
first_past columns rows taken span row l w inside before =
    first_there columns rows taken span row 0 inside before (record {
      is_open = record { in_columns = omega (arith, w); are_open = λ x y p. past_open taken x y (omega (arith, l, p.from_top)) };
      first = λ c m. absurd (omega arith);
    })

pub lower : (rows : Option ℕ) (row r height : ℕ) → row ≤ r → IfSome rows (λ limit. r + height ≤ limit) → IfSome rows (λ limit. row + height ≤ limit)
lower None row r height l h = tt
lower (Some limit) row r height l h = omega (arith, l, h)

pub nowhere : (columns : ℕ) (rows : Option ℕ) (taken : List ℕ) (span : Spans) (row : ℕ)
    → (IfSome rows (λ limit. row + span.rows ≤ limit) → ⊥) → FitsInNoRowBefore columns rows taken span row
    → (r c : ℕ) → FitsOpen columns rows taken (cells_at span r c) → ⊥
nowhere columns rows taken span row outside before r c f =
    elim (cases_lt r row) [ inl l ↦ before r c l f | inr l ↦ outside (lower rows row r span.rows l f.in_rows) ]
