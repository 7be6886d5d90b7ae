-- How many rows are below each row, and the children of a row by these counts.
use Rattle.std.proofs.Common.{◌≡◌, ℕ, suc, ◌+◌, ◌-◌, ◌<◌, ◌≤◌, true, false, List, ◌∷◌, length, drop, get_or, set, take, ◌∙◌, refl, sym, ap, drop-cons, arith}
use Rattle.std.proofs.lemmas.Bool.{ltb-true}
use Rattle.std.proofs.lemmas.List.{drop-drop, drop-set, length-drop, take_all}
use Rattle.std.proofs.lemmas.List.Sums.{prefix_len-le-length}
use Rattle.std.proofs.Math.ListN.{drop_of_length-le}
use Rattle.std.specs.List.{prefix_len}
use Rattle.std.specs.Prelude.{nat_lt, slice_index}
use Rattle.tx_sizes.specs.Counts.{counts, is_deeper}
use Rattle.tx_sizes.specs.Forest.{Styled, depth}
use Rattle.tx_sizes.proofs.lemmas.RowsBelow.{counts-drop, length-counts, prefix-deeper}

-- ---- one child

-- a row at a place, the rows behind it, and the place of the next row that isn't below it
pub record Child (d : ℕ) (rows : List Styled) (at : ℕ) (row : Styled) (next : ℕ) : Type 0 where
  pub rest : List Styled
  pub here : drop at rows ≡ row ∷ rest
  pub behind : drop next rows ≡ drop (prefix_len (is_deeper (depth row)) rest) rest
  pub is : next ≡ at + (1 + prefix_len (is_deeper (depth row)) rest)
  pub within : next ≤ length rows
  pub deep : nat_lt d (depth row) ≡ true

pub child_at : (d : ℕ) (rows : List Styled) (at : ℕ) (row : Styled) → at < length rows → row ≡ get_or rows at row → nat_lt d (depth row) ≡ true
    → Child d rows at row (at + (1 + slice_index (counts rows) at))
unfolding counts
child_at d rows at row h is deep =
    let rest = drop (suc at) rows in
    let here : drop at rows ≡ row ∷ rest = drop-cons rows at row h ∙ ap (λ r. r ∷ rest) (sym is) in
    let c = prefix_len (is_deeper (depth row)) rest in
    let counted : drop at (counts rows) ≡ c ∷ counts rest = sym (counts-drop at rows) ∙ ap counts here in
    let known : drop at (counts rows) ≡ get_or (counts rows) at 0 ∷ drop (suc at) (counts rows) = drop-cons (counts rows) at 0 (rw (length-counts rows) h) in
    let count : slice_index (counts rows) at ≡ c = ap (λ (ns : List ℕ). get_or ns 0 0) (sym known ∙ counted) in
    let after : drop (at + (1 + c)) rows ≡ drop c rest =
    sym (drop-drop (1 + c) at rows) ∙ ap (drop (1 + c)) here ∙ ap (λ n. drop n (row ∷ rest)) (let e : 1 + c ≡ suc c = omega arith in e) in
    let few : c ≤ length rest = prefix_len-le-length (is_deeper (depth row)) rest in
    let long : length rest ≡ length rows - suc at = length-drop (suc at) rows in
    record {
      rest = rest;
      here = here;
      behind = rw count after;
      is = ap (λ n. at + (1 + n)) count;
      within = rw count (omega arith);
      deep = deep;
    }

-- ---- the loop that counts

pub record Counted (d : ℕ) (rows : List Styled) (at : ℕ) : Type 0 where
  pub is : prefix_len (is_deeper d) rows ≡ at + prefix_len (is_deeper d) (drop at rows)
  pub within : at ≤ length rows

pub counted_none : (d : ℕ) (rows : List Styled) → Counted d rows 0
counted_none d rows = record { is = omega arith; within = omega arith }

pub counted_next : {d at next : ℕ} {rows : List Styled} {row : Styled} → Counted d rows at → Child d rows at row next → Counted d rows next
counted_next {d} {at} {next} {rows} {row} counted child =
    let p = prefix_len (is_deeper d) in
    let c = prefix_len (is_deeper (depth row)) child.rest in
    let less : d < depth row = ltb-true d (depth row) child.deep in
    let more : p child.rest ≡ c + p (drop c child.rest) = prefix-deeper d (depth row) (omega arith) child.rest in
    let first : p (drop at rows) ≡ 1 + p child.rest = ap p child.here ∙ rw child.deep refl in
    let last : p (drop next rows) ≡ p (drop c child.rest) = ap p child.behind in
    record { is = omega (arith, counted.is, first, more, last, child.is); within = child.within }

-- a row that isn't deeper is the end
pub counted_here : {d at : ℕ} {rows : List Styled} (row : Styled) → Counted d rows at → at < length rows → row ≡ get_or rows at row → nat_lt d (depth row) ≡ false
    → at ≡ prefix_len (is_deeper d) rows
counted_here {d} {at} {rows} row counted h is shallow =
    let p = prefix_len (is_deeper d) in
    let none : p (drop at rows) ≡ 0 = ap p (drop-cons rows at row h ∙ ap (λ r. r ∷ drop (suc at) rows) (sym is)) ∙ rw shallow refl in
    omega (arith, counted.is, none)

pub counted_all : {d at : ℕ} {rows : List Styled} → Counted d rows at → length rows ≤ at → at ≡ prefix_len (is_deeper d) rows
counted_all {d} {at} {rows} counted h =
    let p = prefix_len (is_deeper d) in
    let none : p (drop at rows) ≡ 0 = ap p (drop_of_length-le rows h) in
    omega (arith, counted.is, none)

-- ---- the loop that counts below all rows

-- behind the last row there is nothing
pub counts_end : (rows : List Styled) (below : List ℕ) → length below ≡ length rows → drop (length rows) below ≡ counts (drop (length rows) rows)
unfolding counts
counts_end rows below long = drop_of_length-le below (omega (arith, long)) ∙ sym (ap counts (drop_of_length-le rows (omega arith)))

-- one row further ahead
pub counts_next : (rows : List Styled) (below : List ℕ) (at next : ℕ) (row : Styled) (count : ℕ) → next ≡ at + 1 → at < length rows → row ≡ get_or rows at row
    → length below ≡ length rows → drop next below ≡ counts (drop next rows) → count ≡ prefix_len (is_deeper (depth row)) (drop next rows)
    → drop at (set below at count) ≡ counts (drop at rows)
unfolding counts
counts_next rows below at next row count step h is long done counted =
    let rest = drop next rows in
    let next_is : suc at ≡ next = omega (arith, step) in
    let here : drop at rows ≡ row ∷ rest = drop-cons rows at row h ∙ ap (λ r. r ∷ drop (suc at) rows) (sym is) ∙ ap (λ n. row ∷ drop n rows) next_is in
    let written : drop at (set below at count) ≡ count ∷ drop next below = drop-set below at count (omega (arith, h, long)) ∙ ap (λ n. count ∷ drop n below) (sym step) in
    written ∙ ap (λ ns. count ∷ ns) done ∙ ap (λ n. n ∷ counts rest) counted ∙ sym (ap counts here)

-- the rows behind a place, as they are handed on
pub counted_behind : (rows : List Styled) (from next d n : ℕ) → from ≡ next → n ≡ prefix_len (is_deeper d) (take (length rows - from) (drop from rows)) → n ≡ prefix_len (is_deeper d) (drop next rows)
counted_behind rows from next d n step is =
    is ∙ ap (prefix_len (is_deeper d)) (take_all (length rows - from) (drop from rows) (omega (arith, length-drop from rows))) ∙ ap (λ k. prefix_len (is_deeper d) (drop k rows)) step

-- a part up to the end is the rest
pub whole_rest : (rows : List Styled) (k : ℕ) → take (length rows - k) (drop k rows) ≡ drop k rows
whole_rest rows k = take_all (length rows - k) (drop k rows) (omega (arith, length-drop k rows))

-- the counts of the rest
pub counts_rest : (rows : List Styled) (below rest : List ℕ) (k : ℕ) → below ≡ counts rows → rest ≡ drop k below → rest ≡ counts (take (length rows - k) (drop k rows))
counts_rest rows below rest k is here = here ∙ ap (drop k) is ∙ sym (counts-drop k rows) ∙ ap counts (sym (whole_rest rows k))
