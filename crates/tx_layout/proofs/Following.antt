-- Tracks follow each other, so several of them are no wider than all of them with their gutters.
use Rattle.std.proofs.Common.{◌≡◌, ℕ, zero, suc, ◌+◌, ◌*◌, ◌-◌, ◌<◌, ◌≤◌, ◌^◌, ap, subst, List, length, arith, ℤ, pos}
use Rattle.std.specs.Prelude.{◌+ℤ◌, ◌≤ℤ◌, All, slice_index, slice_index_or, map, ◌==◌, ◌||◌, if◌then◌else◌, Bool, true, false, IfOk, Result, Ok, Err}
use Rattle.std.specs.List.{range_with_len}
use Rattle.std.proofs.lemmas.Int.{ints}
use Rattle.std.proofs.lemmas.List.Elements.{All-weaker}
use Rattle.tx_box.specs.declared.items.Span.{Span}
use Rattle.tx_box.specs.Laws.{Follow}
use Rattle.tx_box.specs.Ordinary.{IsShortSpan}
use Rattle.tx_layout.specs.Children.{IsNearSpan}
use Rattle.tx_layout.specs.Grid.{AreTracks, track_gap, track_gaps}

pub gap_if : (b : Bool) (gutter : ℕ) → (if b then 0 else gutter) ≤ gutter
gap_if true gutter = omega arith
gap_if false gutter = omega arith

gaps_at : (gutter count a n k : ℕ) → slice_index (map (track_gap gutter count) (range_with_len a n)) k ≤ gutter
gaps_at gutter count a zero k = omega arith
gaps_at gutter count a (suc n) zero = gap_if ((a == 0) || (a == count)) gutter
gaps_at gutter count a (suc n) (suc k) = gaps_at gutter count (a + 1) n k

pub follow_tracks : (gutter count : ℕ) (spans : List Span) → gutter ≤ 9999 → All IsNearSpan spans → Follow (track_gaps gutter count) spans → AreTracks spans
follow_tracks gutter count spans few each h =
    record {
      each = each;
      next = λ n d within.
          let g = gaps_at gutter count 0 (count + 1) (n + 1) in
          (slice_index (track_gaps gutter count) (n + 1), omega arith, h.next n d within);
    }

-- the cells from one track to the end of another
pub record Reach (n : ℕ) (first last : Span) : Type 0 where
  pub forward : first.from ≤ℤ last.to
  pub near : last.to ≤ℤ (first.from +ℤ pos (75534 * n))

-- spans of at most 65,535 cells, each of which begins at most 9,999 cells behind the one before it
pub record AreJoined (spans : List Span) : Type 0 where
  pub each : All IsShortSpan spans
  pub next : (n : ℕ) (d : Span) → n + 1 < length spans
      → (gutter : ℕ) × (gutter ≤ 9999) × ((slice_index_or spans (n + 1) d).from ≡ (slice_index_or spans n d).to +ℤ pos gutter)

pub joined_tracks : (gutter count : ℕ) (spans : List Span) → gutter ≤ 9999 → All IsShortSpan spans → Follow (track_gaps gutter count) spans → AreJoined spans
joined_tracks gutter count spans few each h =
    record {
      each = each;
      next = λ n d within.
          let g = gaps_at gutter count 0 (count + 1) (n + 1) in
          (slice_index (track_gaps gutter count) (n + 1), omega arith, h.next n d within);
    }

joined_of : (spans : List Span) → AreTracks spans → AreJoined spans
joined_of spans h =
    record {
      each = All-weaker IsNearSpan IsShortSpan (λ s near. record { not_negative = near.span.not_negative; forward = near.span.forward; at_most = near.span.at_most }) spans h.each;
      next = h.next;
    }

pub reach : (spans : List Span) (i n : ℕ) (d : Span) → AreJoined spans → i + n < length spans → Reach (n + 1) (slice_index_or spans i d) (slice_index_or spans (i + n) d)
reach spans i zero d h within =
    let one = h.each i d (omega arith) in
    let p = one.forward in
    let q = one.at_most in
    subst (λ (m : ℕ). Reach 1 (slice_index_or spans i d) (slice_index_or spans m d)) (let e : i ≡ i + 0 = omega arith in e)
    (record { forward = p; near = omega (arith, ints) })
reach spans i (suc n) d h within =
    let before = reach spans i n d h (omega arith) in
    let step = h.next (i + n) d (omega arith) in
    let one = h.each (i + n + 1) d (omega arith) in
    let at : slice_index_or spans (i + n + 1) d ≡ slice_index_or spans (i + suc n) d = ap (λ (m : ℕ). slice_index_or spans m d) (let e : i + n + 1 ≡ i + suc n = omega arith in e) in
    let a = before.forward in
    let b = before.near in
    let p = one.forward in
    let q = one.at_most in
    let g = step.1 in
    let s = step.2 in
    subst (λ (t : Span). Reach (suc n + 1) (slice_index_or spans i d) t) at
    (record { forward = omega (arith, ints); near = omega (arith, ints) })

-- so many tracks from one on
pub record Over (first last : Span) : Type 0 where
  pub low : pos 0 ≤ℤ first.from
  pub far : first.from ≤ℤ pos (2 ^ 41)
  pub forward : first.from ≤ℤ last.to
  pub near : last.to ≤ℤ (first.from +ℤ pos 7553400)

pub near_more : (n : ℕ) (x y : ℤ) → n ≤ 100 → y ≤ℤ (x +ℤ pos (75534 * n)) → y ≤ℤ (x +ℤ pos 7553400)
near_more n x y few h = omega (arith, ints)

pub over_tracks : (spans : List Span) (first count : ℕ) (d : Span) → AreTracks spans → 1 ≤ count → count ≤ 100 → first + count ≤ length spans → Over (slice_index_or spans first d) (slice_index_or spans (first + count - 1) d)
over_tracks spans first count d h some few within =
    let r = reach spans first (count - 1) d (joined_of spans h) (omega arith) in
    let near = h.each first d (omega arith) in
    let one = near.span in
    let low = one.not_negative in
    let up = one.forward in
    let far = near.near in
    let at : slice_index_or spans (first + (count - 1)) d ≡ slice_index_or spans (first + count - 1) d = ap (λ (m : ℕ). slice_index_or spans m d) (let e : first + (count - 1) ≡ first + count - 1 = omega arith in e) in
    record {
      low = low;
      far = omega (arith, ints);
      forward = subst (λ (t : Span). (slice_index_or spans first d).from ≤ℤ t.to) at r.forward;
      near = subst (λ (t : Span). t.to ≤ℤ ((slice_index_or spans first d).from +ℤ pos 7553400)) at (near_more (count - 1 + 1) (slice_index_or spans first d).from (slice_index_or spans (first + (count - 1)) d).to (omega arith) r.near);
    }

-- a fact of two clauses on one result
pub if_both : {R E : Type 0} (P Q S : R → Type 0) → ((x : R) → P x → Q x → S x) → (r : Result R E) → IfOk r P → IfOk r Q → IfOk r S
if_both P Q S f (Ok x) p q = f x p q
if_both P Q S f (Err e) p q = tt

-- a fact of three clauses on one result
pub if_three : {R E : Type 0} (P Q S T : R → Type 0) → ((x : R) → P x → Q x → S x → T x) → (r : Result R E) → IfOk r P → IfOk r Q → IfOk r S → IfOk r T
if_three P Q S T f (Ok x) p q s = f x p q s
if_three P Q S T f (Err e) p q s = tt
