-- Bits of rows.
use Rattle.std.proofs.Common.{◌≡◌, ℕ, ◌+◌, ◌-◌, ◌*◌, ◌%◌, ◌^◌, ◌<◌, ◌≤◌, ◌↔◌, ◌/◌, bit_and, bit_or, List, length, slice_index, slice_set, get_or-set_other, get_or-set_same, refl, sym, ap, subst, ◌∙◌, inl, inr, arith}
use Rattle.std.specs.Int.{bit_at, bit_not, trailing_zeros, w128}
use Rattle.std.proofs.lemmas.Bool.{cases_lt}
use Rattle.std.proofs.lemmas.Nat.{one_shl, shr-shr, shr_le}
use Rattle.std.proofs.lemmas.Nat.Bits.{bit_at_and, bit_at_or, bit_at-zero, bit_at-lt, bit_at_mask_inside, bit_at_mask_below, bit_at_mask_above, bit_at_not, bit_at-trailing_zeros}
use Rattle.std.proofs.Math.Pow.{pow_mono}
use Rattle.tx_grid.specs.declared.places.Cells.{Cells}
use Rattle.tx_grid.specs.Standing.{Holds}
use Rattle.tx_grid.specs.Taken.{IsOpenAt, IsOpenFrom, IsNextOpen, AreStarts, Adds, AddsColumns}

-- the bits that the code computes
pub bits_written : (low high : ℕ) → low ≤ high → high < 128
    → ((1 * 2 ^ low) % 2 ^ 128 ≤ (1 * 2 ^ high) % 2 ^ 128) × ((1 * 2 ^ high) % 2 ^ 128 - (1 * 2 ^ low) % 2 ^ 128 ≡ 2 ^ high - 2 ^ low)
bits_written low high l m =
    let a = one_shl low 128 (omega (arith, l, m)) in
    let b = one_shl high 128 m in
    let p : 2 ^ low ≤ 2 ^ high = pow_mono l in
    (omega (arith, a, b, p), omega (arith, a, b))

-- a bit of two numbers together is 0 exactly where it is in both
pub or_open : (a b x : ℕ) → (bit_at (bit_or a b) x ≡ 0) ↔ ((bit_at a x ≡ 0) × (bit_at b x ≡ 0))
or_open a b x = (λ h. (omega (arith, bit_at_or a b x, h), omega (arith, bit_at_or a b x, h)), λ h. omega (arith, bit_at_or a b x, h.0, h.1))

outside : (low width x : ℕ) → ((low ≤ x) → (x < low + width) → ⊥) → bit_at (2 ^ (low + width) - 2 ^ low) x ≡ 0
outside low width x h =
    elim (cases_lt x low) [
      | inl l ↦ bit_at_mask_below low (low + width) x l
      | inr l ↦ elim (cases_lt x (low + width)) [ inl m ↦ absurd (h l m) | inr m ↦ bit_at_mask_above low (low + width) x m ]
    ]

pub adds_columns : (n low width : ℕ) → AddsColumns n (bit_or n (2 ^ (low + width) - 2 ^ low)) low width
adds_columns n low width x =
    let both = or_open n (2 ^ (low + width) - 2 ^ low) x in
    (λ h. ((both.0 h).0, λ l m. omega (arith, (both.0 h).1, bit_at_mask_inside low (low + width) x l m)), λ h. both.1 (h.0, outside low width x h.1))

pub adds_written : (n m low width : ℕ) → m ≡ 2 ^ (low + width) - 2 ^ low → AddsColumns n (bit_or n m) low width
adds_written n m low width e = subst (λ k. AddsColumns n (bit_or n k) low width) (sym e) (adds_columns n low width)

-- ---- rows that are taken one after another

pub record Filled (old now : List ℕ) (cells : Cells) (end : ℕ) : Type 0 where
  pub done : (x y : ℕ) → y < end → IsOpenAt now x y ↔ (IsOpenAt old x y × ¬ Holds cells x y)
  pub left : (y : ℕ) → end ≤ y → slice_index now y ≡ slice_index old y

pub filled_none : (old : List ℕ) (cells : Cells) → Filled old old cells cells.row
filled_none old cells = record {
  done = λ x y l. (λ h. (h, λ p. omega (arith, l, p.from_top)), λ h. h.0);
  left = λ y l. refl;
}

filled_before : (old now : List ℕ) (cells : Cells) (i bits x y : ℕ) → Filled old now cells i → i < length now → y < i
    → IsOpenAt (slice_set now i bits) x y ↔ (IsOpenAt old x y × ¬ Holds cells x y)
filled_before old now cells i bits x y f w l =
    let same = get_or-set_other now i y bits 0 (omega arith) in
    (λ h. (f.done x y l).0 (ap (λ n. bit_at n x) (sym same) ∙ h), λ h. ap (λ n. bit_at n x) same ∙ (f.done x y l).1 h)

filled_here : (old now : List ℕ) (cells : Cells) (i bits x : ℕ) → Filled old now cells i → i < length now
    → cells.row ≤ i → i < cells.row + cells.rows → AddsColumns (slice_index now i) bits cells.column cells.columns
    → IsOpenAt (slice_set now i bits) x i ↔ (IsOpenAt old x i × ¬ Holds cells x i)
filled_here old now cells i bits x f w from to adds =
    let same = get_or-set_same now i bits 0 w in
    let was = f.left i (omega arith) in (
      λ h. (let both = (adds x).0 (ap (λ n. bit_at n x) (sym same) ∙ h) in
          (ap (λ n. bit_at n x) (sym was) ∙ both.0, λ p. both.1 p.from_left p.to_right)),
      λ h. ap (λ n. bit_at n x) same ∙ (adds x).1 (
        ap (λ n. bit_at n x) was ∙ h.0,
        λ l m. h.1 (record { from_left = l; to_right = m; from_top = from; to_bottom = to }),
      ),
    )

pub filled_more : (old now : List ℕ) (cells : Cells) (i bits : ℕ) → Filled old now cells i → i < length now
    → cells.row ≤ i → i < cells.row + cells.rows → AddsColumns (slice_index now i) bits cells.column cells.columns
    → Filled old (slice_set now i bits) cells (i + 1)
filled_more old now cells i bits f w from to adds = record {
  done = λ x y l. elim (cases_lt y i) [
    | inl m ↦ filled_before old now cells i bits x y f w m
    | inr m ↦ (let e : i ≡ y = omega (arith, l, m) in
        subst (λ k. IsOpenAt (slice_set now i bits) x k ↔ (IsOpenAt old x k × ¬ Holds cells x k)) e (filled_here old now cells i bits x f w from to adds))
  ];
  left = λ y l. get_or-set_other now i y bits 0 (omega (arith, l)) ∙ f.left y (omega (arith, l));
}

pub filled_all : (old now : List ℕ) (cells : Cells) (end : ℕ) → cells.row + cells.rows ≤ end → Filled old now cells end → Adds old now cells
filled_all old now cells end e f x y =
    elim (cases_lt y end) [
      | inl l ↦ f.done x y l
      | inr l ↦ (λ h. (ap (λ n. bit_at n x) (sym (f.left y l)) ∙ h, λ p. omega (arith, e, l, p.to_bottom)), λ h. ap (λ n. bit_at n x) (f.left y l) ∙ h.0)
    ]

-- ---- where so many are open

pub starts_one : (n : ℕ) → n < 2 ^ 128 → AreStarts n 1 (bit_not w128 n)
starts_one n small x l =
    let b = bit_at_not w128 n x small (omega (arith, l)) in (
      λ h y from to. (let e : x ≡ y = omega (arith, from, to) in omega (arith, b, h, bit_at-lt n x, ap (λ k. bit_at n k) e)),
      λ h. omega (arith, b, h x (omega arith) (omega arith)),
    )

-- a bit of a number that is shifted
shifted : (n k x : ℕ) → bit_at (n / 2 ^ k) x ≡ bit_at n (k + x)
shifted n k x = ap (λ m. m % 2) (shr-shr n k x)

pub starts_more : (n count step starts : ℕ) → step ≤ count → AreStarts n count starts → AreStarts n (count + step) (bit_and starts (starts / 2 ^ step))
starts_more n count step starts l a x w =
    let both = bit_at_and starts (starts / 2 ^ step) x in
    let s = shifted starts step x in
    let low = bit_at-lt starts x in
    let high = bit_at-lt starts (step + x) in (
      λ h y from to. elim (cases_lt y (x + count)) [
        | inl m ↦ (a x (omega (arith, w))).0 (omega (arith, both, s, h, low, high)) y from m
        | inr m ↦ (a (step + x) (omega (arith, w))).0 (omega (arith, both, s, h, low, high)) y (omega (arith, l, m)) (omega (arith, to))
      ],
      λ h.
          (let first = (a x (omega (arith, w))).1 (λ y from to. h y from (omega (arith, to))) in
          let second = (a (step + x) (omega (arith, w))).1 (λ y from to. h y (omega (arith, from)) (omega (arith, to))) in
          omega (arith, both, s, first, second)),
    )

-- no start from this one on
pub no_start : (n from width columns starts : ℕ) → columns ≤ 100 → AreStarts n width starts → starts / 2 ^ from ≡ 0
    → (c : ℕ) → from ≤ c → c + width ≤ columns → IsOpenFrom n c width → ⊥
no_start n from width columns starts small a e c l w h =
    let at : from + (c - from) ≡ c = omega (arith, l) in
    omega (arith, (a c (omega (arith, w, small))).1 h, shifted starts from (c - from), ap (λ k. bit_at starts k) at, ap (λ k. bit_at k (c - from)) e, bit_at-zero (c - from))

-- the first start is the first that is open
pub start_before : (n from width columns starts zeros : ℕ) → columns ≤ 100 → AreStarts n width starts
    → ((i : ℕ) → i < zeros → bit_at (starts / 2 ^ from) i ≡ 0)
    → (c : ℕ) → from ≤ c → c + width ≤ columns → IsOpenFrom n c width → from + zeros ≤ c
start_before n from width columns starts zeros small a none c l w h =
    elim (cases_lt c (from + zeros)) [
      | inr m ↦ m
      | inl m ↦
          (let at : from + (c - from) ≡ c = omega (arith, l) in
          absurd (omega (arith, (a c (omega (arith, w, small))).1 h, shifted starts from (c - from), ap (λ k. bit_at starts k) at, none (c - from) (omega (arith, l, m)))))
    ]

pub first_start : (n from width columns starts zeros : ℕ) → columns ≤ 100 → AreStarts n width starts → 0 < starts / 2 ^ from → starts < 2 ^ 128
    → zeros ≡ trailing_zeros w128 (starts / 2 ^ from) → from + zeros + width ≤ columns → IsNextOpen n from width columns (from + zeros)
first_start n from width columns starts zeros small a some top e inside =
    let t = subst (λ z. (z < 128) × (bit_at (starts / 2 ^ from) z ≡ 1) × ((i : ℕ) → i < z → bit_at (starts / 2 ^ from) i ≡ 0)) (sym e)
    (bit_at-trailing_zeros w128 (starts / 2 ^ from) some (omega (arith, top, shr_le starts from))) in
    record {
      from_on = omega arith;
      inside = inside;
      is_open = (a (from + zeros) (omega (arith, inside, small))).0 (sym (shifted starts from zeros) ∙ t.1);
      next = λ c l m h. omega (arith, m, start_before n from width columns starts zeros small a t.2 c l (omega (arith, m, inside)) h);
    }

pub past_last_start : (n from width columns starts zeros : ℕ) → columns ≤ 100 → AreStarts n width starts → 0 < starts / 2 ^ from → starts < 2 ^ 128
    → zeros ≡ trailing_zeros w128 (starts / 2 ^ from) → columns < from + zeros + width
    → (c : ℕ) → from ≤ c → c + width ≤ columns → IsOpenFrom n c width → ⊥
past_last_start n from width columns starts zeros small a some top e outside c l w h =
    let t = subst (λ z. (i : ℕ) → i < z → bit_at (starts / 2 ^ from) i ≡ 0) (sym e)
    (bit_at-trailing_zeros w128 (starts / 2 ^ from) some (omega (arith, top, shr_le starts from))).2 in
    omega (arith, outside, w, start_before n from width columns starts zeros small a t c l w h)
