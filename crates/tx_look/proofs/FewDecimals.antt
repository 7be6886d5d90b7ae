-- Values of the table of properties whose sizes have at most 3 decimals.
use Rattle.std.proofs.Common.{◌≡◌, ℕ, zero, suc, ◌+◌, ◌*◌, ◌/◌, ◌%◌, ◌^◌, ◌<◌, Bool, true, false, cond, ◌&&◌, not, List, [], ◌∷◌, length, ap, arith, ltb-true, eqb-true, div-add-mod', mul-lt-mul_of_pos_right, ℤ, pos, negsuc}
use Rattle.std.proofs.lemmas.Bool.{and_parts}
use Rattle.std.proofs.lemmas.Int.{ints}
use Rattle.std.proofs.lemmas.List.Elements.{All-cons, All-head, All-nil, All-tail}
use Rattle.std.specs.List.{list_all}
use Rattle.std.specs.Prelude.{All, ◌==◌, ◌*ℤ◌, int_lt, nat_lt, unsigned_abs}
use Rattle.tx_box.specs.Ordinary.{IsShortDecimal}
use Rattle.tx_frac.specs.Ratio.{Ratio}
use Rattle.tx_frac.specs.declared.scalars.Scalar.{Scalar}
use Rattle.tx_look.specs.Ordinary.{FewDecimalsAreOrdinary, HasFewDecimals, IsOrdinaryScalar}
use Rattle.tx_value.specs.Holds.{is_auto, is_given, is_of_sort, is_short, is_sized, is_track}
use Rattle.tx_value.specs.Numbers.{is_share, is_within}
use Rattle.tx_value.specs.PropertyTable.{Sort, Size, Limit, Tracks, sort_of}
use Rattle.tx_value.specs.declared.value.Value.TheVariants as value

-- a number of thousandths
record Thousandths (n d : ℕ) : Type 0 where
  count : ℕ
  few : count < 10 ^ 12
  same : n * 1000 ≡ count * d

positive : (q d : ℕ) → q * d ≡ 1000 → 0 < q
positive zero d w = absurd (omega (arith, w))
positive (suc q) d w = omega arith

thousandths_by : (n d q : ℕ) → q * d ≡ 1000 → n < 10 ^ 9 * d → Thousandths n d
thousandths_by n d q whole few =
    let more : n * q < 10 ^ 9 * d * q = mul-lt-mul_of_pos_right few (positive q d whole) in
    let most = ap (λ k. 10 ^ 9 * k) whole in
    let all = ap (λ k. n * k) whole in
    record { count = n * q; few = omega (arith, more, most); same = omega (arith, all) }

thousandths : (n d : ℕ) → 1000 % d ≡ 0 → n < 10 ^ 9 * d → Thousandths n d
thousandths n d none few = by (1000 / d) (1000 % d) (div-add-mod' 1000 d) none
  where
    by : (q r : ℕ) → q * d + r ≡ 1000 → r ≡ 0 → Thousandths n d
    by q r e z = thousandths_by n d q (omega (arith, e, z)) few

number_of : (z : ℤ) (d : ℕ) → 1000 % d ≡ 0 → (not (int_lt z (pos 0)) && (nat_lt (unsigned_abs z) (10 ^ 9 * d) && (10 ^ 18 % d == 0))) ≡ true
    → (t : ℕ) × (t < 10 ^ 12) × (z *ℤ pos 1000 ≡ pos t *ℤ pos d)
number_of (pos n) d none is =
    let rest = and_parts (not (int_lt (pos n) (pos 0))) (nat_lt n (10 ^ 9 * d) && (10 ^ 18 % d == 0)) is in
    let parts = and_parts (nat_lt n (10 ^ 9 * d)) (10 ^ 18 % d == 0) rest.1 in
    let t = thousandths n d none (ltb-true n (10 ^ 9 * d) parts.0) in
    let same = t.same in
    (t.count, t.few, omega (arith, ints, same))
number_of (negsuc n) d none is = absurd (let clash : false ≡ true = is in let c : ⊥ = cc in c)

short_decimal : (x : Ratio) → is_short x ≡ true → HasFewDecimals x → IsShortDecimal x
unfolding is_short
short_decimal x is h =
    let t = number_of x.num x.den h.decimals is in
    record { thousandths = t.0; digits = t.1; value = record { same = t.2; lowest_terms = h.lowest_terms } }

no_number : (z : ℤ) (d : ℕ) → (unsigned_abs z == 0) ≡ true → z *ℤ pos 1000 ≡ pos 0 *ℤ pos d
no_number (pos n) d is = let e : n ≡ 0 = eqb-true n 0 is in omega (arith, ints, e)
no_number (negsuc n) d is = let e : suc n ≡ 0 = eqb-true (suc n) 0 is in absurd (omega (arith, e))

sized_by : (auto : Bool) (x : Ratio) → cond auto (unsigned_abs x.num == 0) (is_short x) ≡ true → HasFewDecimals x → IsShortDecimal x
sized_by true x is h = record { thousandths = 0; digits = omega arith; value = record { same = no_number x.num x.den is; lowest_terms = h.lowest_terms } }
sized_by false x is h = short_decimal x is h

sized : (s : Scalar) → is_sized s ≡ true → HasFewDecimals s.value → IsOrdinaryScalar s
sized s is h = sized_by (is_auto s.unit) s.value is h

track : (s : Scalar) → is_track s ≡ true → HasFewDecimals s.value → IsOrdinaryScalar s
track s is h = let parts = and_parts (is_short s.value) (not (is_auto s.unit)) is in short_decimal s.value parts.0 h

abbrev HasFew : Scalar → Type 0
HasFew s = HasFewDecimals s.value

tracks : (ss : List Scalar) → list_all is_track ss ≡ true → All HasFew ss → All IsOrdinaryScalar ss
tracks [] is h = All-nil IsOrdinaryScalar
tracks (s ∷ ss) is h =
    let parts = and_parts (is_track s) (list_all is_track ss) is in
    All-cons IsOrdinaryScalar s ss (track s parts.0 (All-head HasFew s ss h)) (tracks ss parts.1 (All-tail HasFew s ss h))

sort_size : (sort : Sort) (s : Scalar) → is_of_sort sort (value.Size s) ≡ true → HasFewDecimals s.value → IsOrdinaryScalar s
sort_size Size s is h = sized s is h
sort_size Limit s is h = let parts = and_parts (is_track s) (not (is_share s.unit)) is in track s parts.0 h
sort_size _ s is h = absurd (let c : ⊥ = cc in c)

sort_sizes : (sort : Sort) (ss : List Scalar) → is_of_sort sort (value.Sizes ss) ≡ true → All HasFew ss → All IsOrdinaryScalar ss
sort_sizes Tracks ss is h = let parts = and_parts (is_within 1 60 (length ss)) (list_all is_track ss) is in tracks ss parts.1 h
sort_sizes _ ss is h = absurd (let c : ⊥ = cc in c)

pub few_decimals_are_ordinary : FewDecimalsAreOrdinary
unfolding is_given
few_decimals_are_ordinary property (value.Size s) is h = sort_size (sort_of property) s is h
few_decimals_are_ordinary property (value.Sizes ss) is h = sort_sizes (sort_of property) ss is h
few_decimals_are_ordinary property _ is h = tt
