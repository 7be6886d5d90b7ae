-- What the code has written down when an operation answers, and what follows of its answer.
use Rattle.std.proofs.Common.{◌≡◌, ℕ, zero, suc, ◌≤◌, negsuc, lit<, ◌*◌, ◌/◌, ◌^◌, ◌<◌, refl, sym, ◌∙◌, arith, ℤ, pos, to_z, of_z, Bool, true, false}
use Rattle.std.specs.Prelude.{◌+ℤ◌, ◌-ℤ◌, ◌*ℤ◌, ◌<ℤ◌, ◌↔◌, ◌==◌, not, neg_ℤ, unsigned_abs, int_lt, IsTrue, ◌&&◌, Some}
use Rattle.std.specs.Int.{w64, w128, int_signum}
use Rattle.std.proofs.lemmas.Int.{ints, to_z-of_z, unsigned_abs-mul}
use Rattle.std.proofs.Math.Nat.{mul-pos}
use borrow.Author.Differences.{below_in, lt-true, true_is_lt, lt_out}
use mir.Val.{SFits}
use Rattle.tx_frac.specs.Ratio.{Ratio, IsBounded, IsRatio, IsQuotient, in_range, lowest, gcd, sum_fits, sum_num, sum_of, add, less, is_less, div, quotient_of, whole_of, widened_left, widened_right, common_den}
use Rattle.tx_frac.proofs.Lowest.{IsRatio-lowest}
use Rattle.tx_frac.proofs.Operations.{widened_sum, widened_less, signum_small, signum_bound, IsQuotient-quotient_of}
use Rattle.tx_frac.proofs.lemmas.Gcd.{gcd_pos, gcd_le}

-- a signed number as it is read back from its bits
abbrev pub read_back : ℤ → ℤ
read_back z = to_z w128 (of_z w128 z)

pub read_back-below : (z : ℤ) → unsigned_abs z < 2 ^ 127 → read_back z ≡ z
read_back-below z h = let f : SFits w128 z = omega (arith, ints) in to_z-of_z w128 z f

pub below-in_range : (z : ℤ) → IsTrue (in_range z) → unsigned_abs z < 2 ^ 127
below-in_range z h = grind arith

pub in_range-below : (z : ℤ) → unsigned_abs z < 2 ^ 127 → IsTrue (in_range z)
in_range-below z h = grind arith

pub both_true : (a b : Bool) → IsTrue a → IsTrue b → IsTrue (a && b)
both_true true b p q = q
both_true false b p q = p

-- the parts of a sum, as the code has them when it answers s
pub record SumWritten (x y s : Ratio) (l r n : ℤ) (d g : ℕ) : Type 0 where
  pub common : g ≡ gcd x.den y.den
  pub left : IsTrue (in_range (read_back x.num *ℤ pos (y.den / g))) × (l ≡ read_back x.num *ℤ pos (y.den / g))
  pub right : IsTrue (in_range (read_back y.num *ℤ pos (x.den / g))) × (r ≡ read_back y.num *ℤ pos (x.den / g))
  pub num : IsTrue (in_range (read_back l +ℤ read_back r)) × (n ≡ read_back l +ℤ read_back r)
  pub den : (x.den * (y.den / g) < 2 ^ 127) × (d ≡ x.den * (y.den / g))
  pub answer : s ≡ lowest (read_back n) d

pub record SumAnswered (x y s : Ratio) : Type 0 where
  pub exact : Some s ≡ add x y
  pub fits : IsTrue (sum_fits x y)
  pub value : IsRatio (sum_num x y) (x.den * y.den) s

pub sum_answered : (x y s : Ratio) (l r n : ℤ) (d g : ℕ) → IsBounded x → IsBounded y → SumWritten x y s l r n d g → SumAnswered x y s
unfolding add
sum_answered x y s l r n d g hx hy h =
    let ex : read_back x.num ≡ x.num = read_back-below x.num hx.num_below in
    let ey : read_back y.num ≡ y.num = read_back-below y.num hy.num_below in
    let left : IsTrue (in_range (widened_left x y)) × (l ≡ widened_left x y) = rw (ex, h.common) at h.left in
    let right : IsTrue (in_range (widened_right x y)) × (r ≡ widened_right x y) = rw (ey, h.common) at h.right in
    let el : read_back l ≡ l = read_back-below l (rw left.1 (below-in_range (widened_left x y) left.0)) in
    let er : read_back r ≡ r = read_back-below r (rw right.1 (below-in_range (widened_right x y) right.0)) in
    let num : IsTrue (in_range (widened_left x y +ℤ widened_right x y)) × (n ≡ widened_left x y +ℤ widened_right x y) = rw (el, er, left.1, right.1) at h.num in
    let en : read_back n ≡ n = read_back-below n (rw num.1 (below-in_range (widened_left x y +ℤ widened_right x y) num.0)) in
    let den : (common_den x y < 2 ^ 127) × (d ≡ common_den x y) = rw h.common at h.den in
    let answer : s ≡ lowest (widened_left x y +ℤ widened_right x y) (common_den x y) = rw (en, num.1, den.1) at h.answer in
    let is : s ≡ sum_of x y = answer ∙ widened_sum x y hx.lowest_terms.positive hy.lowest_terms.positive in
    let fits : IsTrue (sum_fits x y) =
    both_true _ (in_range (pos (common_den x y))) (both_true _ (in_range (widened_left x y +ℤ widened_right x y)) (both_true (in_range (widened_left x y)) _ left.0 right.0) num.0) (in_range-below (pos (common_den x y)) den.0) in
    record {
      exact = rw (fits, is) refl;
      fits = fits;
      value = rw is (IsRatio-lowest (sum_num x y) (x.den * y.den) (mul-pos hx.lowest_terms.positive hy.lowest_terms.positive));
    }

-- the parts of a comparison
pub record OrderWritten (x y : Ratio) (l r : ℤ) (g : ℕ) : Type 0 where
  pub common : g ≡ gcd x.den y.den
  pub left : IsTrue (in_range (read_back x.num *ℤ pos (y.den / g))) × (l ≡ read_back x.num *ℤ pos (y.den / g))
  pub right : IsTrue (in_range (read_back y.num *ℤ pos (x.den / g))) × (r ≡ read_back y.num *ℤ pos (x.den / g))

pub record OrderAnswered (x y : Ratio) (b : Bool) : Type 0 where
  pub exact : Some b ≡ less x y
  pub value : IsTrue b ↔ ((x.num *ℤ pos y.den) <ℤ (y.num *ℤ pos x.den))

pub order_answered : (x y : Ratio) (l r : ℤ) (g : ℕ) → IsBounded x → IsBounded y → OrderWritten x y l r g → OrderAnswered x y (int_lt (read_back l) (read_back r))
unfolding less
order_answered x y l r g hx hy h =
    let ex : read_back x.num ≡ x.num = read_back-below x.num hx.num_below in
    let ey : read_back y.num ≡ y.num = read_back-below y.num hy.num_below in
    let left : IsTrue (in_range (widened_left x y)) × (l ≡ widened_left x y) = rw (ex, h.common) at h.left in
    let right : IsTrue (in_range (widened_right x y)) × (r ≡ widened_right x y) = rw (ey, h.common) at h.right in
    let el : read_back l ≡ l = read_back-below l (rw left.1 (below-in_range (widened_left x y) left.0)) in
    let er : read_back r ≡ r = read_back-below r (rw right.1 (below-in_range (widened_right x y) right.0)) in
    let fits : IsTrue (in_range (widened_left x y) && in_range (widened_right x y)) = both_true (in_range (widened_left x y)) _ left.0 right.0 in
    let is : int_lt (read_back l) (read_back r) ≡ is_less x y = rw (el, er, left.1, right.1) (widened_less x y hx.lowest_terms.positive hy.lowest_terms.positive) in
    record {
      exact = rw (fits, is) refl;
      value = rw is (ordered (x.num *ℤ pos y.den) (y.num *ℤ pos x.den));
    }
  where
    ordered : (m n : ℤ) → IsTrue (int_lt m n) ↔ (m <ℤ n)
    ordered m n = (λ p. below_in m n (lt-true m n p), λ p. sym (true_is_lt m n (lt_out m n p)))

-- what the code writes for the opposite sign
pub negated_written : (z : ℤ) → unsigned_abs z < 2 ^ 127 → read_back (pos 0 -ℤ read_back z) ≡ neg_ℤ z
negated_written z h =
    let back : read_back z ≡ z = read_back-below z h in
    let same : pos 0 -ℤ z ≡ neg_ℤ z = omega (arith, ints) in
    let small : unsigned_abs (neg_ℤ z) < 2 ^ 127 = omega (arith, ints) in
    rw (back, same) (read_back-below (neg_ℤ z) small)

-- the parts of a quotient
pub record QuotientWritten (x y q : Ratio) (n s : ℤ) (d k : ℕ) : Type 0 where
  pub apart : y.num ≡ pos 0 → ⊥
  pub num : IsTrue (in_range (read_back x.num *ℤ pos y.den)) × (n ≡ read_back x.num *ℤ pos y.den)
  pub size : k ≡ unsigned_abs (read_back y.num)
  pub den : (x.den * k < 2 ^ 127) × (d ≡ x.den * k)
  pub sign : s ≡ int_signum (read_back y.num)
  pub answer : q ≡ lowest (read_back (read_back n *ℤ read_back s)) d

pub record QuotientAnswered (x y q : Ratio) : Type 0 where
  pub exact : Some q ≡ div x y
  pub apart : 0 < unsigned_abs y.num
  pub num_fits : IsTrue (in_range (x.num *ℤ pos y.den))
  pub den_fits : IsTrue (in_range (pos x.den *ℤ y.num))
  pub value : IsQuotient x y q

-- a product with a sign is in range where the number is
pub signed_in_range : (n s z : ℤ) → s ≡ int_signum z → unsigned_abs n < 2 ^ 127 → (read_back s ≡ s) × (unsigned_abs (n *ℤ s) < 2 ^ 127)
signed_in_range n s z e h =
    let small : unsigned_abs (int_signum z) ≤ 1 = signum_small z in
    let low : unsigned_abs (n *ℤ int_signum z) ≤ unsigned_abs n = signum_bound n z in
    rw e (read_back-below (int_signum z) (omega arith), omega arith)

pub quotient_answered : (x y q : Ratio) (n s : ℤ) (d k : ℕ) → IsBounded x → IsBounded y → QuotientWritten x y q n s d k → QuotientAnswered x y q
unfolding div
quotient_answered x y q n s d k hx hy h =
    let ex : read_back x.num ≡ x.num = read_back-below x.num hx.num_below in
    let ey : read_back y.num ≡ y.num = read_back-below y.num hy.num_below in
    let apart : 0 < unsigned_abs y.num = abs_pos y.num h.apart in
    let num : IsTrue (in_range (x.num *ℤ pos y.den)) × (n ≡ x.num *ℤ pos y.den) = rw ex at h.num in
    let size : k ≡ unsigned_abs y.num = rw ey at h.size in
    let den : (x.den * unsigned_abs y.num < 2 ^ 127) × (d ≡ x.den * unsigned_abs y.num) = rw size at h.den in
    let sign : s ≡ int_signum y.num = rw ey at h.sign in
    let below : unsigned_abs n < 2 ^ 127 = rw num.1 (below-in_range (x.num *ℤ pos y.den) num.0) in
    let en : read_back n ≡ n = read_back-below n below in
    let signed = signed_in_range n s y.num sign below in
    let whole : read_back (read_back n *ℤ read_back s) ≡ n *ℤ s = rw (en, signed.0) (read_back-below (n *ℤ s) signed.1) in
    let is : q ≡ quotient_of x y = rw (whole, num.1, sign, den.1) at h.answer in
    let den_fits : IsTrue (in_range (pos x.den *ℤ y.num)) = in_range-below (pos x.den *ℤ y.num) (rw (unsigned_abs-mul (pos x.den) y.num) den.0) in
    let fits : IsTrue (not (unsigned_abs y.num == 0) && in_range (x.num *ℤ pos y.den) && in_range (pos x.den *ℤ y.num)) =
    both_true _ (in_range (pos x.den *ℤ y.num)) (both_true (not (unsigned_abs y.num == 0)) (in_range (x.num *ℤ pos y.den)) (grind arith) num.0) den_fits in
    record {
      exact = rw (fits, is) refl;
      apart = apart;
      num_fits = num.0;
      den_fits = den_fits;
      value = rw is (IsQuotient-quotient_of x y hx.lowest_terms.positive apart);
    }
  where
    abs_pos : (z : ℤ) → (z ≡ pos 0 → ⊥) → 0 < unsigned_abs z
    abs_pos (pos zero) h = absurd (h refl)
    abs_pos (pos (suc n)) h = omega arith
    abs_pos (negsuc n) h = omega arith

-- the whole numbers of 64 bits
pub IsBounded-whole_of : (z : ℤ) → SFits w64 z → IsBounded (whole_of z)
IsBounded-whole_of z f =
    record {
      lowest_terms = record { positive = omega arith; coprime = let g = gcd_pos (unsigned_abs z) 1 (omega arith) in let h = gcd_le (unsigned_abs z) 1 (omega arith) in omega arith };
      num_below = omega (arith, ints);
      den_below = lit< tt;
    }

pub whole_written : (z : ℤ) → SFits w64 z → read_back (to_z w64 (of_z w64 z)) ≡ z
whole_written z f = rw (to_z-of_z w64 z f) (read_back-below z (omega (arith, ints)))
