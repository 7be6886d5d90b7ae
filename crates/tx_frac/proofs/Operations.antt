-- What the operations write down has the value that they promise.
use Rattle.std.proofs.Common.{◌≡◌, ℕ, zero, suc, ◌+◌, ◌*◌, ◌/◌, ◌<◌, ◌≤◌, ◌⊎◌, inl, inr, refl, sym, ◌∙◌, ap, arith, ℤ, pos, negsuc, Bool, true, false}
use Rattle.std.specs.Prelude.{◌+ℤ◌, ◌*ℤ◌, unsigned_abs, int_lt, min}
use Rattle.std.specs.Int.{int_signum}
use Rattle.std.proofs.lemmas.Int.{unsigned_abs-mul}
use Rattle.std.proofs.Math.Nat.{mul_comm, mul-one, mul-pos, div-mul_cancel, mul-le-mul_left, mul-le-mul_right, mul-lt-mul_of_pos_right}
use Rattle.std.proofs.Math.IntN.{*ℤ_comm, *ℤ-one, one}
use borrow.Author.Differences.{up, down, product_is, lt-true, lt-false, true_is_lt, false_is_lt}
use Rattle.tx_frac.specs.Ratio.{Ratio, IsQuotient, lowest, gcd, widened_left, widened_right, common_den, sum_of, is_less, quotient_of}
use Rattle.tx_frac.proofs.lemmas.Gcd.{IsGcd-gcd, gcd_pos}
use Rattle.tx_frac.proofs.Lowest.{IsRatio-lowest, lowest_same, div_pos}
use Rattle.tx_frac.proofs.lemmas.Whole.{*ℤ_assoc, *ℤ_right_comm, +ℤ-*ℤ}

-- ---- over the least common multiple

-- the two ways to the least common multiple of b and d
pub shared : (b d : ℕ) → 0 < d → b * (d / gcd b d) ≡ d * (b / gcd b d)
shared b d hd =
    let is = IsGcd-gcd b d hd in
    let g = gcd b d in
    crossed (b / g) (d / g) g b d (div-mul_cancel g is.0) (div-mul_cancel g is.1)
  where
    crossed : (m n g b d : ℕ) → m * g ≡ b → n * g ≡ d → b * n ≡ d * m
    crossed m n g b d p q = rw (← p, ← q) (omega arith)

pub common_den_pos : (x y : Ratio) → 0 < x.den → 0 < y.den → 0 < common_den x y
common_den_pos x y hx hy = mul-pos hx (div_pos y.den (gcd x.den y.den) hy (IsGcd-gcd x.den y.den hy).1)

pub spread : (a c : ℤ) (m n k : ℕ) → (a *ℤ pos m +ℤ c *ℤ pos n) *ℤ pos k ≡ a *ℤ pos (m * k) +ℤ c *ℤ pos (n * k)
spread a c m n k =
    +ℤ-*ℤ (a *ℤ pos m) (c *ℤ pos n) (pos k) ∙ (ap (λ z. z +ℤ (c *ℤ pos n) *ℤ pos k) (*ℤ_assoc a (pos m) (pos k)) ∙ ap (λ z. a *ℤ pos (m * k) +ℤ z) (*ℤ_assoc c (pos n) (pos k)))

-- the sum over the least common multiple is the sum
pub widened_sum : (x y : Ratio) → 0 < x.den → 0 < y.den → lowest (widened_left x y +ℤ widened_right x y) (common_den x y) ≡ sum_of x y
widened_sum x y hx hy =
    let g = gcd x.den y.den in
    let s = shared x.den y.den hy in
    let left : y.den / g * (x.den * y.den) ≡ y.den * (x.den * (y.den / g)) = omega arith in
    let right : x.den / g * (x.den * y.den) ≡ x.den * (x.den * (y.den / g)) = rw s (omega arith) in
    lowest_same _ _ _ _ (common_den_pos x y hx hy) (mul-pos hx hy)
    (spread x.num y.num (y.den / g) (x.den / g) (x.den * y.den)
    ∙ (ap (λ n. x.num *ℤ pos n +ℤ y.num *ℤ pos (x.den / g * (x.den * y.den))) left
    ∙ (ap (λ n. x.num *ℤ pos (y.den * (x.den * (y.den / g))) +ℤ y.num *ℤ pos n) right
    ∙ sym (spread x.num y.num y.den x.den (x.den * (y.den / g))))))

pub lt_scaled : (m n : ℤ) (k : ℕ) → 0 < k → int_lt (m *ℤ pos k) (n *ℤ pos k) ≡ int_lt m n
lt_scaled m n k h =
    elim (bool_cases (int_lt m n)) [
      | inl e ↦
          let t : (up m + down n) * k < (up n + down m) * k = mul-lt-mul_of_pos_right (lt-true m n e) h in
          sym (true_is_lt (m *ℤ pos k) (n *ℤ pos k) (omega (arith, product_is m (pos k), product_is n (pos k)))) ∙ sym e
      | inr e ↦
          let t : (up n + down m) * k ≤ (up m + down n) * k = mul-le-mul_right k (lt-false m n e) in
          sym (false_is_lt (m *ℤ pos k) (n *ℤ pos k) (omega (arith, product_is m (pos k), product_is n (pos k)))) ∙ sym e
    ]
  where
    bool_cases : (b : Bool) → (b ≡ true) ⊎ (b ≡ false)
    bool_cases true = inl refl
    bool_cases false = inr refl

-- the order of the numerators over the least common multiple is the order
pub widened_less : (x y : Ratio) → 0 < x.den → 0 < y.den → int_lt (widened_left x y) (widened_right x y) ≡ is_less x y
widened_less x y hx hy =
    let g = gcd x.den y.den in
    let is = IsGcd-gcd x.den y.den hy in
    let hg : 0 < g = gcd_pos x.den y.den hy in
    let eb : x.den / g * g ≡ x.den = div-mul_cancel g is.0 in
    let ed : y.den / g * g ≡ y.den = div-mul_cancel g is.1 in
    let left : (x.num *ℤ pos (y.den / g)) *ℤ pos g ≡ x.num *ℤ pos y.den = *ℤ_assoc x.num (pos (y.den / g)) (pos g) ∙ ap (λ n. x.num *ℤ pos n) ed in
    let right : (y.num *ℤ pos (x.den / g)) *ℤ pos g ≡ y.num *ℤ pos x.den = *ℤ_assoc y.num (pos (x.den / g)) (pos g) ∙ ap (λ n. y.num *ℤ pos n) eb in
    let scaled = lt_scaled (x.num *ℤ pos (y.den / g)) (y.num *ℤ pos (x.den / g)) g hg in
    sym (rw (left, right) at scaled)

-- ---- the quotient

-- a number is its size with its sign
signed_abs : (z : ℤ) → z ≡ pos (unsigned_abs z) *ℤ int_signum z
signed_abs (pos zero) = refl
signed_abs (pos (suc n)) = ap pos (let e : min (suc n) 1 ≡ 1 = omega arith in rw e (sym (mul-one (suc n))))
signed_abs (negsuc n) = rw (mul-one (suc n)) refl

signum_squared : (z : ℤ) → 0 < unsigned_abs z → int_signum z *ℤ int_signum z ≡ pos 1
signum_squared (pos zero) h = absurd (omega arith)
signum_squared (pos (suc n)) h = ap pos (let e : min (suc n) 1 ≡ 1 = omega arith in rw e refl)
signum_squared (negsuc n) h = refl

pub signum_small : (s : ℤ) → unsigned_abs (int_signum s) ≤ 1
signum_small (pos n) = omega arith
signum_small (negsuc n) = omega arith

-- a sign doesn't change how large a number is
pub signum_bound : (z s : ℤ) → unsigned_abs (z *ℤ int_signum s) ≤ unsigned_abs z
signum_bound z s =
    let small : unsigned_abs (int_signum s) ≤ 1 = signum_small s in
    rw (unsigned_abs-mul z (int_signum s)) (let h : unsigned_abs z * unsigned_abs (int_signum s) ≤ unsigned_abs z * 1 = mul-le-mul_left (unsigned_abs z) small in omega arith)

times_one : (z : ℤ) → z *ℤ pos 1 ≡ z
unfolding one
times_one z = *ℤ-one z

quotient_parts : (qn xn yn s : ℤ) (xd n yd qd : ℕ) → yn ≡ pos n *ℤ s → s *ℤ s ≡ pos 1 → qn *ℤ pos (xd * n) ≡ xn *ℤ pos yd *ℤ s *ℤ pos qd
    → qn *ℤ yn *ℤ pos xd ≡ xn *ℤ pos (qd * yd)
quotient_parts qn xn yn s xd n yd qd e one same =
    let left : qn *ℤ yn *ℤ pos xd ≡ qn *ℤ (pos (xd * n) *ℤ s) =
    *ℤ_assoc qn yn (pos xd) ∙ (ap (λ z. qn *ℤ (z *ℤ pos xd)) e ∙ ap (λ z. qn *ℤ z) (*ℤ_comm (pos n *ℤ s) (pos xd) ∙ sym (*ℤ_assoc (pos xd) (pos n) s))) in
    let middle : qn *ℤ (pos (xd * n) *ℤ s) ≡ (xn *ℤ pos yd *ℤ s *ℤ pos qd) *ℤ s = sym (*ℤ_assoc qn (pos (xd * n)) s) ∙ ap (λ z. z *ℤ s) same in
    let swapped : (xn *ℤ pos yd *ℤ s *ℤ pos qd) *ℤ s ≡ (xn *ℤ pos yd *ℤ pos qd *ℤ s) *ℤ s = ap (λ z. z *ℤ s) (*ℤ_right_comm (xn *ℤ pos yd) s (pos qd)) in
    let squared : (xn *ℤ pos yd *ℤ pos qd *ℤ s) *ℤ s ≡ xn *ℤ pos yd *ℤ pos qd = *ℤ_assoc (xn *ℤ pos yd *ℤ pos qd) s s ∙ (ap (λ z. xn *ℤ pos yd *ℤ pos qd *ℤ z) one ∙ times_one (xn *ℤ pos yd *ℤ pos qd)) in
    left ∙ (middle ∙ (swapped ∙ (squared ∙ (*ℤ_assoc xn (pos yd) (pos qd) ∙ ap (λ k. xn *ℤ pos k) (mul_comm yd qd)))))

-- the quotient times the divisor is the dividend
pub IsQuotient-quotient_of : (x y : Ratio) → 0 < x.den → 0 < unsigned_abs y.num → IsQuotient x y (quotient_of x y)
IsQuotient-quotient_of x y hx h =
    let l = IsRatio-lowest (x.num *ℤ pos y.den *ℤ int_signum y.num) (x.den * unsigned_abs y.num) (mul-pos hx h) in
    let q = quotient_of x y in
    record {
      same = quotient_parts q.num x.num y.num (int_signum y.num) x.den (unsigned_abs y.num) y.den q.den (signed_abs y.num) (signum_squared y.num h) l.same;
      lowest_terms = l.lowest_terms;
    }
