-- Fractions over a denominator that isn't their own.
use Rattle.std.proofs.Common.{◌≡◌, ℕ, zero, suc, ◌*◌, ◌/◌, ◌^◌, ◌<◌, ◌≤◌, refl, sym, ◌∙◌, ap, arith, ℤ, pos, negsuc, Some}
use Rattle.std.specs.Prelude.{◌+ℤ◌, ◌*ℤ◌, neg_ℤ, unsigned_abs, int_lt, IsTrue, not, ◌==◌, ◌&&◌}
use Rattle.std.specs.Int.{◌∣◌}
use Rattle.std.proofs.lemmas.Int.{ints, unsigned_abs-mul}
use Rattle.std.proofs.Math.Nat.{mul_comm, mul_assoc, mul-one, mul-pos, div-mul_cancel, dvd-mul_left, le_of_dvd, le-mul_of_pos_right, mul-le-mul, dvd_of_mul-dvd-mul_right, mul-dvd-mul_left}
use borrow.Author.Differences.{neg_is, product_is}
use Rattle.tx_frac.specs.Ratio.{Ratio, IsRatio, in_range, gcd, whole_of, negated, sum_num, sum_of, product_of, quotient_of, is_less, widened_left, widened_right, common_den, sum_fits, add, mul, div, less}
use Rattle.tx_frac.specs.Laws.{OneForm, SumsOverOne, ProductsOverTwo, DefinedInRange}
use Rattle.tx_frac.proofs.lemmas.Gcd.{IsGcd-gcd, gcd_pos, gcd_le, gcd-div, dvd-of_coprime}
use Rattle.tx_frac.proofs.Lowest.{IsRatio-lowest, same_lowest, div_pos}
use Rattle.tx_frac.proofs.Operations.{lt_scaled, shared, spread, IsQuotient-quotient_of}
use Rattle.tx_frac.proofs.lemmas.Whole.{*ℤ_assoc, *ℤ_left_comm, *ℤ_right_comm, +ℤ-*ℤ, cancel_pos, abs-same}
use Rattle.tx_frac.proofs.Written.{both_true, in_range-below}

-- ---- an equation times a number

scaled : (a m : ℤ) (k b j : ℕ) → a *ℤ pos k ≡ m *ℤ pos b → a *ℤ pos (k * j) ≡ m *ℤ pos (b * j)
scaled a m k b j e = sym (*ℤ_assoc a (pos k) (pos j)) ∙ (ap (λ z. z *ℤ pos j) e ∙ *ℤ_assoc m (pos b) (pos j))

-- the same factor in another order
as_product : (a : ℤ) (m n : ℕ) → m ≡ n → a *ℤ pos m ≡ a *ℤ pos n
as_product a m n e = ap (λ k. a *ℤ pos k) e

four : (a b : ℤ) (p q : ℕ) → (a *ℤ pos p) *ℤ (b *ℤ pos q) ≡ (a *ℤ b) *ℤ pos (p * q)
four a b p q =
    *ℤ_assoc a (pos p) (b *ℤ pos q) ∙ (ap (λ z. a *ℤ z) (*ℤ_left_comm (pos p) b (pos q)) ∙ sym (*ℤ_assoc a b (pos (p * q))))

-- ---- one form

number : (k : ℕ) (m n : ℤ) (x : Ratio) → IsRatio m k x → IsRatio n k x → m ≡ n
number k m n x p q = cancel_pos m n x.den p.lowest_terms.positive (sym p.same ∙ q.same)

fraction : (k : ℕ) (n : ℤ) (x y : Ratio) → 0 < k → IsRatio n k x → IsRatio n k y → x ≡ y
fraction k n x y hk p q =
    same_lowest x y p.lowest_terms q.lowest_terms
    (cancel_pos _ _ k hk
    (*ℤ_right_comm x.num (pos y.den) (pos k) ∙ (ap (λ z. z *ℤ pos y.den) p.same ∙ (*ℤ_right_comm n (pos x.den) (pos y.den) ∙ (ap (λ z. z *ℤ pos x.den) (sym q.same) ∙ *ℤ_right_comm y.num (pos k) (pos x.den))))))

wider : (k j : ℕ) (n : ℤ) (x : Ratio) → IsRatio n k x → IsRatio (n *ℤ pos j) (k * j) x
wider k j n x p =
    record {
      same = scaled x.num n k x.den j p.same ∙ (as_product n (x.den * j) (j * x.den) (mul_comm x.den j) ∙ sym (*ℤ_assoc n (pos j) (pos x.den)));
      lowest_terms = p.lowest_terms;
    }

whole : (n : ℤ) (k : ℕ) → IsRatio (n *ℤ pos k) k (whole_of n)
whole n k =
    record {
      same = sym (*ℤ_assoc n (pos k) (pos 1) ∙ as_product n (k * 1) k (mul-one k));
      lowest_terms =
          record {
            positive = omega arith;
            coprime = let g = gcd_pos (unsigned_abs n) 1 (omega arith) in let h = gcd_le (unsigned_abs n) 1 (omega arith) in omega arith;
          };
    }

pub one_form : OneForm
one_form = record { number = number; fraction = fraction; wider = wider; itself = λ x h. record { same = refl; lowest_terms = h }; whole = whole }

-- ---- sums

sum : (k : ℕ) (m n : ℤ) (x y : Ratio) → 0 < k → IsRatio m k x → IsRatio n k y → IsRatio (m +ℤ n) k (sum_of x y)
sum k m n x y hk p q =
    let D = x.den * y.den in
    let hD : 0 < x.den * y.den = mul-pos p.lowest_terms.positive q.lowest_terms.positive in
    let l = IsRatio-lowest (sum_num x y) (x.den * y.den) hD in
    let z = sum_of x y in
    let left : x.num *ℤ pos (y.den * (z.den * k)) ≡ m *ℤ pos (z.den * D) =
    as_product x.num _ _ (omega arith) ∙ (scaled x.num m k x.den (y.den * z.den) p.same ∙ as_product m _ _ (omega arith)) in
    let right : y.num *ℤ pos (x.den * (z.den * k)) ≡ n *ℤ pos (z.den * D) =
    as_product y.num _ _ (omega arith) ∙ (scaled y.num n k y.den (x.den * z.den) q.same ∙ as_product n _ _ (omega arith)) in
    let both : x.num *ℤ pos (y.den * (z.den * k)) +ℤ y.num *ℤ pos (x.den * (z.den * k)) ≡ m *ℤ pos (z.den * D) +ℤ n *ℤ pos (z.den * D) =
    ap (λ a. a +ℤ y.num *ℤ pos (x.den * (z.den * k))) left ∙ ap (λ a. m *ℤ pos (z.den * D) +ℤ a) right in
    record {
      same =
          cancel_pos _ _ D hD
          (*ℤ_right_comm z.num (pos k) (pos D) ∙ (ap (λ a. a *ℤ pos k) l.same
          ∙ (*ℤ_assoc (sum_num x y) (pos z.den) (pos k) ∙ (spread x.num y.num y.den x.den (z.den * k)
          ∙ (both ∙ (sym (+ℤ-*ℤ m n (pos (z.den * D))) ∙ sym (*ℤ_assoc (m +ℤ n) (pos z.den) (pos D))))))));
      lowest_terms = l.lowest_terms;
    }

neg_times : (z : ℤ) (k : ℕ) → neg_ℤ z *ℤ pos k ≡ neg_ℤ (z *ℤ pos k)
neg_times z k =
    let n = neg_is z in
    let x = rw (n.0, n.1) at (product_is (neg_ℤ z) (pos k)) in
    omega (arith, ints, x)

abs_neg : (z : ℤ) → unsigned_abs (neg_ℤ z) ≡ unsigned_abs z
abs_neg z = omega (arith, ints)

opposite : (k : ℕ) (n : ℤ) (x : Ratio) → IsRatio n k x → IsRatio (neg_ℤ n) k (negated x)
opposite k n x p =
    record {
      same = neg_times x.num k ∙ (ap neg_ℤ p.same ∙ sym (neg_times n x.den));
      lowest_terms = record { positive = p.lowest_terms.positive; coprime = rw (abs_neg x.num) p.lowest_terms.coprime };
    }

order : (k : ℕ) (m n : ℤ) (x y : Ratio) → 0 < k → IsRatio m k x → IsRatio n k y → is_less x y ≡ int_lt m n
order k m n x y hk p q =
    let D = x.den * y.den in
    let hD : 0 < x.den * y.den = mul-pos p.lowest_terms.positive q.lowest_terms.positive in
    let left : x.num *ℤ pos y.den *ℤ pos k ≡ m *ℤ pos D =
    *ℤ_assoc x.num (pos y.den) (pos k) ∙ (as_product x.num _ _ (mul_comm y.den k) ∙ scaled x.num m k x.den y.den p.same) in
    let right : y.num *ℤ pos x.den *ℤ pos k ≡ n *ℤ pos D =
    *ℤ_assoc y.num (pos x.den) (pos k) ∙ (as_product y.num _ _ (mul_comm x.den k) ∙ (scaled y.num n k y.den x.den q.same ∙ as_product n _ _ (mul_comm y.den x.den))) in
    let s = lt_scaled (x.num *ℤ pos y.den) (y.num *ℤ pos x.den) k hk in
    sym (rw (left, right) at s) ∙ lt_scaled m n D hD

pub sums_over_one : SumsOverOne
sums_over_one = record { sum = sum; opposite = opposite; order = order }

-- ---- products

product : (k l : ℕ) (m n : ℤ) (x y : Ratio) → IsRatio m k x → IsRatio n l y → IsRatio (m *ℤ n) (k * l) (product_of x y)
product k l m n x y p q =
    let D = x.den * y.den in
    let hD : 0 < x.den * y.den = mul-pos p.lowest_terms.positive q.lowest_terms.positive in
    let r = IsRatio-lowest (x.num *ℤ y.num) (x.den * y.den) hD in
    let z = product_of x y in
    let both : (x.num *ℤ y.num) *ℤ pos (k * l) ≡ (m *ℤ n) *ℤ pos D =
    sym (four x.num y.num k l) ∙ (ap (λ a. a *ℤ (y.num *ℤ pos l)) p.same ∙ (ap (λ a. (m *ℤ pos x.den) *ℤ a) q.same ∙ four m n x.den y.den)) in
    record {
      same =
          cancel_pos _ _ D hD
          (*ℤ_right_comm z.num (pos (k * l)) (pos D) ∙ (ap (λ a. a *ℤ pos (k * l)) r.same
          ∙ (*ℤ_right_comm (x.num *ℤ y.num) (pos z.den) (pos (k * l)) ∙ (ap (λ a. a *ℤ pos z.den) both ∙ *ℤ_right_comm (m *ℤ n) (pos D) (pos z.den)))));
      lowest_terms = r.lowest_terms;
    }

positive_num : (l j : ℕ) (y : Ratio) → 0 < l → 0 < j → IsRatio (pos j) l y → 0 < unsigned_abs y.num
positive_num l j y hl hj p = size y.num y.den l j hj p.lowest_terms.positive p.same
  where
    size : (z : ℤ) (d l j : ℕ) → 0 < j → 0 < d → z *ℤ pos l ≡ pos j *ℤ pos d → 0 < unsigned_abs z
    size (pos zero) d l j hj hd e = absurd (let h : 0 < j * d = mul-pos hj hd in omega (arith, ints))
    size (pos (suc n)) d l j hj hd e = omega arith
    size (negsuc n) d l j hj hd e = omega arith

quotient : (k l j : ℕ) (m : ℤ) (x y : Ratio) → 0 < l → 0 < j → IsRatio m k x → IsRatio (pos j) l y → IsRatio (m *ℤ pos l) (k * j) (quotient_of x y)
quotient k l j m x y hl hj p h =
    let r = IsQuotient-quotient_of x y p.lowest_terms.positive (positive_num l j y hl hj h) in
    let q = quotient_of x y in
    let E = x.den * y.den in
    let hE : 0 < x.den * y.den = mul-pos p.lowest_terms.positive h.lowest_terms.positive in
    -- both sides times the two denominators
    let swap : q.num *ℤ pos (j * y.den) ≡ q.num *ℤ y.num *ℤ pos l = ap (λ a. q.num *ℤ a) (sym h.same) ∙ sym (*ℤ_assoc q.num y.num (pos l)) in
    let left : q.num *ℤ pos (k * j) *ℤ pos E ≡ (q.num *ℤ y.num *ℤ pos x.den) *ℤ pos (l * k) =
    *ℤ_assoc q.num (pos (k * j)) (pos E) ∙ (as_product q.num _ ((j * y.den) * (x.den * k)) (omega arith)
    ∙ (sym (*ℤ_assoc q.num (pos (j * y.den)) (pos (x.den * k))) ∙ (ap (λ a. a *ℤ pos (x.den * k)) swap
    ∙ (*ℤ_assoc (q.num *ℤ y.num) (pos l) (pos (x.den * k)) ∙ (as_product (q.num *ℤ y.num) (l * (x.den * k)) (x.den * (l * k)) (omega arith)
    ∙ sym (*ℤ_assoc (q.num *ℤ y.num) (pos x.den) (pos (l * k)))))))) in
    let right : (x.num *ℤ pos (q.den * y.den)) *ℤ pos (l * k) ≡ m *ℤ pos l *ℤ pos q.den *ℤ pos E =
    *ℤ_assoc x.num (pos (q.den * y.den)) (pos (l * k)) ∙ (as_product x.num _ (k * (q.den * y.den * l)) (omega arith)
    ∙ (scaled x.num m k x.den (q.den * y.den * l) p.same ∙ (as_product m _ (l * (q.den * E)) (omega arith)
    ∙ sym (*ℤ_assoc (m *ℤ pos l) (pos q.den) (pos E) ∙ *ℤ_assoc m (pos l) (pos (q.den * E)))))) in
    record {
      same = cancel_pos _ _ E hE (left ∙ (ap (λ a. a *ℤ pos (l * k)) r.same ∙ right));
      lowest_terms = r.lowest_terms;
    }

pub products_over_two : ProductsOverTwo
products_over_two = record { product = product; quotient = quotient }

-- ---- what is in range

den_divides : (k : ℕ) (n : ℤ) (x : Ratio) → IsRatio n k x → x.den ∣ k
den_divides k n x p =
    let f : unsigned_abs x.num * k ≡ unsigned_abs n * x.den = abs-same x.num n x.den k p.same in
    let d : x.den ∣ k * unsigned_abs x.num = rw (mul_comm k (unsigned_abs x.num), f) (dvd-mul_left x.den (unsigned_abs n)) in
    dvd-of_coprime (unsigned_abs x.num) x.den k p.lowest_terms.positive p.lowest_terms.coprime d

abs_le : (z m : ℤ) (q : ℕ) → 0 < q → z *ℤ pos q ≡ m → unsigned_abs z ≤ unsigned_abs m
abs_le z m q hq e = rw (← e, unsigned_abs-mul z (pos q)) (le-mul_of_pos_right (unsigned_abs z) hq)

-- the numerator over a multiple of the denominator, which is k's part
over : (k : ℕ) (m : ℤ) (x : Ratio) (e q : ℕ) → x.den * e * q ≡ k → IsRatio m k x → (x.num *ℤ pos e) *ℤ pos q ≡ m
over k m x e q h p =
    cancel_pos _ _ x.den p.lowest_terms.positive
    (ap (λ z. z *ℤ pos x.den) (*ℤ_assoc x.num (pos e) (pos q)) ∙ (*ℤ_assoc x.num (pos (e * q)) (pos x.den)
    ∙ (as_product x.num (e * q * x.den) k (let f : e * q * x.den ≡ x.den * e * q = omega arith in f ∙ h) ∙ p.same)))

num_small : (k : ℕ) (m : ℤ) (x : Ratio) → 0 < k → IsRatio m k x → unsigned_abs x.num ≤ unsigned_abs m
num_small k m x hk p =
    let d = den_divides k m x p in
    let q = k / x.den in
    let e : q * x.den ≡ k = div-mul_cancel x.den d in
    let hq : 0 < k / x.den = div_pos k x.den hk d in
    abs_le x.num m (k / x.den) hq
    (let o = over k m x 1 (k / x.den) (let f : x.den * 1 * (k / x.den) ≡ k / x.den * x.den = omega arith in f ∙ e) p in
    rw (times_one x.num) at o)
  where
    times_one : (z : ℤ) → z *ℤ pos 1 ≡ z
    times_one z = omega (arith, ints)

-- the least common multiple of two divisors is a divisor
common_divides : (b d k : ℕ) → 0 < b → 0 < d → b ∣ k → d ∣ k → b * (d / gcd b d) ∣ k
common_divides b d k hb hd p q =
    let is = IsGcd-gcd b d hd in
    let g = gcd b d in
    let eb : b / g * g ≡ b = div-mul_cancel g is.0 in
    let ed : d / g * g ≡ d = div-mul_cancel g is.1 in
    let c = k / b in
    let ek : c * b ≡ k = div-mul_cancel b p in
    let r : (d / g) * g ∣ (c * (b / g)) * g = rw (ed, mul_assoc c (b / g) g, eb, ek) q in
    let s : d / g ∣ c * (b / g) = dvd_of_mul-dvd-mul_right (d / g) (gcd_pos b d hd) r in
    let t : d / g ∣ c = dvd-of_coprime (b / g) (d / g) c (div_pos d g hd is.1) (gcd-div b d hd) s in
    rw (← ek, mul_comm c b) (mul-dvd-mul_left (d / g) b t)

defined_sum : (k : ℕ) (m n : ℤ) (x y : Ratio) → 0 < k → k < 2 ^ 127 → unsigned_abs m < 2 ^ 127 → unsigned_abs n < 2 ^ 127 → unsigned_abs (m +ℤ n) < 2 ^ 127
    → IsRatio m k x → IsRatio n k y → add x y ≡ Some (sum_of x y)
unfolding add
defined_sum k m n x y hk small hm hn hs p h =
    let hx = p.lowest_terms.positive in
    let hy = h.lowest_terms.positive in
    let d = common_divides x.den y.den k hx hy (den_divides k m x p) (den_divides k n y h) in
    let q = k / common_den x y in
    let e : q * common_den x y ≡ k = div-mul_cancel (common_den x y) d in
    let hq : 0 < k / common_den x y = div_pos k (common_den x y) hk d in
    let left = over k m x (y.den / gcd x.den y.den) q (mul_comm (common_den x y) q ∙ e) p in
    let other : y.den * (x.den / gcd x.den y.den) * q ≡ k = rw (← (shared x.den y.den hy)) (mul_comm (common_den x y) q ∙ e) in
    let right = over k n y (x.den / gcd x.den y.den) q other h in
    let both : (widened_left x y +ℤ widened_right x y) *ℤ pos q ≡ m +ℤ n = +ℤ-*ℤ (widened_left x y) (widened_right x y) (pos q) ∙ (ap (λ z. z +ℤ widened_right x y *ℤ pos q) left ∙ ap (λ z. m +ℤ z) right) in
    let a : unsigned_abs (widened_left x y) ≤ unsigned_abs m = abs_le (widened_left x y) m q hq left in
    let b : unsigned_abs (widened_right x y) ≤ unsigned_abs n = abs_le (widened_right x y) n q hq right in
    let c : unsigned_abs (widened_left x y +ℤ widened_right x y) ≤ unsigned_abs (m +ℤ n) = abs_le (widened_left x y +ℤ widened_right x y) (m +ℤ n) q hq both in
    let f : common_den x y ≤ k = le_of_dvd hk d in
    let fits : IsTrue (sum_fits x y) =
    both_true _ (in_range (pos (common_den x y)))
    (both_true _ (in_range (widened_left x y +ℤ widened_right x y))
    (both_true (in_range (widened_left x y)) _ (in_range-below (widened_left x y) (omega arith)) (in_range-below (widened_right x y) (omega arith)))
    (in_range-below (widened_left x y +ℤ widened_right x y) (omega arith)))
    (in_range-below (pos (common_den x y)) (omega arith)) in
    rw fits refl

defined_order : (k : ℕ) (m n : ℤ) (x y : Ratio) → 0 < k → unsigned_abs m < 2 ^ 127 → unsigned_abs n < 2 ^ 127
    → IsRatio m k x → IsRatio n k y → less x y ≡ Some (is_less x y)
unfolding less
defined_order k m n x y hk hm hn p h =
    let hx = p.lowest_terms.positive in
    let hy = h.lowest_terms.positive in
    let d = common_divides x.den y.den k hx hy (den_divides k m x p) (den_divides k n y h) in
    let q = k / common_den x y in
    let e : q * common_den x y ≡ k = div-mul_cancel (common_den x y) d in
    let hq : 0 < k / common_den x y = div_pos k (common_den x y) hk d in
    let left = over k m x (y.den / gcd x.den y.den) q (mul_comm (common_den x y) q ∙ e) p in
    let other : y.den * (x.den / gcd x.den y.den) * q ≡ k = rw (← (shared x.den y.den hy)) (mul_comm (common_den x y) q ∙ e) in
    let right = over k n y (x.den / gcd x.den y.den) q other h in
    let a : unsigned_abs (widened_left x y) ≤ unsigned_abs m = abs_le (widened_left x y) m q hq left in
    let b : unsigned_abs (widened_right x y) ≤ unsigned_abs n = abs_le (widened_right x y) n q hq right in
    let fits : IsTrue (in_range (widened_left x y) && in_range (widened_right x y)) =
    both_true (in_range (widened_left x y)) _ (in_range-below (widened_left x y) (omega arith)) (in_range-below (widened_right x y) (omega arith)) in
    rw fits refl

defined_product : (k l : ℕ) (m n : ℤ) (x y : Ratio) → 0 < k → 0 < l → unsigned_abs m * unsigned_abs n < 2 ^ 127 → k * l < 2 ^ 127
    → IsRatio m k x → IsRatio n l y → mul x y ≡ Some (product_of x y)
unfolding mul
defined_product k l m n x y hk hl small den_small p h =
    let a : unsigned_abs x.num * unsigned_abs y.num ≤ unsigned_abs m * unsigned_abs n = mul-le-mul (num_small k m x hk p) (num_small l n y hl h) in
    let b : x.den * y.den ≤ k * l = mul-le-mul (le_of_dvd hk (den_divides k m x p)) (le_of_dvd hl (den_divides l n y h)) in
    let c : unsigned_abs (x.num *ℤ y.num) < 2 ^ 127 = rw (unsigned_abs-mul x.num y.num) (omega arith) in
    let fits : IsTrue (in_range (x.num *ℤ y.num) && in_range (pos (x.den * y.den))) =
    both_true (in_range (x.num *ℤ y.num)) _ (in_range-below (x.num *ℤ y.num) c) (in_range-below (pos (x.den * y.den)) (omega arith)) in
    rw fits refl

defined_quotient : (k l j : ℕ) (m : ℤ) (x y : Ratio) → 0 < k → 0 < l → 0 < j → unsigned_abs m * l < 2 ^ 127 → k * j < 2 ^ 127
    → IsRatio m k x → IsRatio (pos j) l y → div x y ≡ Some (quotient_of x y)
unfolding div
defined_quotient k l j m x y hk hl hj small den_small p h =
    let a : unsigned_abs x.num * y.den ≤ unsigned_abs m * l = mul-le-mul (num_small k m x hk p) (le_of_dvd hl (den_divides l (pos j) y h)) in
    let b : x.den * unsigned_abs y.num ≤ k * j = mul-le-mul (le_of_dvd hk (den_divides k m x p)) (num_small l (pos j) y hl h) in
    let c : unsigned_abs (x.num *ℤ pos y.den) < 2 ^ 127 = rw (unsigned_abs-mul x.num (pos y.den)) (omega arith) in
    let d : unsigned_abs (pos x.den *ℤ y.num) < 2 ^ 127 = rw (unsigned_abs-mul (pos x.den) y.num) (omega arith) in
    let apart : 0 < unsigned_abs y.num = positive_num l j y hl hj h in
    let nonzero : IsTrue (not (unsigned_abs y.num == 0)) = not_zero (unsigned_abs y.num) apart in
    let fits : IsTrue (not (unsigned_abs y.num == 0) && in_range (x.num *ℤ pos y.den) && in_range (pos x.den *ℤ y.num)) =
    both_true _ (in_range (pos x.den *ℤ y.num)) (both_true (not (unsigned_abs y.num == 0)) _ nonzero (in_range-below (x.num *ℤ pos y.den) c)) (in_range-below (pos x.den *ℤ y.num) d) in
    rw fits refl
  where
    not_zero : (n : ℕ) → 0 < n → IsTrue (not (n == 0))
    not_zero n h = grind arith

pub defined_in_range : DefinedInRange
defined_in_range = record { sum = defined_sum; order = defined_order; product = defined_product; quotient = defined_quotient }
