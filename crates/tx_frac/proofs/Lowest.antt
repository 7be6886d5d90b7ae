-- Lowest terms: `lowest` is the one pair in lowest terms that has the value of its arguments.
use Rattle.std.proofs.Common.{◌≡◌, ℕ, zero, suc, ◌*◌, ◌/◌, ◌^◌, ◌<◌, ◌≤◌, inl, inr, refl, sym, ◌∙◌, ap, arith, ℤ, pos, negsuc}
use Rattle.std.specs.Prelude.{◌*ℤ◌, neg_ℤ, unsigned_abs, int_div}
use Rattle.std.specs.Int.{◌∣◌}
use Rattle.std.proofs.Math.Nat.{mul_comm, eq-zero-or-pos, div-mul_cancel, dvd-mul_left, dvd_antisymm, div-le_self}
use Rattle.tx_frac.specs.Ratio.{Ratio, IsLowest, IsRatio, IsBounded, lowest, gcd}
use Rattle.tx_frac.proofs.lemmas.Whole.{*ℤ_right_comm, neg-*ℤ, cancel_pos, abs-same}
use Rattle.tx_frac.proofs.lemmas.Gcd.{IsGcd-gcd, gcd_pos, gcd-div, dvd-of_coprime}

-- ---- one pair in lowest terms for each value

dens_divide : (x y : Ratio) → IsLowest x → x.num *ℤ pos y.den ≡ y.num *ℤ pos x.den → x.den ∣ y.den
dens_divide x y hx e =
    let f : unsigned_abs x.num * y.den ≡ unsigned_abs y.num * x.den = abs-same x.num y.num x.den y.den e in
    let p : x.den ∣ unsigned_abs x.num * y.den = rw f (dvd-mul_left x.den (unsigned_abs y.num)) in
    dvd-of_coprime (unsigned_abs x.num) x.den y.den hx.positive hx.coprime (rw (mul_comm y.den (unsigned_abs x.num)) p)

abbrev over : ℤ → ℕ → Ratio
over n d = record { num = n; den = d }

same_parts : (m n : ℤ) (d e : ℕ) → m ≡ n → d ≡ e → over m d ≡ over n e
same_parts m n d e p q = cc

-- two pairs in lowest terms with one value are one pair
pub same_lowest : (x y : Ratio) → IsLowest x → IsLowest y → x.num *ℤ pos y.den ≡ y.num *ℤ pos x.den → x ≡ y
same_lowest x y hx hy e =
    let d : x.den ≡ y.den = dvd_antisymm (dens_divide x y hx e) (dens_divide y x hy (sym e)) in
    let f : x.num *ℤ pos y.den ≡ y.num *ℤ pos y.den = rw d at e in
    let n : x.num ≡ y.num = cancel_pos x.num y.num y.den hy.positive f in
    same_parts x.num y.num x.den y.den n d

-- ---- `lowest`

quotient_same : (n : ℤ) (d g : ℕ) → 0 < g → g ∣ unsigned_abs n → g ∣ d → int_div n (pos g) *ℤ pos d ≡ n *ℤ pos (d / g)
quotient_same (pos a) d g hg p q =
    let ea : a / g * g ≡ a = div-mul_cancel g p in
    let ed : d / g * g ≡ d = div-mul_cancel g q in
    ap pos (let f : a / g * (d / g * g) ≡ a / g * g * (d / g) = omega arith in rw (ed, ea) at f)
quotient_same (negsuc a) d g hg p q =
    let ea : suc a / g * g ≡ suc a = div-mul_cancel g p in
    let ed : d / g * g ≡ d = div-mul_cancel g q in
    let f : suc a / g * (d / g * g) ≡ suc a / g * g * (d / g) = omega arith in
    let h : suc a / g * d ≡ suc a * (d / g) = rw (ed, ea) at f in
    rw (neg-*ℤ (suc a / g) d, h) refl

abs_quotient : (n : ℤ) (g : ℕ) → unsigned_abs (int_div n (pos g)) ≡ unsigned_abs n / g
abs_quotient (pos a) g = refl
abs_quotient (negsuc a) g = abs-neg (suc a / g)
  where
    abs-neg : (k : ℕ) → unsigned_abs (neg_ℤ (pos k)) ≡ k
    abs-neg zero = refl
    abs-neg (suc k) = refl

pub div_pos : (d g : ℕ) → 0 < d → g ∣ d → 0 < d / g
div_pos d g hd p =
    elim (eq-zero-or-pos (d / g)) [
      | inl z ↦ absurd (let f : 0 * g ≡ d = rw z at (div-mul_cancel g p) in omega (arith, f))
      | inr q ↦ q
    ]

-- it has the value of n over d, and is in lowest terms
pub IsRatio-lowest : (n : ℤ) (d : ℕ) → 0 < d → IsRatio n d (lowest n d)
unfolding lowest
IsRatio-lowest n d hd =
    let is = IsGcd-gcd (unsigned_abs n) d hd in
    let hg = gcd_pos (unsigned_abs n) d hd in
    record {
      same = quotient_same n d (gcd (unsigned_abs n) d) hg is.0 is.1;
      lowest_terms =
          record {
            positive = div_pos d (gcd (unsigned_abs n) d) hd is.1;
            coprime = rw (abs_quotient n (gcd (unsigned_abs n) d)) (gcd-div (unsigned_abs n) d hd);
          };
    }

-- what is in lowest terms and has that value is it
pub lowest-of_IsRatio : (n : ℤ) (d : ℕ) (x : Ratio) → 0 < d → IsRatio n d x → x ≡ lowest n d
lowest-of_IsRatio n d x hd h =
    let l = IsRatio-lowest n d hd in
    let y = lowest n d in
    same_lowest x y h.lowest_terms l.lowest_terms (cancel_pos _ _ d hd
    (let e : x.num *ℤ pos d ≡ n *ℤ pos x.den = h.same in
    let f : y.num *ℤ pos d ≡ n *ℤ pos y.den = l.same in
    crossed x.num y.num n x.den y.den d e f))
  where
    crossed : (a b n : ℤ) (p q d : ℕ) → a *ℤ pos d ≡ n *ℤ pos p → b *ℤ pos d ≡ n *ℤ pos q → (a *ℤ pos q) *ℤ pos d ≡ (b *ℤ pos p) *ℤ pos d
    crossed a b n p q d e f =
        let g : (a *ℤ pos d) *ℤ pos q ≡ (n *ℤ pos p) *ℤ pos q = ap (λ z. z *ℤ pos q) e in
        let h : (b *ℤ pos d) *ℤ pos p ≡ (n *ℤ pos q) *ℤ pos p = ap (λ z. z *ℤ pos p) f in
        *ℤ_right_comm a (pos q) (pos d) ∙ (g ∙ (*ℤ_right_comm n (pos p) (pos q) ∙ (sym h ∙ *ℤ_right_comm b (pos d) (pos p))))

-- equal values have one form
pub lowest_same : (m n : ℤ) (d e : ℕ) → 0 < d → 0 < e → m *ℤ pos e ≡ n *ℤ pos d → lowest m d ≡ lowest n e
lowest_same m n d e hd he h =
    let l = IsRatio-lowest m d hd in
    let x = lowest m d in
    lowest-of_IsRatio n e x he
    (record { same = cancel_pos _ _ d hd (crossed x.num m n x.den d e l.same h); lowest_terms = l.lowest_terms })
  where
    crossed : (a m n : ℤ) (p d e : ℕ) → a *ℤ pos d ≡ m *ℤ pos p → m *ℤ pos e ≡ n *ℤ pos d → (a *ℤ pos e) *ℤ pos d ≡ (n *ℤ pos p) *ℤ pos d
    crossed a m n p d e k h =
        let g : (a *ℤ pos d) *ℤ pos e ≡ (m *ℤ pos p) *ℤ pos e = ap (λ z. z *ℤ pos e) k in
        let f : (m *ℤ pos e) *ℤ pos p ≡ (n *ℤ pos d) *ℤ pos p = ap (λ z. z *ℤ pos p) h in
        *ℤ_right_comm a (pos e) (pos d) ∙ (g ∙ (*ℤ_right_comm m (pos p) (pos e) ∙ (f ∙ *ℤ_right_comm n (pos d) (pos p))))

-- a value in lowest terms is its own form
pub lowest_self : (x : Ratio) → IsLowest x → x ≡ lowest x.num x.den
lowest_self x h = lowest-of_IsRatio x.num x.den x h.positive (record { same = refl; lowest_terms = h })

-- what is no larger than the numbers that it was made of
pub IsBounded-lowest : (n : ℤ) (d : ℕ) → unsigned_abs n < 2 ^ 127 → 0 < d → d < 2 ^ 127 → IsBounded (lowest n d)
unfolding lowest
IsBounded-lowest n d hn hd hb =
    let g = gcd (unsigned_abs n) d in
    record {
      lowest_terms = (IsRatio-lowest n d hd).lowest_terms;
      num_below = rw (abs_quotient n g) (let le : unsigned_abs n / g ≤ unsigned_abs n = div-le_self (unsigned_abs n) g in omega arith);
      den_below = let le : d / g ≤ d = div-le_self d g in omega arith;
    }
