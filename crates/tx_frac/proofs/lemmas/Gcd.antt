-- Greatest common divisors: `gcd` is one, it grows with a common factor, and what is coprime to a factor divides the other.
use Rattle.std.proofs.Common.{◌≡◌, ℕ, zero, suc, ◌+◌, ◌*◌, ◌/◌, ◌%◌, ◌<◌, ◌≤◌, ◌⊎◌, inl, inr, refl, sym, ◌∙◌, ap, arith, Bool, true, false, ◌&&◌}
use Rattle.std.specs.Prelude.{◌==◌}
use Rattle.std.specs.Int.{IsGcd, ◌∣◌}
use Rattle.std.proofs.Math.Nat.{mul-zero, zero-mul, mul-one, one-mul, mul_comm, mul-pos, mul-lt-mul_of_pos_left, eq-zero-or-pos, mod-lt, div-mul_cancel, div-add-mod', pos_of_dvd_of_pos, dvd-mul_left, one-dvd, eq_of_mul-eq-mul_left}
use Rattle.std.proofs.Math.Arith.{digits_mod}
use Rattle.std.proofs.lemmas.Nat.Gcd.{IsGcd-from_zero, IsGcd-from_mod, same_from_IsGcd, le_of_dvd, dvd_of_mod-eq-zero, mod-eq-zero_of_dvd}
use Rattle.tx_frac.specs.Ratio.{greatest_divisor, gcd}

-- ---- Euclid's algorithm, with a common factor k

scaled_mod : (a b k : ℕ) → 0 < b → (k * a) % (k * b) ≡ k * (a % b)
scaled_mod a b k hb =
    elim (eq-zero-or-pos k) [
      | inl e ↦ rw e (rw (zero-mul a, zero-mul b, zero-mul (a % b)) refl)
      | inr hk ↦
          let small : k * (a % b) < k * b = mul-lt-mul_of_pos_left (mod-lt a hb) hk in
          let parts : k * a ≡ (a / b) * (k * b) + k * (a % b) = omega (arith, div-add-mod' a b, ap (λ n. k * n) (div-add-mod' a b)) in
          rw parts (digits_mod (a / b) small)
    ]

scaled_gcd_up_to : (fuel a b : ℕ) → b ≤ fuel → (g : ℕ) × ((k : ℕ) → IsGcd (k * a) (k * b) (k * g))
scaled_gcd_up_to zero a b h = (a, λ k. IsGcd-from_zero (k * a) (k * b) (let e : b ≡ 0 = omega arith in rw e (mul-zero k)))
scaled_gcd_up_to (suc fuel) a b h =
    elim (eq-zero-or-pos b) [
      | inl e ↦ (a, λ k. IsGcd-from_zero (k * a) (k * b) (rw e (mul-zero k)))
      | inr hb ↦
          let rest = scaled_gcd_up_to fuel b (a % b) (let m : a % b < b = mod-lt a hb in omega arith) in
          (rest.0, λ k. IsGcd-from_mod (k * a) (k * b) (k * rest.0) (rw (scaled_mod a b k hb) (rest.1 k)))
    ]

-- some g is the greatest common divisor of a and b, also after both are multiplied by any k
pub scaled_gcd : (a b : ℕ) → (g : ℕ) × ((k : ℕ) → IsGcd (k * a) (k * b) (k * g))
scaled_gcd a b = scaled_gcd_up_to b a b (omega arith)

unscaled : (a b : ℕ) → IsGcd a b (scaled_gcd a b).0
unscaled a b = rw (one-mul a, one-mul b, one-mul (scaled_gcd a b).0) at ((scaled_gcd a b).1 1)

-- ---- the greatest number that divides both

both_divide : (d a b : ℕ) → ((a % d == 0) && (b % d == 0)) ≡ true → (d ∣ a) × (d ∣ b)
both_divide d a b h = (dvd_of_mod-eq-zero d (grind arith), dvd_of_mod-eq-zero d (grind arith))

divides_both : (d a b : ℕ) → d ∣ a → d ∣ b → ((a % d == 0) && (b % d == 0)) ≡ true
divides_both d a b p q = rw (mod-eq-zero_of_dvd d p, mod-eq-zero_of_dvd d q) refl

step-true : (n a b : ℕ) → ((a % suc n == 0) && (b % suc n == 0)) ≡ true → greatest_divisor (suc n) a b ≡ suc n
unfolding greatest_divisor
step-true n a b h = rw h refl

step-false : (n a b : ℕ) → ((a % suc n == 0) && (b % suc n == 0)) ≡ false → greatest_divisor (suc n) a b ≡ greatest_divisor n a b
unfolding greatest_divisor
step-false n a b h = rw h refl

bool_cases : (b : Bool) → (b ≡ true) ⊎ (b ≡ false)
bool_cases true = inl refl
bool_cases false = inr refl

divides : (n a b : ℕ) → 0 < n → (greatest_divisor n a b ∣ a) × (greatest_divisor n a b ∣ b)
divides zero a b h = absurd (omega arith)
divides (suc n) a b h =
    elim (bool_cases ((a % suc n == 0) && (b % suc n == 0))) [
      | inl e ↦ rw (step-true n a b e) (both_divide (suc n) a b e)
      | inr e ↦
          elim (eq-zero-or-pos n) [
            | inl z ↦
                let t : ((a % suc n == 0) && (b % suc n == 0)) ≡ true = rw z (divides_both 1 a b (one-dvd a) (one-dvd b)) in
                cc
            | inr p ↦ rw (step-false n a b e) (divides n a b p)
          ]
    ]

above : (n a b d : ℕ) → d ≤ n → d ∣ a → d ∣ b → d ≤ greatest_divisor n a b
above zero a b d h p q = omega arith
above (suc n) a b d h p q =
    elim (bool_cases ((a % suc n == 0) && (b % suc n == 0))) [
      | inl e ↦ rw (step-true n a b e) h
      | inr e ↦
          let other : d ≡ suc n → ⊥ = λ same. let t = divides_both d a b p q in let u : ((a % suc n == 0) && (b % suc n == 0)) ≡ true = rw (← same) t in cc in
          rw (step-false n a b e) (above n a b d (omega arith) p q)
    ]

-- `gcd` is the greatest common divisor
pub IsGcd-gcd : (a b : ℕ) → 0 < b → IsGcd a b (gcd a b)
unfolding gcd
IsGcd-gcd a b hb =
    let g = (scaled_gcd a b).0 in
    let is : IsGcd a b g = unscaled a b in
    let small : g ≤ b = le_of_dvd hb is.1 in
    let low : g ≤ greatest_divisor b a b = above b a b g small is.0 is.1 in
    let both = divides b a b hb in
    let high : greatest_divisor b a b ≤ g = le_of_dvd (pos_of_dvd_of_pos is.1 hb) (is.2 _ both.0 both.1) in
    let same : greatest_divisor b a b ≡ g = omega arith in
    rw same is

-- the only one
pub gcd-of_IsGcd : (a b g : ℕ) → 0 < b → IsGcd a b g → gcd a b ≡ g
gcd-of_IsGcd a b g hb h = same_from_IsGcd a b _ _ (IsGcd-gcd a b hb) h

pub gcd_pos : (a b : ℕ) → 0 < b → 0 < gcd a b
gcd_pos a b hb = pos_of_dvd_of_pos (IsGcd-gcd a b hb).1 hb

pub gcd_le : (a b : ℕ) → 0 < b → gcd a b ≤ b
gcd_le a b hb = le_of_dvd hb (IsGcd-gcd a b hb).1

-- a common factor comes out
pub gcd-mul : (k a b : ℕ) → 0 < k → 0 < b → gcd (k * a) (k * b) ≡ k * gcd a b
gcd-mul k a b hk hb =
    let g = scaled_gcd a b in
    let one_g : gcd a b ≡ g.0 = gcd-of_IsGcd a b g.0 hb (unscaled a b) in
    rw one_g (gcd-of_IsGcd (k * a) (k * b) (k * g.0) (mul-pos hk hb) (g.1 k))

-- the two quotients by the greatest common divisor are coprime
pub gcd-div : (a b : ℕ) → 0 < b → gcd (a / gcd a b) (b / gcd a b) ≡ 1
gcd-div a b hb =
    let is = IsGcd-gcd a b hb in
    let g = gcd a b in
    let hg : 0 < g = gcd_pos a b hb in
    let ea : g * (a / g) ≡ a = mul_comm g (a / g) ∙ div-mul_cancel g is.0 in
    let eb : g * (b / g) ≡ b = mul_comm g (b / g) ∙ div-mul_cancel g is.1 in
    let low : 0 < b / g = elim (eq-zero-or-pos (b / g)) [ inl z ↦ absurd (let f : g * 0 ≡ b = rw z at eb in omega (arith, f)) | inr p ↦ p ] in
    let e : g ≡ g * gcd (a / g) (b / g) = rw (ea, eb) at (gcd-mul g (a / g) (b / g) hg low) in
    eq_of_mul-eq-mul_left g hg _ _ (sym e ∙ sym (mul-one g))

-- what is coprime to one factor divides the other
pub dvd-of_coprime : (a b c : ℕ) → 0 < b → gcd a b ≡ 1 → b ∣ c * a → b ∣ c
dvd-of_coprime a b c hb h p =
    let g = scaled_gcd a b in
    let is_one : g.0 ≡ 1 = sym (gcd-of_IsGcd a b g.0 hb (unscaled a b)) ∙ h in
    let d : b ∣ c * g.0 = (g.1 c).2 b p (dvd-mul_left b c) in
    rw (is_one, mul-one c) at d
