-- Products and sums of whole numbers with a sign.
use Rattle.std.proofs.Common.{◌≡◌, ℕ, zero, suc, ◌+◌, ◌*◌, ◌<◌, refl, sym, ◌∙◌, ap, arith, ℤ, pos, negsuc}
use Rattle.std.specs.Prelude.{◌+ℤ◌, ◌*ℤ◌, neg_ℤ, unsigned_abs}
use Rattle.std.proofs.lemmas.Int.{ints, unsigned_abs-mul}
use Rattle.std.proofs.Math.Nat.{zero-mul, eq_of_mul-eq-mul_right}
use Rattle.std.proofs.Math.IntN.{*ℤ_comm}
use borrow.Author.Differences.{up, down, product_is, sum_is_lem, same_in}

-- ---- a number is the difference of two naturals

IsDifference : ℤ → ℕ → ℕ → Type 0
IsDifference z u d = up z + d ≡ u + down z

differs : (z : ℤ) → IsDifference z (up z) (down z)
unfolding IsDifference
differs z = refl

differs-mul : (a b : ℤ) (u d v e : ℕ) → IsDifference a u d → IsDifference b v e → IsDifference (a *ℤ b) (u * v + d * e) (u * e + d * v)
unfolding IsDifference
differs-mul a b u d v e p q =
    let x = product_is a b in
    let left : up a * up b + d * up b ≡ u * up b + down a * up b = omega (arith, ap (λ n. n * up b) p) in
    let right : up a * down b + d * down b ≡ u * down b + down a * down b = omega (arith, ap (λ n. n * down b) p) in
    let over : u * up b + u * e ≡ u * v + u * down b = omega (arith, ap (λ n. u * n) q) in
    let under : d * up b + d * e ≡ d * v + d * down b = omega (arith, ap (λ n. d * n) q) in
    omega (arith, x, left, right, over, under)

differs_same : (a b : ℤ) (u d v e : ℕ) → IsDifference a u d → IsDifference b v e → u + e ≡ v + d → a ≡ b
unfolding IsDifference
differs_same a b u d v e p q h = same_in a b (omega arith)

-- ---- the laws

pub *ℤ_assoc : (a b c : ℤ) → (a *ℤ b) *ℤ c ≡ a *ℤ (b *ℤ c)
*ℤ_assoc a b c =
    differs_same _ _ _ _ _ _
    (differs-mul (a *ℤ b) c _ _ _ _ (differs-mul a b _ _ _ _ (differs a) (differs b)) (differs c))
    (differs-mul a (b *ℤ c) _ _ _ _ (differs a) (differs-mul b c _ _ _ _ (differs b) (differs c)))
    (omega arith)

pub *ℤ_left_comm : (a b c : ℤ) → a *ℤ (b *ℤ c) ≡ b *ℤ (a *ℤ c)
*ℤ_left_comm a b c = sym (*ℤ_assoc a b c) ∙ (ap (λ z. z *ℤ c) (*ℤ_comm a b) ∙ *ℤ_assoc b a c)

pub *ℤ_right_comm : (a b c : ℤ) → (a *ℤ b) *ℤ c ≡ (a *ℤ c) *ℤ b
*ℤ_right_comm a b c = *ℤ_assoc a b c ∙ (ap (λ z. a *ℤ z) (*ℤ_comm b c) ∙ sym (*ℤ_assoc a c b))

pub +ℤ-*ℤ : (a b c : ℤ) → (a +ℤ b) *ℤ c ≡ a *ℤ c +ℤ b *ℤ c
+ℤ-*ℤ a b c =
    let x = product_is (a +ℤ b) c in
    let y = product_is a c in
    let z = product_is b c in
    let s = sum_is_lem a b in
    let left : up (a +ℤ b) * up c + down a * up c + down b * up c ≡ down (a +ℤ b) * up c + up a * up c + up b * up c = omega (arith, ap (λ n. n * up c) s) in
    let right : up (a +ℤ b) * down c + down a * down c + down b * down c ≡ down (a +ℤ b) * down c + up a * down c + up b * down c = omega (arith, ap (λ n. n * down c) s) in
    same_in _ _ (omega (arith, sum_is_lem (a *ℤ c) (b *ℤ c)))

pub neg-*ℤ : (k d : ℕ) → neg_ℤ (pos k) *ℤ pos d ≡ neg_ℤ (pos (k * d))
neg-*ℤ zero d = rw (zero-mul d) refl
neg-*ℤ (suc k) d = refl

-- a factor that isn't 0 can be left out
pub cancel_pos : (m n : ℤ) (k : ℕ) → 0 < k → m *ℤ pos k ≡ n *ℤ pos k → m ≡ n
cancel_pos (pos a) (pos b) k h e = ap pos (eq_of_mul-eq-mul_right k h a b (omega (arith, ints)))
cancel_pos (pos a) (negsuc b) (suc k) h e = absurd (omega (arith, ints))
cancel_pos (pos a) (negsuc b) zero h e = absurd (omega arith)
cancel_pos (negsuc a) (pos b) (suc k) h e = absurd (omega (arith, ints))
cancel_pos (negsuc a) (pos b) zero h e = absurd (omega arith)
cancel_pos (negsuc a) (negsuc b) k h e =
    ap negsuc (let f : suc a ≡ suc b = eq_of_mul-eq-mul_right k h (suc a) (suc b) (omega (arith, ints)) in omega arith)

pub abs-same : (m n : ℤ) (d e : ℕ) → m *ℤ pos e ≡ n *ℤ pos d → unsigned_abs m * e ≡ unsigned_abs n * d
abs-same m n d e h = sym (unsigned_abs-mul m (pos e)) ∙ (ap unsigned_abs h ∙ unsigned_abs-mul n (pos d))
