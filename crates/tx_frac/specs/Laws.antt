-- Fractions over one denominator: x is n over k where `IsRatio n k x` holds.
use Rattle.std.specs.Prelude.{ℕ, ◌*◌, ◌^◌, ◌<◌, ◌≡◌, ℤ, pos, ◌+ℤ◌, ◌*ℤ◌, neg_ℤ, unsigned_abs, int_lt, Some}
use Rattle.tx_frac.specs.Ratio.{Ratio, IsLowest, IsRatio, whole_of, negated, sum_of, product_of, quotient_of, is_less, add, mul, div, less}

-- a fraction has one form
pub record OneForm : Type 0 where
  pub number : (k : ℕ) (m n : ℤ) (x : Ratio) → IsRatio m k x → IsRatio n k x → m ≡ n
  pub fraction : (k : ℕ) (n : ℤ) (x y : Ratio) → 0 < k → IsRatio n k x → IsRatio n k y → x ≡ y
  pub wider : (k j : ℕ) (n : ℤ) (x : Ratio) → IsRatio n k x → IsRatio (n *ℤ pos j) (k * j) x
  pub itself : (x : Ratio) → IsLowest x → IsRatio x.num x.den x
  pub whole : (n : ℤ) (k : ℕ) → IsRatio (n *ℤ pos k) k (whole_of n)

-- sums and differences over one denominator are those of the numerators
pub record SumsOverOne : Type 0 where
  pub sum : (k : ℕ) (m n : ℤ) (x y : Ratio) → 0 < k → IsRatio m k x → IsRatio n k y → IsRatio (m +ℤ n) k (sum_of x y)
  pub opposite : (k : ℕ) (n : ℤ) (x : Ratio) → IsRatio n k x → IsRatio (neg_ℤ n) k (negated x)
  pub order : (k : ℕ) (m n : ℤ) (x y : Ratio) → 0 < k → IsRatio m k x → IsRatio n k y → is_less x y ≡ int_lt m n

-- products and quotients go by numerators and denominators
pub record ProductsOverTwo : Type 0 where
  pub product : (k l : ℕ) (m n : ℤ) (x y : Ratio) → IsRatio m k x → IsRatio n l y → IsRatio (m *ℤ n) (k * l) (product_of x y)
  pub quotient : (k l j : ℕ) (m : ℤ) (x y : Ratio) → 0 < l → 0 < j → IsRatio m k x → IsRatio (pos j) l y → IsRatio (m *ℤ pos l) (k * j) (quotient_of x y)

-- an operation on fractions over one denominator is defined where the denominator and the numerators are in range
pub record DefinedInRange : Type 0 where
  pub sum : (k : ℕ) (m n : ℤ) (x y : Ratio) → 0 < k → k < 2 ^ 127 → unsigned_abs m < 2 ^ 127 → unsigned_abs n < 2 ^ 127 → unsigned_abs (m +ℤ n) < 2 ^ 127
      → IsRatio m k x → IsRatio n k y → add x y ≡ Some (sum_of x y)
  pub order : (k : ℕ) (m n : ℤ) (x y : Ratio) → 0 < k → unsigned_abs m < 2 ^ 127 → unsigned_abs n < 2 ^ 127
      → IsRatio m k x → IsRatio n k y → less x y ≡ Some (is_less x y)
  pub product : (k l : ℕ) (m n : ℤ) (x y : Ratio) → 0 < k → 0 < l → unsigned_abs m * unsigned_abs n < 2 ^ 127 → k * l < 2 ^ 127
      → IsRatio m k x → IsRatio n l y → mul x y ≡ Some (product_of x y)
  pub quotient : (k l j : ℕ) (m : ℤ) (x y : Ratio) → 0 < k → 0 < l → 0 < j → unsigned_abs m * l < 2 ^ 127 → k * j < 2 ^ 127
      → IsRatio m k x → IsRatio (pos j) l y → div x y ≡ Some (quotient_of x y)
