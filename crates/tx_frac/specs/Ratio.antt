-- Fractions in lowest terms, and what each operation on two of them answers. Whole numbers have no bound here.
use Rattle.std.specs.Prelude.{ℕ, zero, suc, ◌*◌, ◌/◌, ◌%◌, ◌^◌, ◌<◌, ◌≡◌, ℤ, pos, ◌+ℤ◌, ◌*ℤ◌, neg_ℤ, unsigned_abs, int_div, int_lt, nat_lt, ◌==◌, Bool, ◌&&◌, not, if◌then◌else◌, Option, Some, None}
use Rattle.std.specs.Int.{int_div_euclid, int_signum}

-- a numerator over a denominator
pub record Ratio : Type 0 where
  pub num : ℤ
  pub den : ℕ

-- the greatest number up to n that divides both a and b
unfoldable pub greatest_divisor : ℕ → ℕ → ℕ → ℕ
greatest_divisor zero a b = 0
greatest_divisor (suc n) a b = if (a % suc n == 0) && (b % suc n == 0) then suc n else greatest_divisor n a b

-- the greatest common divisor of a and b, where b isn't 0
unfoldable pub gcd : ℕ → ℕ → ℕ
gcd a b = greatest_divisor b a b

-- n over d, in lowest terms
unfoldable pub lowest : ℤ → ℕ → Ratio
lowest n d = let g = gcd (unsigned_abs n) d in record { num = int_div n (pos g); den = d / g }

-- x is in lowest terms: no number but 1 divides both its parts
pub record IsLowest (x : Ratio) : Type 0 where
  pub positive : 0 < x.den
  pub coprime : gcd (unsigned_abs x.num) x.den ≡ 1

-- x is n over d, in lowest terms
pub record IsRatio (n : ℤ) (d : ℕ) (x : Ratio) : Type 0 where
  pub same : x.num *ℤ pos d ≡ n *ℤ pos x.den
  pub lowest_terms : IsLowest x

-- q times y is x, and q is in lowest terms
pub record IsQuotient (x y q : Ratio) : Type 0 where
  pub same : q.num *ℤ y.num *ℤ pos x.den ≡ x.num *ℤ pos (q.den * y.den)
  pub lowest_terms : IsLowest q

-- z lies from -(2^127 - 1) to 2^127 - 1
abbrev pub in_range : ℤ → Bool
in_range z = nat_lt (unsigned_abs z) (2 ^ 127)

-- x is in lowest terms, and both its parts are in that range
pub record IsBounded (x : Ratio) : Type 0 where
  pub lowest_terms : IsLowest x
  pub num_below : unsigned_abs x.num < 2 ^ 127
  pub den_below : x.den < 2 ^ 127

-- the numerators of x and y over the least common multiple of their denominators
abbrev pub widened_left : Ratio → Ratio → ℤ
widened_left x y = x.num *ℤ pos (y.den / gcd x.den y.den)

abbrev pub widened_right : Ratio → Ratio → ℤ
widened_right x y = y.num *ℤ pos (x.den / gcd x.den y.den)

-- the least common multiple of their denominators
abbrev pub common_den : Ratio → Ratio → ℕ
common_den x y = x.den * (y.den / gcd x.den y.den)

-- the numbers that a sum of x and y has to write down are in range
abbrev pub sum_fits : Ratio → Ratio → Bool
sum_fits x y =
    in_range (widened_left x y) && in_range (widened_right x y) && in_range (widened_left x y +ℤ widened_right x y) && in_range (pos (common_den x y))

-- the numerator of x + y over the product of their denominators
abbrev pub sum_num : Ratio → Ratio → ℤ
sum_num x y = x.num *ℤ pos y.den +ℤ y.num *ℤ pos x.den

-- x + y
abbrev pub sum_of : Ratio → Ratio → Ratio
sum_of x y = lowest (sum_num x y) (x.den * y.den)

-- -x
abbrev pub negated : Ratio → Ratio
negated x = record { num = neg_ℤ x.num; den = x.den }

-- x * y
abbrev pub product_of : Ratio → Ratio → Ratio
product_of x y = lowest (x.num *ℤ y.num) (x.den * y.den)

-- x / y, where y isn't 0
abbrev pub quotient_of : Ratio → Ratio → Ratio
quotient_of x y = lowest (x.num *ℤ pos y.den *ℤ int_signum y.num) (x.den * unsigned_abs y.num)

-- x < y
abbrev pub is_less : Ratio → Ratio → Bool
is_less x y = int_lt (x.num *ℤ pos y.den) (y.num *ℤ pos x.den)

-- the greatest whole number that isn't above x
abbrev pub floor_of : Ratio → ℤ
floor_of x = int_div_euclid x.num (pos x.den)

-- the whole number n
abbrev pub whole_of : ℤ → Ratio
whole_of n = record { num = n; den = 1 }

-- the value where the test holds
abbrev pub defined_if : {A : Type 0} → Bool → A → Option A
defined_if b x = if b then Some x else None

-- what `add`, `sub`, `mul`, `div` and `less` answer
unfoldable pub add : Ratio → Ratio → Option Ratio
add x y = defined_if (sum_fits x y) (sum_of x y)

unfoldable pub sub : Ratio → Ratio → Option Ratio
sub x y = add x (negated y)

unfoldable pub mul : Ratio → Ratio → Option Ratio
mul x y = defined_if (in_range (x.num *ℤ y.num) && in_range (pos (x.den * y.den))) (product_of x y)

unfoldable pub div : Ratio → Ratio → Option Ratio
div x y =
    defined_if (not (unsigned_abs y.num == 0) && in_range (x.num *ℤ pos y.den) && in_range (pos x.den *ℤ y.num)) (quotient_of x y)

unfoldable pub less : Ratio → Ratio → Option Bool
less x y = defined_if (in_range (widened_left x y) && in_range (widened_right x y)) (is_less x y)
