-- The numbers that values write are short.
use Rattle.std.proofs.Common.{◌≡◌, ℕ, ◌+◌, ◌-◌, ◌*◌, ◌/◌, ◌%◌, ◌^◌, ◌<◌, ◌≤◌, Bool, true, false, not, ◌&&◌, nat_lt, List, [], ◌∷◌, length, pos, refl, sym, ap, ◌∙◌, arith, cond, nat_eq}
use Rattle.std.specs.Prelude.{int_lt, ◌==◌, nat_le}
use Rattle.std.specs.List.{list_all}
use Rattle.std.specs.Char.{is_ascii_digit}
use Rattle.std.proofs.Math.Nat.{mul_comm, div-mul_cancel, lt_of_mul-lt-mul_left, mul-mod_left, mul-le-mul, pow-le-pow_right}
use Rattle.std.proofs.lemmas.Nat.{pow-add}
use Rattle.std.proofs.lemmas.Bool.{and_parts, and_from}
use Rattle.std.proofs.lemmas.Bool.Decides.{nat_tests}
use Rattle.tx_read.specs.Number.{value}
use Rattle.tx_frac.specs.Ratio.{gcd, lowest}
use Rattle.tx_frac.proofs.lemmas.Gcd.{IsGcd-gcd}
use Rattle.tx_value.specs.Holds.{is_short}
use Rattle.tx_value.specs.Numbers.{Numeral, numeral_of, with_whole, has_digits, amount, digits, behind_digits}
use Rattle.tx_value.proofs.Digits.{digits_all, power_some, value_below}

-- ---- fractions

-- a whole number isn't below 0
pub not_below : (n : ℕ) → not (int_lt (pos n) (pos 0)) ≡ true
not_below n = grind (arith, nat_tests)

-- a number of parts of a power of ten
short_quotients : (n d g k : ℕ) → k ≤ 18 → d ≡ 10 ^ k → n < 10 ^ 9 * d → g * (n / g) ≡ n → g * (d / g) ≡ d
    → (nat_lt (n / g) (10 ^ 9 * (d / g)) && 10 ^ 18 % (d / g) == 0) ≡ true
short_quotients n d g k most is below en ed = and_from _ _ less whole
  where
    less : nat_lt (n / g) (10 ^ 9 * (d / g)) ≡ true
    less =
        let scaled : g * (n / g) < g * (10 ^ 9 * (d / g)) = omega (arith, en, ed, below) in
        let small : n / g < 10 ^ 9 * (d / g) = lt_of_mul-lt-mul_left g scaled in
        grind (arith, nat_tests)

    power : 10 ^ 18 ≡ (10 ^ (18 - k) * g) * (d / g)
    power =
        let all : 10 ^ 18 ≡ 10 ^ (18 - k) * 10 ^ k = ap (λ e. 10 ^ e) (let h : 18 ≡ (18 - k) + k = omega arith in h) ∙ pow-add 10 (18 - k) k in
        let parts : 10 ^ (18 - k) * 10 ^ k ≡ 10 ^ (18 - k) * (g * (d / g)) = ap (λ e. 10 ^ (18 - k) * e) (sym (ed ∙ is)) in
        omega (arith, all, parts)

    whole : (10 ^ 18 % (d / g) == 0) ≡ true
    whole = let none : 10 ^ 18 % (d / g) ≡ 0 = ap (λ p. p % (d / g)) power ∙ mul-mod_left (10 ^ (18 - k) * g) (d / g) in rw none refl

short_lowest : (n k : ℕ) → k ≤ 18 → n < 10 ^ 9 * 10 ^ k → is_short (lowest (pos n) (10 ^ k)) ≡ true
unfolding is_short lowest
short_lowest n k most below =
    let some : 0 < 10 ^ k = power_some k in
    let is = IsGcd-gcd n (10 ^ k) some in
    let g : ℕ = gcd n (10 ^ k) in
    and_from _ _ (not_below (n / g)) (short_quotients n (10 ^ k) g k most refl below (mul_comm g (n / g) ∙ div-mul_cancel g is.0) (mul_comm g (10 ^ k / g) ∙ div-mul_cancel g is.1))

-- ---- what a number writes

pub record AreDigits (n : Numeral) : Type 0 where
  pub whole : list_all is_ascii_digit n.whole ≡ true
  pub decimals : list_all is_ascii_digit n.decimals ≡ true

pub numeral_digits : (bytes : List ℕ) → AreDigits (numeral_of bytes)
numeral_digits bytes = behind (digits bytes) (digits_all bytes) (behind_digits bytes)
  where
    pointed : (whole : List ℕ) (b : ℕ) (rest : List ℕ) → list_all is_ascii_digit whole ≡ true → (point : Bool)
        → AreDigits (cond point (record { whole = whole; decimals = digits rest; unit = behind_digits rest }) (record { whole = whole; decimals = []; unit = b ∷ rest }))
    pointed whole b rest all true = record { whole = all; decimals = digits_all rest }
    pointed whole b rest all false = record { whole = all; decimals = refl }

    behind : (whole : List ℕ) → list_all is_ascii_digit whole ≡ true → (rest : List ℕ) → AreDigits (with_whole whole rest)
    behind whole all [] = record { whole = all; decimals = refl }
    behind whole all (b ∷ rest) = pointed whole b rest all (nat_eq b 46)

-- the amount of a number of few digits is short
pub short_amount : (n : Numeral) → AreDigits n → has_digits n.whole n.decimals ≡ true → is_short (amount n.whole n.decimals) ≡ true
short_amount n are few =
    let short = and_parts (nat_le (length n.whole) 9) (nat_le (length n.decimals) 18) (and_parts _ _ few).1 in
    let w : length n.whole ≤ 9 = at_most _ 9 short.0 in
    let d : length n.decimals ≤ 18 = at_most _ 18 short.1 in
    let whole : value n.whole < 10 ^ length n.whole = value_below n.whole are.whole in
    let nine : 10 ^ length n.whole ≤ 10 ^ 9 = pow-le-pow_right {n = 10} (omega arith) w in
    let parts : value n.decimals < 10 ^ length n.decimals = value_below n.decimals are.decimals in
    let all : (value n.whole + 1) * 10 ^ length n.decimals ≤ 10 ^ 9 * 10 ^ length n.decimals =
    mul-le-mul (let h : value n.whole + 1 ≤ 10 ^ 9 = omega (arith, whole, nine) in h) (let h : 10 ^ length n.decimals ≤ 10 ^ length n.decimals = omega arith in h) in
    short_lowest (value n.whole * 10 ^ length n.decimals + value n.decimals) (length n.decimals) d (omega (arith, parts, all))
  where
    at_most : (n m : ℕ) → nat_le n m ≡ true → n ≤ m
    at_most n m is = grind (arith, nat_tests)
