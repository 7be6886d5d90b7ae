-- Digits and powers of ten.
use Rattle.std.proofs.Common.{◌≡◌, ℕ, ◌+◌, ◌-◌, ◌*◌, ◌^◌, ◌<◌, ◌≤◌, Bool, true, false, List, [], ◌∷◌, length, min, take, cond, pos, IsTrue, add_comm, add-one, to_z, unsigned_abs, nat_lt, refl, ap, ◌∙◌, arith}
use Rattle.std.proofs.Math.Nat.{pow-le-pow_right, mul-le-mul}
use Rattle.std.proofs.lemmas.Nat.{pow-add}
use Rattle.std.specs.List.{prefix_len, list_all}
use Rattle.std.specs.Char.{is_ascii_digit}
use Rattle.std.specs.Prelude.{◌<ℤ◌}
use Rattle.std.specs.Int.{w128}
use Rattle.std.proofs.lemmas.Int.{ints, to_z_pos}
use Rattle.std.proofs.lemmas.Bool.{and_parts}
use Rattle.std.proofs.lemmas.Bool.Decides.{nat_tests}
use Rattle.tx_frac.specs.Ratio.{in_range, lowest}
use Rattle.tx_read.specs.Number.{value, value_behind}

-- ---- the digits at the front

-- one element before
one_more : {X : Type 0} → (p : X → Bool) (x : X) (xs : List X) (b : Bool) → p x ≡ b → list_all p (take (prefix_len p xs) xs) ≡ true → list_all p (take (cond b (1 + prefix_len p xs) 0) (x ∷ xs)) ≡ true
one_more p x xs false is rest = refl
one_more p x xs true is rest = rw (add_comm 1 (prefix_len p xs), add-one, is) rest

front_all : {X : Type 0} → (p : X → Bool) (xs : List X) → list_all p (take (prefix_len p xs) xs) ≡ true
front_all p [] = refl
front_all {X = X} p (x ∷ xs) = one_more p x xs (p x) refl (front_all {X = X} p xs)

pub digits_all : (bytes : List ℕ) → list_all is_ascii_digit (take (prefix_len is_ascii_digit bytes) bytes) ≡ true
digits_all bytes = front_all is_ascii_digit bytes

-- ---- powers of ten

pub power_small : (i : ℕ) → i ≤ 18 → 10 ^ i ≤ 10 ^ 18
power_small i less = pow-le-pow_right {n = 10} (omega arith) less

pub power_some : (i : ℕ) → 1 ≤ 10 ^ i
power_some i = pow-le-pow_right {n = 10} (omega arith) {i = 0} {j = i} (omega arith)

-- ---- the number that digits write

digit_small : (byte : ℕ) → is_ascii_digit byte ≡ true → byte - 48 ≤ 9
digit_small byte is = grind (arith, nat_tests)

value_behind_below : (n : ℕ) (bytes : List ℕ) → list_all is_ascii_digit bytes ≡ true → value_behind n bytes < (n + 1) * 10 ^ length bytes
value_behind_below n [] all = omega arith
value_behind_below n (byte ∷ bytes) all =
    let digit : byte - 48 ≤ 9 = digit_small byte (and_parts (is_ascii_digit byte) _ all).0 in
    let rest : value_behind (n * 10 + (byte - 48)) bytes < (n * 10 + (byte - 48) + 1) * 10 ^ length bytes = value_behind_below (n * 10 + (byte - 48)) bytes (and_parts (is_ascii_digit byte) _ all).1 in
    let more : (n * 10 + (byte - 48) + 1) * 10 ^ length bytes ≤ ((n + 1) * 10) * 10 ^ length bytes = mul-le-mul (let h : n * 10 + (byte - 48) + 1 ≤ (n + 1) * 10 = omega arith in h) (let h : 10 ^ length bytes ≤ 10 ^ length bytes = omega arith in h) in
    let longer : 10 ^ length (byte ∷ bytes) ≡ 10 ^ 1 * 10 ^ length bytes = ap (λ e. 10 ^ e) (let h : length (byte ∷ bytes) ≡ 1 + length bytes = omega arith in h) ∙ pow-add 10 1 (length bytes) in
    let scaled : (n + 1) * 10 ^ length (byte ∷ bytes) ≡ ((n + 1) * 10) * 10 ^ length bytes = ap (λ p. (n + 1) * p) longer ∙ (let h : (n + 1) * (10 * 10 ^ length bytes) ≡ ((n + 1) * 10) * 10 ^ length bytes = omega arith in h) in
    omega (arith, rest, more, scaled)

pub value_below : (bytes : List ℕ) → list_all is_ascii_digit bytes ≡ true → value bytes < 10 ^ length bytes
value_below bytes all = omega (arith, value_behind_below 0 bytes all)

-- of at most 18 digits
pub value_small : (bytes : List ℕ) → list_all is_ascii_digit bytes ≡ true → length bytes ≤ 18 → value bytes < 10 ^ 18
value_small bytes all short = omega (arith, value_below bytes all, power_small (length bytes) short)

pub uncapped : (bytes : List ℕ) → list_all is_ascii_digit bytes ≡ true → length bytes ≤ 18 → min (value bytes) (2 ^ 64 - 1) ≡ value bytes
uncapped bytes all short = let small = value_small bytes all short in omega arith

-- ---- fractions

-- numbers of so many digits are far below the ends of the types
pub below_end : (v s w : ℕ) → v ≤ 10 ^ 18 → s ≤ 10 ^ 18 → w ≤ 10 ^ 18 → v * s + w < 2 ^ 127
below_end v s w a b c = let h : v * s ≤ 10 ^ 18 * 10 ^ 18 = mul-le-mul a b in omega arith

lower : (n : ℕ) → n < 2 ^ 127 → nat_lt n (2 ^ 127) ≡ true
lower n small = grind (arith, nat_tests)

-- a fraction of two such numbers is there
pub fraction_defined : (n s : ℕ) → n < 2 ^ 127 → 1 ≤ s → s < 2 ^ 127 → (pos 0 <ℤ to_z w128 s) × IsTrue (in_range (to_z w128 n))
fraction_defined n s small some less = rw (to_z_pos w128 n small, to_z_pos w128 s less) (omega (arith, ints), lower n small)

-- and it is the number over the other one
pub fraction_of : (n s : ℕ) → n < 2 ^ 127 → s < 2 ^ 127 → lowest (to_z w128 n) (unsigned_abs (to_z w128 s)) ≡ lowest (pos n) s
fraction_of n s small less = rw (to_z_pos w128 n small, to_z_pos w128 s less) refl
