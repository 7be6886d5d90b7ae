-- Numbers are read back as they were written.
use Rattle.std.proofs.Common.{◌≡◌, ◌≢◌, ◌≤◌, ◌<◌, ◌+◌, ◌*◌, ◌/◌, ◌%◌, ◌^◌, ◌==◌, ℕ, zero, suc, List, [], ◌∷◌, ◌++◌, length, Bool, true, false, refl, arith, ap, ◌∙◌, ◌&&◌, cond, Option, Some, None, unwrap_or}
use Rattle.std.proofs.Math.Nat.{pow-suc}
use Rattle.std.proofs.lemmas.Bool.{lt-ltb, eqb-true, eqb-false}
use Rattle.std.proofs.lemmas.Fmt.{length-decimal-le}
use Rattle.std.specs.Char.{is_ascii_digit}
use Rattle.std.specs.Fmt.{decimal, digits, digits_onto, digit_glyph}
use Rattle.std.specs.Int.{is_in_range}
use Rattle.std.specs.List.{list_all}
use Rattle.tx_term.proofs.FeedLemmas.{AreParameters, within}
use Rattle.tx_term.specs.Sequence.{numbers_behind, with_digit}

-- a digit and its byte
glyph : (d : ℕ) → d < 10 → digit_glyph false d ≡ 48 + d
glyph d small = ap (λ b. cond b (48 + d) (87 + d)) (lt-ltb d 10 small)

numbers_behind-digit : (before : List ℕ) (here : Option ℕ) (byte : ℕ) (bytes : List ℕ) → is_ascii_digit byte ≡ true
    → numbers_behind before here (byte ∷ bytes) ≡ numbers_behind before (Some (with_digit here byte)) bytes
numbers_behind-digit before here byte bytes digit = rw digit refl

digit_read : (before : List ℕ) (here : Option ℕ) (d n : ℕ) (bytes : List ℕ) → d < 10 → unwrap_or here 0 * 10 + d ≡ n → n ≤ 4294967295
    → numbers_behind before here (digit_glyph false d ∷ bytes) ≡ numbers_behind before (Some n) bytes
digit_read before here d n bytes small is bounded =
    let value : with_digit here (48 + d) ≡ n = omega (arith, is) in
    ap (λ g. numbers_behind before here (g ∷ bytes)) (glyph d small)
    ∙ numbers_behind-digit before here (48 + d) bytes (within 48 57 (48 + d) (omega arith) (omega arith))
    ∙ ap (λ m. numbers_behind before (Some m) bytes) value

digits_read : (k n : ℕ) (acc rest before : List ℕ) → n < 10 ^ k → 0 < k + n → n ≤ 4294967295
    → numbers_behind before None (digits_onto k 10 false n acc ++ rest) ≡ numbers_behind before (Some n) (acc ++ rest)
digits_read zero n acc rest before small some bounded = absurd (omega arith)
digits_read (suc k) n acc rest before small some bounded =
    by (n / 10 == 0) refl (λ less more. digits_read k (n / 10) (digit_glyph false (n % 10) ∷ acc) rest before less more (omega arith))
  where
    by : (last : Bool) → (n / 10 == 0) ≡ last
        → (n / 10 < 10 ^ k → 0 < k + n / 10
        → numbers_behind before None (digits_onto k 10 false (n / 10) (digit_glyph false (n % 10) ∷ acc) ++ rest) ≡ numbers_behind before (Some (n / 10)) ((digit_glyph false (n % 10) ∷ acc) ++ rest))
        → numbers_behind before None (cond last (digit_glyph false (n % 10) ∷ acc) (digits_onto k 10 false (n / 10) (digit_glyph false (n % 10) ∷ acc)) ++ rest) ≡ numbers_behind before (Some n) (acc ++ rest)
    by true is others = let none = eqb-true _ _ is in digit_read before None (n % 10) n (acc ++ rest) (omega arith) (omega (arith, none)) bounded
    by false is others =
        let more : n / 10 ≢ 0 = eqb-false _ _ is in
        let less : n / 10 < 10 ^ k = omega (arith, pow-suc 10 k) in
        others less (omega (arith, more)) ∙ digit_read before (Some (n / 10)) (n % 10) n (acc ++ rest) (omega arith) (omega arith) bounded

-- the number that is read of its decimal digits is the number
pub decimal_read : (n : ℕ) (rest before : List ℕ) → n ≤ 4294967295 → numbers_behind before None (decimal n ++ rest) ≡ numbers_behind before (Some n) rest
unfolding digits
decimal_read n rest before bounded = digits_read 64 n [] rest before (omega arith) (omega arith) bounded

-- ---- what stands in a sequence

pub AreParameters-append : (a b : List ℕ) → AreParameters a → AreParameters b → AreParameters (a ++ b)
AreParameters-append [] b first second = second
AreParameters-append (byte ∷ a) b first second = both (is_in_range 0x20 0x3F byte) (list_all (is_in_range 0x20 0x3F) a) (list_all (is_in_range 0x20 0x3F) (a ++ b)) first (λ all. AreParameters-append a b all second)
  where
    both : (x y z : Bool) → (x && y) ≡ true → (y ≡ true → z ≡ true) → (x && z) ≡ true
    both true y z here more = more here
    both false y z here more = here

glyph_stands : (d : ℕ) (rest : List ℕ) → d < 10 → AreParameters rest → AreParameters (digit_glyph false d ∷ rest)
glyph_stands d rest small all = rw (glyph d small, within 0x20 0x3F (48 + d) (omega arith) (omega arith)) all

digits_stand : (k n : ℕ) (acc : List ℕ) → AreParameters acc → AreParameters (digits_onto k 10 false n acc)
digits_stand zero n acc all = all
digits_stand (suc k) n acc all = by (n / 10 == 0) (digits_stand k (n / 10) (digit_glyph false (n % 10) ∷ acc) (glyph_stands (n % 10) acc (omega arith) all))
  where
    by : (last : Bool) → AreParameters (digits_onto k 10 false (n / 10) (digit_glyph false (n % 10) ∷ acc))
        → AreParameters (cond last (digit_glyph false (n % 10) ∷ acc) (digits_onto k 10 false (n / 10) (digit_glyph false (n % 10) ∷ acc)))
    by true others = glyph_stands (n % 10) acc (omega arith) all
    by false others = others

pub decimal_stands : (n : ℕ) → AreParameters (decimal n)
unfolding digits
decimal_stands n = digits_stand 64 n [] refl

pub length-decimal5 : (n : ℕ) → n ≤ 65535 → length (decimal n) ≤ 5
length-decimal5 n small = length-decimal-le 5 n (omega arith) (omega arith) (omega arith)

pub length-decimal3 : (n : ℕ) → n ≤ 255 → length (decimal n) ≤ 3
length-decimal3 n small = length-decimal-le 3 n (omega arith) (omega arith) (omega arith)
