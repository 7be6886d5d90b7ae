-- The lengths of numbers and comments are those of the longest ones.
use Rattle.std.proofs.Common.{◌≡◌, ℕ, zero, suc, ◌+◌, ◌<◌, ◌≤◌, Bool, true, false, cond, ◌&&◌, nat_eq, List, [], ◌∷◌, length, take, drop, Option, None, Some, option_map, refl, ap, sym, ◌∙◌, subst, arith}
use Rattle.std.specs.Char.{is_ascii_alphabetic, is_ascii_digit}
use Rattle.std.specs.List.{list_all, prefix_len}
use Rattle.tx_lex.specs.Tokens.{is_none, is_unit, is_decimals, is_behind_point, is_whole, is_unsigned, is_number, closes_behind, closes, is_comment, IsLongest}
use Rattle.tx_lex.specs.Lexing.{unit_len, decimals_len, behind_point_len, with_point, behind_whole_len, whole_len, unsigned_len, number_len, close_behind, close_len, comment_len}
use Rattle.tx_lex.proofs.Longest.{Finds, longest-next, none-first, nothing-finds, finds-next, longest-zero, longest-nothing, longest-is_none, longest-all}

-- ---- numbers

longest-unit : (bytes : List ℕ) → IsLongest is_unit bytes (unit_len bytes)
longest-unit [] = longest-nothing is_unit refl
longest-unit (b ∷ bytes) = of (nat_eq b 37) refl
  where
    same : nat_eq b 37 ≡ false → (xs : List ℕ) → is_unit (b ∷ xs) ≡ list_all is_ascii_alphabetic (b ∷ xs)
    same is xs = ap (λ percent. cond percent (is_none xs) (is_ascii_alphabetic b && list_all is_ascii_alphabetic xs)) is

    letters : nat_eq b 37 ≡ false → IsLongest (list_all is_ascii_alphabetic) (b ∷ bytes) (prefix_len is_ascii_alphabetic (b ∷ bytes))
        → IsLongest is_unit (b ∷ bytes) (prefix_len is_ascii_alphabetic (b ∷ bytes))
    letters is longest = record {
      within = longest.within;
      passes = first (prefix_len is_ascii_alphabetic (b ∷ bytes)) longest.passes;
      none_longer = λ m above within. later m above (longest.none_longer m above within);
    }
      where
        first : (n : ℕ) → list_all is_ascii_alphabetic (take n (b ∷ bytes)) ≡ true → is_unit (take n (b ∷ bytes)) ≡ true
        first zero passes = refl
        first (suc n) passes = same is (take n bytes) ∙ passes

        later : (m : ℕ) → prefix_len is_ascii_alphabetic (b ∷ bytes) < m → list_all is_ascii_alphabetic (take m (b ∷ bytes)) ≡ false → is_unit (take m (b ∷ bytes)) ≡ false
        later zero above refused = absurd (omega (arith, above))
        later (suc m) above refused = same is (take m bytes) ∙ refused

    of : (percent : Bool) → nat_eq b 37 ≡ percent → IsLongest is_unit (b ∷ bytes) (cond percent 1 (prefix_len is_ascii_alphabetic (b ∷ bytes)))
    of true is = longest-next is_unit is_none b bytes 0
        (λ xs. ap (λ percent. cond percent (is_none xs) (is_ascii_alphabetic b && list_all is_ascii_alphabetic xs)) is) (longest-is_none bytes)
    of false is = letters is (longest-all is_ascii_alphabetic (b ∷ bytes))

-- a test that goes over digits, and then on as another one does
record OverDigits (test behind : List ℕ → Bool) : Type 0 where
  empty : test [] ≡ behind []
  digit : (b : ℕ) (xs : List ℕ) → is_ascii_digit b ≡ true → test (b ∷ xs) ≡ test xs
  other : (b : ℕ) (xs : List ℕ) → is_ascii_digit b ≡ false → test (b ∷ xs) ≡ behind (b ∷ xs)

abbrev over_digits : (List ℕ → ℕ) → List ℕ → ℕ
over_digits len bytes = prefix_len is_ascii_digit bytes + len (drop (prefix_len is_ascii_digit bytes) bytes)

over_digits-digit : (len : List ℕ → ℕ) (b : ℕ) (bytes : List ℕ) → is_ascii_digit b ≡ true → over_digits len (b ∷ bytes) ≡ suc (over_digits len bytes)
over_digits-digit len b bytes is =
    ap (λ n. n + len (drop n (b ∷ bytes))) (ap (λ first. cond first (1 + prefix_len is_ascii_digit bytes) 0) is ∙ one (prefix_len is_ascii_digit bytes))
    ∙ shift (prefix_len is_ascii_digit bytes) (len (drop (prefix_len is_ascii_digit bytes) bytes))
  where
    one : (n : ℕ) → 1 + n ≡ suc n
    one n = omega arith

    shift : (n m : ℕ) → suc n + m ≡ suc (n + m)
    shift n m = omega arith

over_digits-other : (len : List ℕ → ℕ) (b : ℕ) (bytes : List ℕ) → is_ascii_digit b ≡ false → over_digits len (b ∷ bytes) ≡ len (b ∷ bytes)
over_digits-other len b bytes is =
    ap (λ n. n + len (drop n (b ∷ bytes))) (ap (λ first. cond first (1 + prefix_len is_ascii_digit bytes) 0) is) ∙ none (len (b ∷ bytes))
  where
    none : (n : ℕ) → 0 + n ≡ n
    none n = omega arith

-- where the test behind digits finds its longest front, so does the whole one
longest-over : (test behind : List ℕ → Bool) (len : List ℕ → ℕ) → OverDigits test behind → ((bytes : List ℕ) → IsLongest behind bytes (len bytes))
    → (bytes : List ℕ) → IsLongest test bytes (over_digits len bytes)
longest-over test behind len over longest [] =
    let nothing : 0 + len [] ≡ len [] = omega arith in
    subst (IsLongest test []) (sym nothing) (record {
      within = (longest []).within;
      passes = subst (λ n. test (take n []) ≡ true) (sym (none (longest []).within)) (over.empty ∙ subst (λ n. behind (take n []) ≡ true) (none (longest []).within) (longest []).passes);
      none_longer = λ m above within. absurd (omega (arith, above, within));
    })
  where
    none : len [] ≤ 0 → len [] ≡ 0
    none within = omega (arith, within)
longest-over test behind len over longest (b ∷ bytes) = of (is_ascii_digit b) refl (longest-over test behind len over longest bytes)
  where
    front : is_ascii_digit b ≡ false → (n : ℕ) → test (take n (b ∷ bytes)) ≡ behind (take n (b ∷ bytes))
    front is zero = over.empty
    front is (suc n) = over.other b (take n bytes) is

    of : (digit : Bool) → is_ascii_digit b ≡ digit → IsLongest test bytes (over_digits len bytes) → IsLongest test (b ∷ bytes) (over_digits len (b ∷ bytes))
    of true is rest = subst (IsLongest test (b ∷ bytes)) (sym (over_digits-digit len b bytes is)) (longest-next test test b bytes (over_digits len bytes) (λ xs. over.digit b xs is) rest)
    of false is rest = subst (IsLongest test (b ∷ bytes)) (sym (over_digits-other len b bytes is)) (record {
      within = (longest (b ∷ bytes)).within;
      passes = front is (len (b ∷ bytes)) ∙ (longest (b ∷ bytes)).passes;
      none_longer = λ m above within. front is m ∙ (longest (b ∷ bytes)).none_longer m above within;
    })

longest-decimals : (bytes : List ℕ) → IsLongest is_decimals bytes (decimals_len bytes)
unfolding decimals_len
longest-decimals bytes = longest-over is_decimals is_unit unit_len (record {
  empty = refl;
  digit = λ b xs is. ap (λ digit. cond digit (is_decimals xs) (is_unit (b ∷ xs))) is;
  other = λ b xs is. ap (λ digit. cond digit (is_decimals xs) (is_unit (b ∷ xs))) is;
}) longest-unit bytes

finds-behind_point : (bytes : List ℕ) → Finds is_behind_point bytes (behind_point_len bytes)
finds-behind_point [] = nothing-finds is_behind_point refl
finds-behind_point (b ∷ bytes) = of (is_ascii_digit b) refl
  where
    some : (n : ℕ) → is_ascii_digit b ≡ true → IsLongest is_decimals (b ∷ bytes) n → IsLongest is_behind_point (b ∷ bytes) n
    some zero is longest = absurd (absurd_zero (longest.none_longer 1 (omega arith) (omega arith)))
      where
        digit_alone : is_decimals (b ∷ take 0 bytes) ≡ true
        digit_alone = ap (λ digit. cond digit true (is_unit (b ∷ []))) is

        absurd_zero : is_decimals (take 1 (b ∷ bytes)) ≡ false → ⊥
        absurd_zero refused = let clash : true ≡ false = sym digit_alone ∙ refused in cc
    some (suc n) is longest = record {
      within = longest.within;
      passes = ap (λ digit. digit && is_decimals (take n bytes)) is ∙ (sym (ap (λ digit. cond digit (is_decimals (take n bytes)) (is_unit (b ∷ take n bytes))) is) ∙ longest.passes);
      none_longer = later;
    }
      where
        later : (m : ℕ) → suc n < m → m ≤ length (b ∷ bytes) → is_behind_point (take m (b ∷ bytes)) ≡ false
        later zero above within = absurd (omega (arith, above))
        later (suc m) above within =
            ap (λ digit. digit && is_decimals (take m bytes)) is
            ∙ (sym (ap (λ digit. cond digit (is_decimals (take m bytes)) (is_unit (b ∷ take m bytes))) is) ∙ longest.none_longer (suc m) above within)

    of : (digit : Bool) → is_ascii_digit b ≡ digit → Finds is_behind_point (b ∷ bytes) (cond digit (Some (decimals_len (b ∷ bytes))) None)
    of true is = some (decimals_len (b ∷ bytes)) is (longest-decimals (b ∷ bytes))
    of false is = none-first is_behind_point b bytes refl (λ xs. ap (λ digit. digit && is_decimals xs) is)

-- what a number goes on with behind its whole digits, where another byte than a digit stands
abbrev pub is_whole_end : List ℕ → Bool
is_whole_end [] = true
is_whole_end (b ∷ bytes) = cond (nat_eq b 46) (is_behind_point bytes) (is_unit (b ∷ bytes))

longest-whole_end : (bytes : List ℕ) → IsLongest is_whole_end bytes (behind_whole_len bytes)
longest-whole_end [] = longest-nothing is_whole_end refl
longest-whole_end (b ∷ bytes) = of (nat_eq b 46) refl
  where
    point : nat_eq b 46 ≡ true → (xs : List ℕ) → is_whole_end (b ∷ xs) ≡ is_behind_point xs
    point is xs = ap (λ point. cond point (is_behind_point xs) (is_unit (b ∷ xs))) is

    unit : nat_eq b 46 ≡ false → (n : ℕ) → is_whole_end (take n (b ∷ bytes)) ≡ is_unit (take n (b ∷ bytes))
    unit is zero = refl
    unit is (suc n) = ap (λ point. cond point (is_behind_point (take n bytes)) (is_unit (b ∷ take n bytes))) is

    with : nat_eq b 46 ≡ true → (found : Option ℕ) → Finds is_behind_point bytes found → IsLongest is_whole_end (b ∷ bytes) (with_point found)
    with is None none = longest-zero is_whole_end b bytes refl (λ m within. point is (take m bytes) ∙ none m within)
    with is (Some n) longest =
        let next : n + 1 ≡ suc n = omega arith in
        subst (IsLongest is_whole_end (b ∷ bytes)) (sym next) (longest-next is_whole_end is_behind_point b bytes n (point is) longest)

    of : (point : Bool) → nat_eq b 46 ≡ point → IsLongest is_whole_end (b ∷ bytes) (cond point (with_point (behind_point_len bytes)) (unit_len (b ∷ bytes)))
    of true is = with is (behind_point_len bytes) (finds-behind_point bytes)
    of false is = record {
      within = (longest-unit (b ∷ bytes)).within;
      passes = unit is (unit_len (b ∷ bytes)) ∙ (longest-unit (b ∷ bytes)).passes;
      none_longer = λ m above within. unit is m ∙ (longest-unit (b ∷ bytes)).none_longer m above within;
    }

longest-whole : (bytes : List ℕ) → IsLongest is_whole bytes (whole_len bytes)
unfolding whole_len
longest-whole bytes = longest-over is_whole is_whole_end behind_whole_len (record {
  empty = refl;
  digit = λ b xs is. ap (λ digit. cond digit (is_whole xs) (is_whole_end (b ∷ xs))) is;
  other = λ b xs is. ap (λ digit. cond digit (is_whole xs) (is_whole_end (b ∷ xs))) is;
}) longest-whole_end bytes

finds-unsigned : (bytes : List ℕ) → Finds is_unsigned bytes (unsigned_len bytes)
finds-unsigned [] = nothing-finds is_unsigned refl
finds-unsigned (b ∷ bytes) = of (is_ascii_digit b) refl
  where
    digit_first : is_ascii_digit b ≡ true → (n : ℕ) → IsLongest is_whole (b ∷ bytes) n → IsLongest is_unsigned (b ∷ bytes) n
    digit_first is zero longest = absurd (clash (longest.none_longer 1 (omega arith) (omega arith)))
      where
        clash : is_whole (take 1 (b ∷ bytes)) ≡ false → ⊥
        clash refused =
            let alone : is_whole (b ∷ take 0 bytes) ≡ true = ap (λ digit. cond digit true (is_whole_end (b ∷ []))) is in
            let both : true ≡ false = sym alone ∙ refused in cc
    digit_first is (suc n) longest = record { within = longest.within; passes = same (take n bytes) ∙ longest.passes; none_longer = later }
      where
        same : (xs : List ℕ) → is_unsigned (b ∷ xs) ≡ is_whole (b ∷ xs)
        same xs = ap (λ digit. cond digit (is_whole xs) (nat_eq b 46 && is_behind_point xs)) is ∙ sym (ap (λ digit. cond digit (is_whole xs) (is_whole_end (b ∷ xs))) is)

        later : (m : ℕ) → suc n < m → m ≤ length (b ∷ bytes) → is_unsigned (take m (b ∷ bytes)) ≡ false
        later zero above within = absurd (omega (arith, above))
        later (suc m) above within = same (take m bytes) ∙ longest.none_longer (suc m) above within

    point_first : (point : Bool) → is_ascii_digit b ≡ false → nat_eq b 46 ≡ point → Finds is_unsigned (b ∷ bytes) (cond point (option_map (λ n. n + 1) (behind_point_len bytes)) None)
    point_first true other is = finds-next is_unsigned is_behind_point b bytes (behind_point_len bytes)
        (λ xs. ap (λ digit. cond digit (is_whole xs) (nat_eq b 46 && is_behind_point xs)) other ∙ ap (λ point. point && is_behind_point xs) is) refl (finds-behind_point bytes)
    point_first false other is = none-first is_unsigned b bytes refl
        (λ xs. ap (λ digit. cond digit (is_whole xs) (nat_eq b 46 && is_behind_point xs)) other ∙ ap (λ point. point && is_behind_point xs) is)

    of : (digit : Bool) → is_ascii_digit b ≡ digit
        → Finds is_unsigned (b ∷ bytes) (cond digit (Some (whole_len (b ∷ bytes))) (cond (nat_eq b 46) (option_map (λ n. n + 1) (behind_point_len bytes)) None))
    of true is = digit_first is (whole_len (b ∷ bytes)) (longest-whole (b ∷ bytes))
    of false is = point_first (nat_eq b 46) is refl

pub finds-number : (bytes : List ℕ) → Finds is_number bytes (number_len bytes)
unfolding number_len
finds-number [] = nothing-finds is_number refl
finds-number (b ∷ bytes) = of (nat_eq b 45) refl
  where
    unsigned : (found : Option ℕ) → nat_eq b 45 ≡ false → Finds is_unsigned (b ∷ bytes) found → Finds is_number (b ∷ bytes) found
    unsigned found is finds = go found finds
      where
        same : (n : ℕ) → is_number (take n (b ∷ bytes)) ≡ is_unsigned (take n (b ∷ bytes))
        same zero = refl
        same (suc n) = ap (λ sign. cond sign (is_unsigned (take n bytes)) (is_unsigned (b ∷ take n bytes))) is

        go : (found : Option ℕ) → Finds is_unsigned (b ∷ bytes) found → Finds is_number (b ∷ bytes) found
        go None none = λ n within. same n ∙ none n within
        go (Some n) longest = record {
          within = longest.within;
          passes = same n ∙ longest.passes;
          none_longer = λ m above within. same m ∙ longest.none_longer m above within;
        }

    of : (sign : Bool) → nat_eq b 45 ≡ sign → Finds is_number (b ∷ bytes) (cond sign (option_map (λ n. n + 1) (unsigned_len bytes)) (unsigned_len (b ∷ bytes)))
    of true is = finds-next is_number is_unsigned b bytes (unsigned_len bytes) (λ xs. ap (λ sign. cond sign (is_unsigned xs) (is_unsigned (b ∷ xs))) is) refl (finds-unsigned bytes)
    of false is = unsigned (unsigned_len (b ∷ bytes)) is (finds-unsigned (b ∷ bytes))

-- ---- comments

finds-close_behind : (last : ℕ) (bytes : List ℕ) → Finds (closes_behind last) bytes (close_behind last bytes)
finds-close_behind last [] = nothing-finds (closes_behind last) refl
finds-close_behind last (b ∷ bytes) = of (nat_eq last 42 && nat_eq b 47) refl (finds-close_behind b bytes)
  where
    of : (closing : Bool) → (nat_eq last 42 && nat_eq b 47) ≡ closing → Finds (closes_behind b) bytes (close_behind b bytes)
        → Finds (closes_behind last) (b ∷ bytes) (cond closing (Some 1) (option_map (λ n. n + 1) (close_behind b bytes)))
    of true is rest = longest-next (closes_behind last) is_none b bytes 0 (λ xs. ap (λ closing. cond closing (is_none xs) (closes_behind b xs)) is) (longest-is_none bytes)
    of false is rest = finds-next (closes_behind last) (closes_behind b) b bytes (close_behind b bytes) (λ xs. ap (λ closing. cond closing (is_none xs) (closes_behind b xs)) is) refl rest

finds-close : (bytes : List ℕ) → Finds closes bytes (close_len bytes)
finds-close [] = nothing-finds closes refl
finds-close (b ∷ bytes) = finds-next closes (closes_behind b) b bytes (close_behind b bytes) (λ xs. refl) refl (finds-close_behind b bytes)

-- behind a `/`
abbrev behind_slash : List ℕ → Bool
behind_slash [] = false
behind_slash (b ∷ bytes) = nat_eq b 42 && closes bytes

comment-slash : (a : ℕ) → nat_eq a 47 ≡ true → (xs : List ℕ) → is_comment (a ∷ xs) ≡ behind_slash xs
comment-slash a is [] = refl
comment-slash a is (b ∷ xs) = ap (λ slash. slash && (nat_eq b 42 && closes xs)) is

pub comment-other : (a : ℕ) → nat_eq a 47 ≡ false → (xs : List ℕ) → is_comment (a ∷ xs) ≡ false
comment-other a is [] = refl
comment-other a is (b ∷ xs) = ap (λ slash. slash && (nat_eq b 42 && closes xs)) is

abbrev star_len : List ℕ → Option ℕ
star_len [] = None
star_len (b ∷ bytes) = cond (nat_eq b 42) (option_map (λ n. n + 1) (close_len bytes)) None

finds-star : (bytes : List ℕ) → Finds behind_slash bytes (star_len bytes)
finds-star [] = nothing-finds behind_slash refl
finds-star (b ∷ bytes) = of (nat_eq b 42) refl
  where
    of : (star : Bool) → nat_eq b 42 ≡ star → Finds behind_slash (b ∷ bytes) (cond star (option_map (λ n. n + 1) (close_len bytes)) None)
    of true is = finds-next behind_slash closes b bytes (close_len bytes) (λ xs. ap (λ star. star && closes xs) is) refl (finds-close bytes)
    of false is = none-first behind_slash b bytes refl (λ xs. ap (λ star. star && closes xs) is)

two : (found : Option ℕ) → option_map (λ n. n + 1) (option_map (λ n. n + 1) found) ≡ option_map (λ n. n + 2) found
two None = refl
two (Some n) = let same : n + 1 + 1 ≡ n + 2 = omega arith in ap Some same

comment_len-slash : (a : ℕ) (bytes : List ℕ) → nat_eq a 47 ≡ true → comment_len (a ∷ bytes) ≡ option_map (λ n. n + 1) (star_len bytes)
unfolding comment_len
comment_len-slash a [] is = refl
comment_len-slash a (b ∷ bytes) is = ap (λ slash. cond (slash && nat_eq b 42) (option_map (λ n. n + 2) (close_len bytes)) None) is ∙ of (nat_eq b 42)
  where
    of : (star : Bool) → cond star (option_map (λ n. n + 2) (close_len bytes)) None ≡ option_map (λ n. n + 1) (cond star (option_map (λ n. n + 1) (close_len bytes)) None)
    of true = sym (two (close_len bytes))
    of false = refl

pub finds-comment : (a : ℕ) (bytes : List ℕ) → nat_eq a 47 ≡ true → Finds is_comment (a ∷ bytes) (comment_len (a ∷ bytes))
finds-comment a bytes is =
    subst (Finds is_comment (a ∷ bytes)) (sym (comment_len-slash a bytes is))
    (finds-next is_comment behind_slash a bytes (star_len bytes) (comment-slash a is) refl (finds-star bytes))
