-- The token that is read is the longest of all kinds.
use Rattle.std.proofs.Common.{◌≡◌, inl, inr, ℕ, zero, suc, ◌+◌, ◌<◌, ◌≤◌, Bool, true, false, cond, ◌&&◌, ◌||◌, nat_eq, nat_le, List, [], ◌∷◌, length, take, None, Some, refl, ap, sym, ◌∙◌, subst, arith}
use Rattle.std.proofs.lemmas.Bool.{and_parts, and_right, eqb-true, ne_eqb, or_cases}
use Rattle.std.proofs.lemmas.Bool.Decides.{nat_tests}
use Rattle.std.specs.Char.{is_ascii_alphabetic, is_ascii_digit}
use Rattle.std.specs.List.{list_all, prefix_len}
use Rattle.tx_text.specs.Name.{begins_name, continues_name}
use Rattle.tx_lex.specs.Bytes.{is_blank, is_mark}
use Rattle.tx_lex.specs.Tokens.{is_space, is_comment, is_name, is_hash, is_variable, is_number, is_whole, is_behind_point, is_unsigned, is_mark_of, is_token, IsLongest, PassesNone, IsLongestToken, BeginsNone}
use Rattle.tx_lex.specs.Lexing.{hash_len, variable_len}
use Rattle.tx_lex.specs.declared.token.TokenKind.{TokenKind}
use Rattle.tx_lex.specs.declared.token.TokenKind.TheVariants.{Space, Comment, Name, Hash, Variable, Number, Mark}
use Rattle.tx_lex.proofs.Longest.{Finds, longest-next, none-first, longest-some, none-some, some_of, longest-all, finds-next}

-- ---- which kinds a first byte begins

-- no token of a kind begins with this byte
abbrev pub Refuses : (List ℕ → Bool) → ℕ → Type 0
Refuses test b = (xs : List ℕ) → test (b ∷ xs) ≡ false

pub refuses-space : (b : ℕ) → is_blank b ≡ false → Refuses is_space b
refuses-space b is xs = ap (λ first. first && list_all is_blank xs) is

pub refuses-name : (b : ℕ) → begins_name b ≡ false → Refuses is_name b
refuses-name b is xs = ap (λ first. first && list_all continues_name xs) is

pub refuses-hash : (b : ℕ) → nat_eq b 35 ≡ false → Refuses is_hash b
refuses-hash b is [] = refl
refuses-hash b is (x ∷ xs) = ap (λ first. first && (continues_name x && list_all continues_name xs)) is

pub refuses-variable : (b : ℕ) → nat_eq b 36 ≡ false → Refuses is_variable b
refuses-variable b is xs = ap (λ first. first && is_name xs) is

pub refuses-number : (b : ℕ) → is_ascii_digit b ≡ false → nat_eq b 45 ≡ false → nat_eq b 46 ≡ false → Refuses is_number b
refuses-number b digit sign point xs =
    ap (λ sign. cond sign (is_unsigned xs) (is_unsigned (b ∷ xs))) sign
    ∙ ap (λ digit. cond digit (is_whole xs) (nat_eq b 46 && is_behind_point xs)) digit
    ∙ ap (λ point. point && is_behind_point xs) point

-- which kinds may begin with a byte
pub record First (b : ℕ) (blank name hash dollar slash number : Bool) : Type 0 where
  pub is_blank_is : is_blank b ≡ blank
  pub is_name_is : begins_name b ≡ name
  pub is_hash_is : nat_eq b 35 ≡ hash
  pub is_dollar_is : nat_eq b 36 ≡ dollar
  pub is_slash_is : nat_eq b 47 ≡ slash
  pub is_number_is : (is_ascii_digit b || nat_eq b 45 || nat_eq b 46) ≡ number

-- ---- of all kinds

-- no longer front is a token
abbrev pub NoneLonger : (List ℕ → Bool) → List ℕ → ℕ → Type 0
NoneLonger test bytes n = (m : ℕ) → n < m → m ≤ length bytes → test (take m bytes) ≡ false

pub refused-longer : (test : List ℕ → Bool) (b : ℕ) (bytes : List ℕ) (n : ℕ) → Refuses test b → NoneLonger test (b ∷ bytes) n
refused-longer test b bytes n refuses zero above within = absurd (omega (arith, above))
refused-longer test b bytes n refuses (suc m) above within = refuses (take m bytes)

pub mark-longer : (mark b : ℕ) (bytes : List ℕ) (n : ℕ) → 0 < n → NoneLonger (is_mark_of mark) (b ∷ bytes) n
mark-longer mark b bytes n some zero above within = absurd (omega (arith, above))
mark-longer mark b bytes n some (suc zero) above within = absurd (omega (arith, some, above))
mark-longer mark b [] n some (suc (suc m)) above within = absurd (omega (arith, within))
mark-longer mark b (x ∷ bytes) n some (suc (suc m)) above within = refl

pub record AllShort (b : ℕ) (bytes : List ℕ) (n : ℕ) : Type 0 where
  pub space : NoneLonger is_space (b ∷ bytes) n
  pub comment : NoneLonger is_comment (b ∷ bytes) n
  pub name : NoneLonger is_name (b ∷ bytes) n
  pub hash : NoneLonger is_hash (b ∷ bytes) n
  pub variable : NoneLonger is_variable (b ∷ bytes) n
  pub number : NoneLonger is_number (b ∷ bytes) n

pub longest-of_all : (kind : TokenKind) (b : ℕ) (bytes : List ℕ) (n : ℕ) → 0 < n → IsLongest (is_token kind) (b ∷ bytes) n → AllShort b bytes n → IsLongestToken (b ∷ bytes) kind n
longest-of_all kind b bytes n some longest short = record { longest = longest; of_all = of }
  where
    of : (other : TokenKind) (m : ℕ) → n < m → m ≤ length (b ∷ bytes) → is_token other (take m (b ∷ bytes)) ≡ false
    of Space m above within = short.space m above within
    of Comment m above within = short.comment m above within
    of Name m above within = short.name m above within
    of Hash m above within = short.hash m above within
    of Variable m above within = short.variable m above within
    of Number m above within = short.number m above within
    of (Mark mark) m above within = mark-longer mark b bytes n some m above within

pub none-of_all : (b : ℕ) (bytes : List ℕ) → PassesNone is_space (b ∷ bytes) → PassesNone is_comment (b ∷ bytes) → PassesNone is_name (b ∷ bytes)
    → PassesNone is_hash (b ∷ bytes) → PassesNone is_variable (b ∷ bytes) → PassesNone is_number (b ∷ bytes) → is_mark b ≡ false → BeginsNone (b ∷ bytes)
none-of_all b bytes space comment name hash variable number mark Space = space
none-of_all b bytes space comment name hash variable number mark Comment = comment
none-of_all b bytes space comment name hash variable number mark Name = name
none-of_all b bytes space comment name hash variable number mark Hash = hash
none-of_all b bytes space comment name hash variable number mark Variable = variable
none-of_all b bytes space comment name hash variable number mark Number = number
none-of_all b bytes space comment name hash variable number mark (Mark m) = none-first (is_mark_of m) b bytes refl refused
  where
    refused : (xs : List ℕ) → is_mark_of m (b ∷ xs) ≡ false
    refused [] = and_right (nat_eq b m) (is_mark b) mark
    refused (x ∷ xs) = refl

-- a name, a hash or a variable is one that begins rightly and goes on with name bytes
variable-name : (b : ℕ) → nat_eq b 36 ≡ true → (xs : List ℕ) → is_variable (b ∷ xs) ≡ is_name xs
variable-name b is xs = ap (λ first. first && is_name xs) is

hash-some : (b : ℕ) → nat_eq b 35 ≡ true → (xs : List ℕ) → is_hash (b ∷ xs) ≡ some_of continues_name xs
hash-some b is [] = refl
hash-some b is (x ∷ xs) = ap (λ first. first && (continues_name x && list_all continues_name xs)) is

two_more : (n : ℕ) → 2 + n ≡ suc (1 + n)
two_more n = omega arith

pub finds-hash : (b : ℕ) (bytes : List ℕ) → nat_eq b 35 ≡ true → Finds is_hash (b ∷ bytes) (hash_len bytes)
finds-hash b [] is = none-next-nothing
  where
    none-next-nothing : PassesNone is_hash (b ∷ [])
    none-next-nothing zero within = refl
    none-next-nothing (suc zero) within = refl
    none-next-nothing (suc (suc m)) within = refl
finds-hash b (x ∷ bytes) is = of (continues_name x) refl
  where
    of : (name : Bool) → continues_name x ≡ name → Finds is_hash (b ∷ x ∷ bytes) (cond name (Some (2 + prefix_len continues_name bytes)) None)
    of true named = subst (IsLongest is_hash (b ∷ x ∷ bytes)) (sym (two_more (prefix_len continues_name bytes)))
        (longest-next is_hash (some_of continues_name) b (x ∷ bytes) (1 + prefix_len continues_name bytes) (hash-some b is) (longest-some continues_name x bytes named))
    of false named = finds-next is_hash (some_of continues_name) b (x ∷ bytes) None (hash-some b is) refl (none-some continues_name x bytes named)

pub longest-name : (b : ℕ) (bytes : List ℕ) → begins_name b ≡ true → IsLongest is_name (b ∷ bytes) (1 + prefix_len continues_name bytes)
longest-name b bytes is =
    let next : 1 + prefix_len continues_name bytes ≡ suc (prefix_len continues_name bytes) = omega arith in
    subst (IsLongest is_name (b ∷ bytes)) (sym next)
    (longest-next is_name (list_all continues_name) b bytes (prefix_len continues_name bytes) (λ xs. ap (λ first. first && list_all continues_name xs) is) (longest-all continues_name bytes))

pub finds-variable : (b : ℕ) (bytes : List ℕ) → nat_eq b 36 ≡ true → Finds is_variable (b ∷ bytes) (variable_len bytes)
finds-variable b [] is = none-next-nothing
  where
    none-next-nothing : PassesNone is_variable (b ∷ [])
    none-next-nothing zero within = refl
    none-next-nothing (suc zero) within = variable-name b is []
    none-next-nothing (suc (suc m)) within = variable-name b is []
finds-variable b (x ∷ bytes) is = of (begins_name x) refl
  where
    of : (name : Bool) → begins_name x ≡ name → Finds is_variable (b ∷ x ∷ bytes) (cond name (Some (2 + prefix_len continues_name bytes)) None)
    of true named = subst (IsLongest is_variable (b ∷ x ∷ bytes)) (sym (two_more (prefix_len continues_name bytes)))
        (longest-next is_variable is_name b (x ∷ bytes) (1 + prefix_len continues_name bytes) (variable-name b is) (longest-name x bytes named))
    of false named = finds-next is_variable is_name b (x ∷ bytes) None (variable-name b is) refl (none-first is_name x bytes refl (λ xs. ap (λ first. first && list_all continues_name xs) named))

-- ---- the class of a first byte

pub above-not : (b c : ℕ) → c < b → nat_eq b c ≡ false
above-not b c above = ne_eqb b c (λ e. omega (arith, above, e))

below-not : (b c : ℕ) → b < c → nat_eq b c ≡ false
below-not b c below = ne_eqb b c (λ e. omega (arith, below, e))

at_byte : (blank name hash dollar slash number : Bool) (b c : ℕ) → b ≡ c → First c blank name hash dollar slash number → First b blank name hash dollar slash number
at_byte blank name hash dollar slash number b c e first = subst (λ n. First n blank name hash dollar slash number) (sym e) first

pub first-blank : (b : ℕ) → is_blank b ≡ true → First b true false false false false false
first-blank b is = elim (or_cases (nat_eq b 32 || nat_eq b 9 || nat_eq b 10) (nat_eq b 13) is) [
  | inl low ↦ elim (or_cases (nat_eq b 32 || nat_eq b 9) (nat_eq b 10) low) [
    | inl lower ↦ elim (or_cases (nat_eq b 32) (nat_eq b 9) lower) [
      | inl at ↦ at_byte _ _ _ _ _ _ b 32 (eqb-true b 32 at) (record { is_blank_is = refl; is_name_is = refl; is_hash_is = refl; is_dollar_is = refl; is_slash_is = refl; is_number_is = refl })
      | inr at ↦ at_byte _ _ _ _ _ _ b 9 (eqb-true b 9 at) (record { is_blank_is = refl; is_name_is = refl; is_hash_is = refl; is_dollar_is = refl; is_slash_is = refl; is_number_is = refl })
    ]
    | inr at ↦ at_byte _ _ _ _ _ _ b 10 (eqb-true b 10 at) (record { is_blank_is = refl; is_name_is = refl; is_hash_is = refl; is_dollar_is = refl; is_slash_is = refl; is_number_is = refl })
  ]
  | inr at ↦ at_byte _ _ _ _ _ _ b 13 (eqb-true b 13 at) (record { is_blank_is = refl; is_name_is = refl; is_hash_is = refl; is_dollar_is = refl; is_slash_is = refl; is_number_is = refl })
]

-- a byte above the digits, and another one than those
first-letter : (b : ℕ) → begins_name b ≡ true → 58 ≤ b → First b false true false false false false
first-letter b is high = record {
  is_blank_is = blank (nat_eq b 32) (nat_eq b 9) (nat_eq b 10) (nat_eq b 13) (above-not b 32 (omega (arith, high))) (above-not b 9 (omega (arith, high))) (above-not b 10 (omega (arith, high))) (above-not b 13 (omega (arith, high)));
  is_name_is = is;
  is_hash_is = above-not b 35 (omega (arith, high));
  is_dollar_is = above-not b 36 (omega (arith, high));
  is_slash_is = above-not b 47 (omega (arith, high));
  is_number_is = number (nat_le 48 b) (nat_le b 57) (nat_eq b 45) (nat_eq b 46) (ltb-false high) (above-not b 45 (omega (arith, high))) (above-not b 46 (omega (arith, high)));
}
  where
    blank : (p q r s : Bool) → p ≡ false → q ≡ false → r ≡ false → s ≡ false → (p || q || r || s) ≡ false
    blank p q r s pf qf rf sf = rw (pf, qf, rf, sf) refl

    number : (p q r s : Bool) → q ≡ false → r ≡ false → s ≡ false → ((p && q) || r || s) ≡ false
    number true q r s qf rf sf = rw (qf, rf, sf) refl
    number false q r s qf rf sf = rw (rf, sf) refl

    ltb-false : 58 ≤ b → nat_le b 57 ≡ false
    ltb-false high = grind (arith, nat_tests)

letter-high : (b : ℕ) → begins_name b ≡ true → 58 ≤ b
letter-high b is = elim (or_cases (is_ascii_alphabetic b) (nat_eq b 95) is) [
  | inl letter ↦ elim (or_cases (nat_le 65 b && nat_le b 90) (nat_le 97 b && nat_le b 122) letter) [
    | inl upper ↦ at_least 65 (and_parts (nat_le 65 b) (nat_le b 90) upper).0 (omega arith)
    | inr lower ↦ at_least 97 (and_parts (nat_le 97 b) (nat_le b 122) lower).0 (omega arith)
  ]
  | inr at ↦ omega (arith, eqb-true b 95 at)
]
  where
    at_least : (c : ℕ) → nat_le c b ≡ true → 58 ≤ c → 58 ≤ b
    at_least c is high = grind (arith, nat_tests)

pub first-name : (b : ℕ) → begins_name b ≡ true → First b false true false false false false
first-name b is = first-letter b is (letter-high b is)

pub first-hash : (b : ℕ) → nat_eq b 35 ≡ true → First b false false true false false false
first-hash b is = at_byte _ _ _ _ _ _ b 35 (eqb-true b 35 is) (record { is_blank_is = refl; is_name_is = refl; is_hash_is = refl; is_dollar_is = refl; is_slash_is = refl; is_number_is = refl })

pub first-dollar : (b : ℕ) → nat_eq b 36 ≡ true → First b false false false true false false
first-dollar b is = at_byte _ _ _ _ _ _ b 36 (eqb-true b 36 is) (record { is_blank_is = refl; is_name_is = refl; is_hash_is = refl; is_dollar_is = refl; is_slash_is = refl; is_number_is = refl })

pub first-slash : (b : ℕ) → nat_eq b 47 ≡ true → First b false false false false true false
first-slash b is = at_byte _ _ _ _ _ _ b 47 (eqb-true b 47 is) (record { is_blank_is = refl; is_name_is = refl; is_hash_is = refl; is_dollar_is = refl; is_slash_is = refl; is_number_is = refl })
