-- Bytes are a token of one kind at most.
use Rattle.std.proofs.Common.{◌≡◌, inl, inr, ℕ, ◌<◌, ◌≤◌, Bool, true, false, not, cond, ◌&&◌, ◌||◌, nat_eq, nat_le, List, [], ◌∷◌, refl, ap, sym, ◌∙◌, arith}
use Rattle.std.proofs.lemmas.Bool.{and_parts, eqb-true, not-true, or_cases}
use Rattle.std.proofs.lemmas.Bool.Decides.{nat_tests}
use Rattle.std.specs.Char.{is_ascii_digit}
use Rattle.std.specs.List.{list_all, list_any}
use Rattle.tx_text.specs.Name.{begins_name, continues_name}
use Rattle.tx_lex.specs.Bytes.{is_blank, is_mark}
use Rattle.tx_lex.specs.Tokens.{is_none, is_space, is_comment, is_name, is_hash, is_variable, is_number, closes, is_mark_of, is_token}
use Rattle.tx_lex.specs.declared.token.TokenKind.{TokenKind}
use Rattle.tx_lex.specs.declared.token.TokenKind.TheVariants.{Space, Comment, Name, Hash, Variable, Number, Mark}
use Rattle.tx_lex.proofs.FirstBytes.{First, first-blank, first-name, first-hash, first-dollar, first-slash, above-not}
use Rattle.tx_lex.proofs.LongestTokens.{refuses-numbers}

-- the kind of bytes that are a token
kind_of : List ℕ → TokenKind
kind_of [] = Space
kind_of (b ∷ bytes) =
    cond (is_blank b) Space (cond (begins_name b) Name (cond (nat_eq b 35) Hash (cond (nat_eq b 36) Variable (cond (nat_eq b 47) Comment
    (cond (is_mark b && is_none bytes) (Mark b) Number)))))

chosen : (b : ℕ) (bytes : List ℕ) (blank name hash dollar slash mark : Bool) → is_blank b ≡ blank → begins_name b ≡ name → nat_eq b 35 ≡ hash → nat_eq b 36 ≡ dollar → nat_eq b 47 ≡ slash
    → (is_mark b && is_none bytes) ≡ mark
    → kind_of (b ∷ bytes) ≡ cond blank Space (cond name Name (cond hash Hash (cond dollar Variable (cond slash Comment (cond mark (Mark b) Number)))))
unfolding kind_of
chosen b bytes blank name hash dollar slash mark pb pn ph pd ps pm =
    ap (λ t. cond t Space (cond (begins_name b) Name (cond (nat_eq b 35) Hash (cond (nat_eq b 36) Variable (cond (nat_eq b 47) Comment (cond (is_mark b && is_none bytes) (Mark b) Number)))))) pb
    ∙ ap (λ t. cond blank Space (cond t Name (cond (nat_eq b 35) Hash (cond (nat_eq b 36) Variable (cond (nat_eq b 47) Comment (cond (is_mark b && is_none bytes) (Mark b) Number)))))) pn
    ∙ ap (λ t. cond blank Space (cond name Name (cond t Hash (cond (nat_eq b 36) Variable (cond (nat_eq b 47) Comment (cond (is_mark b && is_none bytes) (Mark b) Number)))))) ph
    ∙ ap (λ t. cond blank Space (cond name Name (cond hash Hash (cond t Variable (cond (nat_eq b 47) Comment (cond (is_mark b && is_none bytes) (Mark b) Number)))))) pd
    ∙ ap (λ t. cond blank Space (cond name Name (cond hash Hash (cond dollar Variable (cond t Comment (cond (is_mark b && is_none bytes) (Mark b) Number)))))) ps
    ∙ ap (λ t. cond blank Space (cond name Name (cond hash Hash (cond dollar Variable (cond slash Comment (cond t (Mark b) Number)))))) pm

-- ---- marks

any-passes : (q : ℕ → Bool) (b : ℕ) (ms : List ℕ) → list_any (nat_eq b) ms ≡ true → list_all q ms ≡ true → q b ≡ true
any-passes q b [] is all = absurd (let clash : false ≡ true = is in cc)
any-passes q b (m ∷ ms) is all = elim (or_cases (nat_eq b m) (list_any (nat_eq b) ms) is) [
  | inl at ↦ ap q (eqb-true b m at) ∙ (and_parts (q m) (list_all q ms) all).0
  | inr later ↦ any-passes q b ms later (and_parts (q m) (list_all q ms) all).1
]

mark-not : (q : ℕ → Bool) (b : ℕ) → list_all (λ m. not (q m)) (58 ∷ 59 ∷ 44 ∷ 46 ∷ 62 ∷ 42 ∷ 123 ∷ 125 ∷ 40 ∷ 41 ∷ 33 ∷ []) ≡ true → is_mark b ≡ true → q b ≡ false
mark-not q b none is = not-true (q b) (any-passes (λ m. not (q m)) b (58 ∷ 59 ∷ 44 ∷ 46 ∷ 62 ∷ 42 ∷ 123 ∷ 125 ∷ 40 ∷ 41 ∷ 33 ∷ []) is none)

no-mark : (q : ℕ → Bool) (b : ℕ) → list_all (λ m. not (q m)) (58 ∷ 59 ∷ 44 ∷ 46 ∷ 62 ∷ 42 ∷ 123 ∷ 125 ∷ 40 ∷ 41 ∷ 33 ∷ []) ≡ true → q b ≡ true → is_mark b ≡ false
no-mark q b none passes = of (is_mark b) refl
  where
    of : (mark : Bool) → is_mark b ≡ mark → mark ≡ false
    of true is = let clash : true ≡ false = sym passes ∙ mark-not q b none is in cc
    of false is = refl

-- ---- kind by kind

space-kind : (bytes : List ℕ) → is_space bytes ≡ true → Space ≡ kind_of bytes
space-kind [] is = absurd (let clash : false ≡ true = is in cc)
space-kind (b ∷ bytes) is =
    let first : First b true false false false false false = first-blank b (and_parts (is_blank b) (list_all is_blank bytes) is).0 in
    sym (chosen b bytes true false false false false (is_mark b && is_none bytes) first.is_blank_is first.is_name_is first.is_hash_is first.is_dollar_is first.is_slash_is refl)

name-kind : (bytes : List ℕ) → is_name bytes ≡ true → Name ≡ kind_of bytes
name-kind [] is = absurd (let clash : false ≡ true = is in cc)
name-kind (b ∷ bytes) is =
    let first : First b false true false false false false = first-name b (and_parts (begins_name b) (list_all continues_name bytes) is).0 in
    sym (chosen b bytes false true false false false (is_mark b && is_none bytes) first.is_blank_is first.is_name_is first.is_hash_is first.is_dollar_is first.is_slash_is refl)

hash-kind : (bytes : List ℕ) → is_hash bytes ≡ true → Hash ≡ kind_of bytes
hash-kind [] is = absurd (let clash : false ≡ true = is in cc)
hash-kind (b ∷ []) is = absurd (let clash : false ≡ true = is in cc)
hash-kind (b ∷ x ∷ bytes) is =
    let first : First b false false true false false false = first-hash b (and_parts (nat_eq b 35) (continues_name x && list_all continues_name bytes) is).0 in
    sym (chosen b (x ∷ bytes) false false true false false (is_mark b && false) first.is_blank_is first.is_name_is first.is_hash_is first.is_dollar_is first.is_slash_is refl)

variable-kind : (bytes : List ℕ) → is_variable bytes ≡ true → Variable ≡ kind_of bytes
variable-kind [] is = absurd (let clash : false ≡ true = is in cc)
variable-kind (b ∷ bytes) is =
    let first : First b false false false true false false = first-dollar b (and_parts (nat_eq b 36) (is_name bytes) is).0 in
    sym (chosen b bytes false false false true false (is_mark b && is_none bytes) first.is_blank_is first.is_name_is first.is_hash_is first.is_dollar_is first.is_slash_is refl)

comment-kind : (bytes : List ℕ) → is_comment bytes ≡ true → Comment ≡ kind_of bytes
comment-kind [] is = absurd (let clash : false ≡ true = is in cc)
comment-kind (b ∷ []) is = absurd (let clash : false ≡ true = is in cc)
comment-kind (b ∷ x ∷ bytes) is =
    let first : First b false false false false true false = first-slash b (and_parts (nat_eq b 47) (nat_eq x 42 && closes bytes) is).0 in
    sym (chosen b (x ∷ bytes) false false false false true (is_mark b && false) first.is_blank_is first.is_name_is first.is_hash_is first.is_dollar_is first.is_slash_is refl)

and-false : (t : Bool) → (t && false) ≡ false
and-false true = refl
and-false false = refl

mark-kind : (m : ℕ) (bytes : List ℕ) → is_mark_of m bytes ≡ true → Mark m ≡ kind_of bytes
mark-kind m [] is = absurd (let clash : false ≡ true = is in cc)
mark-kind m (b ∷ x ∷ bytes) is = absurd (let clash : false ≡ true = is in cc)
mark-kind m (b ∷ []) is =
    let both : (nat_eq b m ≡ true) × (is_mark b ≡ true) = and_parts (nat_eq b m) (is_mark b) is in
    ap Mark (sym (eqb-true b m both.0))
    ∙ sym (chosen b [] false false false false false true
    (mark-not is_blank b refl both.1) (mark-not begins_name b refl both.1) (mark-not (λ n. nat_eq n 35) b refl both.1)
    (mark-not (λ n. nat_eq n 36) b refl both.1) (mark-not (λ n. nat_eq n 47) b refl both.1) (ap (λ t. t && true) both.1))

-- a byte that begins a number
digit-first : (b : ℕ) → is_ascii_digit b ≡ true → (is_blank b ≡ false) × (begins_name b ≡ false) × (nat_eq b 35 ≡ false) × (nat_eq b 36 ≡ false) × (nat_eq b 47 ≡ false)
digit-first b is = (blank, name, above-not b 35 (omega (arith, low)), above-not b 36 (omega (arith, low)), above-not b 47 (omega (arith, low)))
  where
    bounds : (nat_le 48 b ≡ true) × (nat_le b 57 ≡ true)
    bounds = and_parts (nat_le 48 b) (nat_le b 57) is

    at_least : nat_le 48 b ≡ true → 48 ≤ b
    at_least t = grind (arith, nat_tests)

    at_most : nat_le b 57 ≡ true → b ≤ 57
    at_most t = grind (arith, nat_tests)

    low : 48 ≤ b
    low = at_least bounds.0

    high : b ≤ 57
    high = at_most bounds.1

    four : (p q r s : Bool) → p ≡ false → q ≡ false → r ≡ false → s ≡ false → (p || q || r || s) ≡ false
    four p q r s pf qf rf sf = rw (pf, qf, rf, sf) refl

    blank : is_blank b ≡ false
    blank = four (nat_eq b 32) (nat_eq b 9) (nat_eq b 10) (nat_eq b 13) (above-not b 32 (omega (arith, low))) (above-not b 9 (omega (arith, low))) (above-not b 10 (omega (arith, low))) (above-not b 13 (omega (arith, low)))

    not_from : (c : ℕ) → b < c → nat_le c b ≡ false
    not_from c below = grind (arith, nat_tests)

    three : (p q r s t : Bool) → p ≡ false → r ≡ false → t ≡ false → ((p && q) || (r && s) || t) ≡ false
    three p q r s t pf rf tf = rw (pf, rf, tf) refl

    below-not : (c : ℕ) → b < c → nat_eq b c ≡ false
    below-not c below = grind (arith, nat_tests)

    name : begins_name b ≡ false
    name = three (nat_le 65 b) (nat_le b 90) (nat_le 97 b) (nat_le b 122) (nat_eq b 95) (not_from 65 (omega (arith, high))) (not_from 97 (omega (arith, high))) (below-not 95 (omega (arith, high)))

number-first : (b : ℕ) (bytes : List ℕ) → is_number (b ∷ bytes) ≡ true → (is_ascii_digit b || nat_eq b 45 || nat_eq b 46) ≡ true
number-first b bytes is = of (is_ascii_digit b || nat_eq b 45 || nat_eq b 46) refl
  where
    of : (t : Bool) → (is_ascii_digit b || nat_eq b 45 || nat_eq b 46) ≡ t → t ≡ true
    of true at = refl
    of false at = let clash : true ≡ false = sym is ∙ refuses-numbers b at bytes in cc

point-alone : (b : ℕ) (bytes : List ℕ) → nat_eq b 46 ≡ true → is_number (b ∷ bytes) ≡ true → (is_mark b && is_none bytes) ≡ false
point-alone b [] at is = absurd (let clash : false ≡ true = sym (ap (λ n. is_number (n ∷ [])) (eqb-true b 46 at)) ∙ is in cc)
point-alone b (x ∷ bytes) at is = and-false (is_mark b)

number-kind : (bytes : List ℕ) → is_number bytes ≡ true → Number ≡ kind_of bytes
number-kind [] is = absurd (let clash : false ≡ true = is in cc)
number-kind (b ∷ bytes) is = elim (or_cases (is_ascii_digit b || nat_eq b 45) (nat_eq b 46) (number-first b bytes is)) [
  | inl left ↦ elim (or_cases (is_ascii_digit b) (nat_eq b 45) left) [
    | inl digit ↦ (let first : (is_blank b ≡ false) × (begins_name b ≡ false) × (nat_eq b 35 ≡ false) × (nat_eq b 36 ≡ false) × (nat_eq b 47 ≡ false) = digit-first b digit in
        sym (chosen b bytes false false false false false false first.0 first.1 first.2 first.3 first.4 (ap (λ t. t && is_none bytes) (no-mark is_ascii_digit b refl digit))))
    | inr sign ↦ at 45 (eqb-true b 45 sign) refl refl refl refl refl (ap (λ t. t && is_none bytes) (ap is_mark (eqb-true b 45 sign)))
  ]
  | inr point ↦ at 46 (eqb-true b 46 point) refl refl refl refl refl (point-alone b bytes point is)
]
  where
    at : (c : ℕ) → b ≡ c → is_blank c ≡ false → begins_name c ≡ false → nat_eq c 35 ≡ false → nat_eq c 36 ≡ false → nat_eq c 47 ≡ false → (is_mark b && is_none bytes) ≡ false → Number ≡ kind_of (b ∷ bytes)
    at c e blank name hash dollar slash mark =
        sym (chosen b bytes false false false false false false (ap is_blank e ∙ blank) (ap begins_name e ∙ name) (ap (λ n. nat_eq n 35) e ∙ hash) (ap (λ n. nat_eq n 36) e ∙ dollar) (ap (λ n. nat_eq n 47) e ∙ slash) mark)

token-kind : (kind : TokenKind) (bytes : List ℕ) → is_token kind bytes ≡ true → kind ≡ kind_of bytes
token-kind Space bytes is = space-kind bytes is
token-kind Comment bytes is = comment-kind bytes is
token-kind Name bytes is = name-kind bytes is
token-kind Hash bytes is = hash-kind bytes is
token-kind Variable bytes is = variable-kind bytes is
token-kind Number bytes is = number-kind bytes is
token-kind (Mark m) bytes is = mark-kind m bytes is

pub one_kind : (kind other : TokenKind) (bytes : List ℕ) → is_token kind bytes ≡ true → is_token other bytes ≡ true → kind ≡ other
one_kind kind other bytes is also = token-kind kind bytes is ∙ sym (token-kind other bytes also)
