-- The token that is read is the longest of all kinds, and none is read where none begins.
use Rattle.std.proofs.Common.{◌≡◌, inl, inr, ℕ, zero, suc, ◌+◌, ◌<◌, Bool, true, false, cond, ◌&&◌, ◌||◌, nat_eq, List, [], ◌∷◌, take, Option, None, Some, option_map, refl, ap, sym, ◌∙◌, subst, arith}
use Rattle.std.proofs.lemmas.Bool.{eqb-true, eq-eqb, or_cases, or_parts}
use Rattle.std.specs.Char.{is_ascii_digit}
use Rattle.std.specs.List.{list_all, prefix_len}
use Rattle.tx_text.specs.Name.{begins_name, continues_name}
use Rattle.tx_lex.specs.Bytes.{is_blank, is_mark}
use Rattle.tx_lex.specs.Tokens.{is_space, is_comment, is_name, is_hash, is_variable, is_number, is_token, IsLongest, PassesNone, IsLongestToken, BeginsNone}
use Rattle.tx_lex.specs.Lexing.{behind_point_len, hash_len, variable_len, comment_len, whole_len, unsigned_len, number_len, of_kind, number_or_point, longest_token}
use Rattle.tx_lex.specs.declared.token.TokenKind.{TokenKind}
use Rattle.tx_lex.specs.declared.token.TokenKind.TheVariants.{Space, Comment, Name, Hash, Variable, Number, Mark}
use Rattle.tx_lex.proofs.Longest.{Finds, none-first, longest-next, longest-all}
use Rattle.tx_lex.proofs.Numbers.{finds-number, finds-comment, comment-other}
use Rattle.tx_lex.proofs.FirstBytes.{First, first-blank, first-name, first-hash, first-dollar, first-slash, Refuses, refuses-space, refuses-name, refuses-hash, refuses-variable, refuses-number, NoneLonger, refused-longer, mark-longer, AllShort, longest-of_all, none-of_all, finds-hash, finds-variable, longest-name}

-- what is found is the longest token, or none begins
abbrev pub Judges : List ℕ → Option (TokenKind × ℕ) → Type 0
Judges bytes None = BeginsNone bytes
Judges bytes (Some found) = IsLongestToken bytes found.0 found.1

pub refuses-numbers : (b : ℕ) → (is_ascii_digit b || nat_eq b 45 || nat_eq b 46) ≡ false → Refuses is_number b
refuses-numbers b is =
    let outer : ((is_ascii_digit b || nat_eq b 45) ≡ false) × (nat_eq b 46 ≡ false) = or_parts (is_ascii_digit b || nat_eq b 45) (nat_eq b 46) is in
    let inner : (is_ascii_digit b ≡ false) × (nat_eq b 45 ≡ false) = or_parts (is_ascii_digit b) (nat_eq b 45) outer.0 in
    refuses-number b inner.0 inner.1 outer.1

-- a token has a byte
pub longest-some_bytes : (kind : TokenKind) (bytes : List ℕ) (n : ℕ) → IsLongest (is_token kind) bytes n → 0 < n
longest-some_bytes kind bytes zero longest = absurd (empty kind longest.passes)
  where
    empty : (kind : TokenKind) → is_token kind (take 0 bytes) ≡ true → ⊥
    empty Space is = let clash : false ≡ true = is in cc
    empty Comment is = let clash : false ≡ true = is in cc
    empty Name is = let clash : false ≡ true = is in cc
    empty Hash is = let clash : false ≡ true = is in cc
    empty Variable is = let clash : false ≡ true = is in cc
    empty Number is = let clash : false ≡ true = is in cc
    empty (Mark m) is = let clash : false ≡ true = is in cc
longest-some_bytes kind bytes (suc n) longest = omega arith

-- all kinds but the one whose length is known are refused
short_space : (b : ℕ) (bytes : List ℕ) (n : ℕ) → First b true false false false false false → NoneLonger is_space (b ∷ bytes) n → AllShort b bytes n
short_space b bytes n first own = record {
  space = own;
  comment = refused-longer is_comment b bytes n (comment-other b first.is_slash_is);
  name = refused-longer is_name b bytes n (refuses-name b first.is_name_is);
  hash = refused-longer is_hash b bytes n (refuses-hash b first.is_hash_is);
  variable = refused-longer is_variable b bytes n (refuses-variable b first.is_dollar_is);
  number = refused-longer is_number b bytes n (refuses-numbers b first.is_number_is);
}

short_name : (b : ℕ) (bytes : List ℕ) (n : ℕ) → First b false true false false false false → NoneLonger is_name (b ∷ bytes) n → AllShort b bytes n
short_name b bytes n first own = record {
  space = refused-longer is_space b bytes n (refuses-space b first.is_blank_is);
  comment = refused-longer is_comment b bytes n (comment-other b first.is_slash_is);
  name = own;
  hash = refused-longer is_hash b bytes n (refuses-hash b first.is_hash_is);
  variable = refused-longer is_variable b bytes n (refuses-variable b first.is_dollar_is);
  number = refused-longer is_number b bytes n (refuses-numbers b first.is_number_is);
}

short_hash : (b : ℕ) (bytes : List ℕ) (n : ℕ) → First b false false true false false false → NoneLonger is_hash (b ∷ bytes) n → AllShort b bytes n
short_hash b bytes n first own = record {
  space = refused-longer is_space b bytes n (refuses-space b first.is_blank_is);
  comment = refused-longer is_comment b bytes n (comment-other b first.is_slash_is);
  name = refused-longer is_name b bytes n (refuses-name b first.is_name_is);
  hash = own;
  variable = refused-longer is_variable b bytes n (refuses-variable b first.is_dollar_is);
  number = refused-longer is_number b bytes n (refuses-numbers b first.is_number_is);
}

short_variable : (b : ℕ) (bytes : List ℕ) (n : ℕ) → First b false false false true false false → NoneLonger is_variable (b ∷ bytes) n → AllShort b bytes n
short_variable b bytes n first own = record {
  space = refused-longer is_space b bytes n (refuses-space b first.is_blank_is);
  comment = refused-longer is_comment b bytes n (comment-other b first.is_slash_is);
  name = refused-longer is_name b bytes n (refuses-name b first.is_name_is);
  hash = refused-longer is_hash b bytes n (refuses-hash b first.is_hash_is);
  variable = own;
  number = refused-longer is_number b bytes n (refuses-numbers b first.is_number_is);
}

short_comment : (b : ℕ) (bytes : List ℕ) (n : ℕ) → First b false false false false true false → NoneLonger is_comment (b ∷ bytes) n → AllShort b bytes n
short_comment b bytes n first own = record {
  space = refused-longer is_space b bytes n (refuses-space b first.is_blank_is);
  comment = own;
  name = refused-longer is_name b bytes n (refuses-name b first.is_name_is);
  hash = refused-longer is_hash b bytes n (refuses-hash b first.is_hash_is);
  variable = refused-longer is_variable b bytes n (refuses-variable b first.is_dollar_is);
  number = refused-longer is_number b bytes n (refuses-numbers b first.is_number_is);
}

-- the first byte begins nothing but a number, or a mark
record IsOther (b : ℕ) : Type 0 where
  blank : is_blank b ≡ false
  name : begins_name b ≡ false
  hash : nat_eq b 35 ≡ false
  dollar : nat_eq b 36 ≡ false
  slash : nat_eq b 47 ≡ false

short_other : (b : ℕ) (bytes : List ℕ) (n : ℕ) → IsOther b → NoneLonger is_number (b ∷ bytes) n → AllShort b bytes n
short_other b bytes n other own = record {
  space = refused-longer is_space b bytes n (refuses-space b other.blank);
  comment = refused-longer is_comment b bytes n (comment-other b other.slash);
  name = refused-longer is_name b bytes n (refuses-name b other.name);
  hash = refused-longer is_hash b bytes n (refuses-hash b other.hash);
  variable = refused-longer is_variable b bytes n (refuses-variable b other.dollar);
  number = own;
}

none_other : (b : ℕ) (bytes : List ℕ) → IsOther b → PassesNone is_number (b ∷ bytes) → is_mark b ≡ false → BeginsNone (b ∷ bytes)
none_other b bytes other number mark = none-of_all b bytes
    (none-first is_space b bytes refl (refuses-space b other.blank))
    (none-first is_comment b bytes refl (comment-other b other.slash))
    (none-first is_name b bytes refl (refuses-name b other.name))
    (none-first is_hash b bytes refl (refuses-hash b other.hash))
    (none-first is_variable b bytes refl (refuses-variable b other.dollar))
    number mark

-- ---- class by class

space-judged : (b : ℕ) (bytes : List ℕ) → is_blank b ≡ true → Judges (b ∷ bytes) (Some (Space, 1 + prefix_len is_blank bytes))
space-judged b bytes is =
    let next : 1 + prefix_len is_blank bytes ≡ suc (prefix_len is_blank bytes) = omega arith in
    let longest : IsLongest is_space (b ∷ bytes) (1 + prefix_len is_blank bytes) = subst (IsLongest is_space (b ∷ bytes)) (sym next)
    (longest-next is_space (list_all is_blank) b bytes (prefix_len is_blank bytes) (λ xs. ap (λ first. first && list_all is_blank xs) is) (longest-all is_blank bytes)) in
    longest-of_all Space b bytes (1 + prefix_len is_blank bytes) (omega arith) longest (short_space b bytes (1 + prefix_len is_blank bytes) (first-blank b is) longest.none_longer)

name-judged : (b : ℕ) (bytes : List ℕ) → begins_name b ≡ true → Judges (b ∷ bytes) (Some (Name, 1 + prefix_len continues_name bytes))
name-judged b bytes is =
    let longest : IsLongest is_name (b ∷ bytes) (1 + prefix_len continues_name bytes) = longest-name b bytes is in
    longest-of_all Name b bytes (1 + prefix_len continues_name bytes) (omega arith) longest (short_name b bytes (1 + prefix_len continues_name bytes) (first-name b is) longest.none_longer)

hash-judged : (b : ℕ) (bytes : List ℕ) (found : Option ℕ) → nat_eq b 35 ≡ true → Finds is_hash (b ∷ bytes) found → Judges (b ∷ bytes) (of_kind Hash found)
hash-judged b bytes (Some n) is longest = longest-of_all Hash b bytes n (longest-some_bytes Hash (b ∷ bytes) n longest) longest (short_hash b bytes n (first-hash b is) longest.none_longer)
hash-judged b bytes None is none =
    let first : First b false false true false false false = first-hash b is in
    none-of_all b bytes
    (none-first is_space b bytes refl (refuses-space b first.is_blank_is))
    (none-first is_comment b bytes refl (comment-other b first.is_slash_is))
    (none-first is_name b bytes refl (refuses-name b first.is_name_is))
    none
    (none-first is_variable b bytes refl (refuses-variable b first.is_dollar_is))
    (none-first is_number b bytes refl (refuses-numbers b first.is_number_is))
    (ap is_mark (eqb-true b 35 is))

variable-judged : (b : ℕ) (bytes : List ℕ) (found : Option ℕ) → nat_eq b 36 ≡ true → Finds is_variable (b ∷ bytes) found → Judges (b ∷ bytes) (of_kind Variable found)
variable-judged b bytes (Some n) is longest = longest-of_all Variable b bytes n (longest-some_bytes Variable (b ∷ bytes) n longest) longest (short_variable b bytes n (first-dollar b is) longest.none_longer)
variable-judged b bytes None is none =
    let first : First b false false false true false false = first-dollar b is in
    none-of_all b bytes
    (none-first is_space b bytes refl (refuses-space b first.is_blank_is))
    (none-first is_comment b bytes refl (comment-other b first.is_slash_is))
    (none-first is_name b bytes refl (refuses-name b first.is_name_is))
    (none-first is_hash b bytes refl (refuses-hash b first.is_hash_is))
    none
    (none-first is_number b bytes refl (refuses-numbers b first.is_number_is))
    (ap is_mark (eqb-true b 36 is))

comment-judged : (b : ℕ) (bytes : List ℕ) (found : Option ℕ) → nat_eq b 47 ≡ true → Finds is_comment (b ∷ bytes) found → Judges (b ∷ bytes) (of_kind Comment found)
comment-judged b bytes (Some n) is longest = longest-of_all Comment b bytes n (longest-some_bytes Comment (b ∷ bytes) n longest) longest (short_comment b bytes n (first-slash b is) longest.none_longer)
comment-judged b bytes None is none =
    let first : First b false false false false true false = first-slash b is in
    none-of_all b bytes
    (none-first is_space b bytes refl (refuses-space b first.is_blank_is))
    none
    (none-first is_name b bytes refl (refuses-name b first.is_name_is))
    (none-first is_hash b bytes refl (refuses-hash b first.is_hash_is))
    (none-first is_variable b bytes refl (refuses-variable b first.is_dollar_is))
    (none-first is_number b bytes refl (refuses-numbers b first.is_number_is))
    (ap is_mark (eqb-true b 47 is))

-- a mark alone
mark-longest : (mark b : ℕ) (bytes : List ℕ) → nat_eq b mark ≡ true → is_mark b ≡ true → IsOther b → NoneLonger is_number (b ∷ bytes) 1 → IsLongestToken (b ∷ bytes) (Mark mark) 1
mark-longest mark b bytes same is other number =
    longest-of_all (Mark mark) b bytes 1 (omega arith) (record {
      within = omega arith;
      passes = ap (λ t. t && is_mark b) same ∙ is;
      none_longer = mark-longer mark b bytes 1 (omega arith);
    }) (short_other b bytes 1 other number)

-- a number begins with a digit always
digit-number : (b : ℕ) (bytes : List ℕ) → is_ascii_digit b ≡ true → number_len (b ∷ bytes) ≡ None → ⊥
unfolding number_len
digit-number b bytes is none = of (nat_eq b 45) refl
  where
    some : nat_eq b 45 ≡ false → number_len (b ∷ bytes) ≡ Some (whole_len (b ∷ bytes))
    some sign = ap (λ sign. cond sign (option_map (λ n. n + 1) (unsigned_len bytes)) (unsigned_len (b ∷ bytes))) sign
        ∙ ap (λ digit. cond digit (Some (whole_len (b ∷ bytes))) (cond (nat_eq b 46) (option_map (λ n. n + 1) (behind_point_len bytes)) None)) is

    of : (sign : Bool) → nat_eq b 45 ≡ sign → ⊥
    of true sign = let clash : true ≡ false = sym is ∙ ap is_ascii_digit (eqb-true b 45 sign) in cc
    of false sign = let clash : Some (whole_len (b ∷ bytes)) ≡ None = sym (some sign) ∙ none in cc

number-judged : (b : ℕ) (bytes : List ℕ) (found : Option ℕ) → number_len (b ∷ bytes) ≡ found → IsOther b → (is_ascii_digit b || nat_eq b 45 || nat_eq b 46) ≡ true → Finds is_number (b ∷ bytes) found
    → Judges (b ∷ bytes) (number_or_point b found)
number-judged b bytes (Some n) len other is longest = longest-of_all Number b bytes n (longest-some_bytes Number (b ∷ bytes) n longest) longest (short_other b bytes n other longest.none_longer)
number-judged b bytes None len other is none = of (nat_eq b 46) refl
  where
    no_mark : nat_eq b 46 ≡ false → is_mark b ≡ false
    no_mark point = elim (or_cases (is_ascii_digit b || nat_eq b 45) (nat_eq b 46) is) [
      | inl left ↦ elim (or_cases (is_ascii_digit b) (nat_eq b 45) left) [
        | inl digit ↦ absurd (digit-number b bytes digit len)
        | inr sign ↦ ap is_mark (eqb-true b 45 sign)
      ]
      | inr also ↦ absurd (let clash : true ≡ false = sym also ∙ point in cc)
    ]

    of : (point : Bool) → nat_eq b 46 ≡ point → Judges (b ∷ bytes) (cond point (Some (Mark 46, 1)) None)
    of true point = mark-longest 46 b bytes point (ap is_mark (eqb-true b 46 point)) other (λ m above within. none m within)
    of false point = none_other b bytes other none (no_mark point)

mark-judged : (b : ℕ) (bytes : List ℕ) (mark : Bool) → is_mark b ≡ mark → IsOther b → (is_ascii_digit b || nat_eq b 45 || nat_eq b 46) ≡ false → Judges (b ∷ bytes) (cond mark (Some (Mark b, 1)) None)
mark-judged b bytes true is other number = mark-longest b b bytes (eq-eqb b b refl) is other (refused-longer is_number b bytes 1 (refuses-numbers b number))
mark-judged b bytes false is other number = none_other b bytes other (none-first is_number b bytes refl (refuses-numbers b number)) is

-- ---- all

pub longest_token-judged : (bytes : List ℕ) → Judges bytes (longest_token bytes)
unfolding longest_token
longest_token-judged [] = none
  where
    none : BeginsNone []
    none Space zero within = refl
    none Space (suc n) within = refl
    none Comment zero within = refl
    none Comment (suc n) within = refl
    none Name zero within = refl
    none Name (suc n) within = refl
    none Hash zero within = refl
    none Hash (suc n) within = refl
    none Variable zero within = refl
    none Variable (suc n) within = refl
    none Number zero within = refl
    none Number (suc n) within = refl
    none (Mark m) zero within = refl
    none (Mark m) (suc n) within = refl
longest_token-judged (b ∷ bytes) = on_blank (is_blank b) refl
  where
    on_number : (number : Bool) → (is_ascii_digit b || nat_eq b 45 || nat_eq b 46) ≡ number → IsOther b
        → Judges (b ∷ bytes) (cond number (number_or_point b (number_len (b ∷ bytes))) (cond (is_mark b) (Some (Mark b, 1)) None))
    on_number true is other = number-judged b bytes (number_len (b ∷ bytes)) refl other is (finds-number (b ∷ bytes))
    on_number false is other = mark-judged b bytes (is_mark b) refl other is

    on_slash : (slash : Bool) → is_blank b ≡ false → begins_name b ≡ false → nat_eq b 35 ≡ false → nat_eq b 36 ≡ false → nat_eq b 47 ≡ slash
        → Judges (b ∷ bytes) (cond slash (of_kind Comment (comment_len (b ∷ bytes))) (cond (is_ascii_digit b || nat_eq b 45 || nat_eq b 46) (number_or_point b (number_len (b ∷ bytes))) (cond (is_mark b) (Some (Mark b, 1)) None)))
    on_slash true blank name hash dollar is = comment-judged b bytes (comment_len (b ∷ bytes)) is (finds-comment b bytes is)
    on_slash false blank name hash dollar is = on_number (is_ascii_digit b || nat_eq b 45 || nat_eq b 46) refl (record { blank = blank; name = name; hash = hash; dollar = dollar; slash = is })

    on_dollar : (dollar : Bool) → is_blank b ≡ false → begins_name b ≡ false → nat_eq b 35 ≡ false → nat_eq b 36 ≡ dollar
        → Judges (b ∷ bytes) (cond dollar (of_kind Variable (variable_len bytes)) (cond (nat_eq b 47) (of_kind Comment (comment_len (b ∷ bytes))) (cond (is_ascii_digit b || nat_eq b 45 || nat_eq b 46) (number_or_point b (number_len (b ∷ bytes))) (cond (is_mark b) (Some (Mark b, 1)) None))))
    on_dollar true blank name hash is = variable-judged b bytes (variable_len bytes) is (finds-variable b bytes is)
    on_dollar false blank name hash is = on_slash (nat_eq b 47) blank name hash is refl

    on_hash : (hash : Bool) → is_blank b ≡ false → begins_name b ≡ false → nat_eq b 35 ≡ hash
        → Judges (b ∷ bytes) (cond hash (of_kind Hash (hash_len bytes)) (cond (nat_eq b 36) (of_kind Variable (variable_len bytes)) (cond (nat_eq b 47) (of_kind Comment (comment_len (b ∷ bytes))) (cond (is_ascii_digit b || nat_eq b 45 || nat_eq b 46) (number_or_point b (number_len (b ∷ bytes))) (cond (is_mark b) (Some (Mark b, 1)) None)))))
    on_hash true blank name is = hash-judged b bytes (hash_len bytes) is (finds-hash b bytes is)
    on_hash false blank name is = on_dollar (nat_eq b 36) blank name is refl

    on_name : (name : Bool) → is_blank b ≡ false → begins_name b ≡ name
        → Judges (b ∷ bytes) (cond name (Some (Name, 1 + prefix_len continues_name bytes)) (cond (nat_eq b 35) (of_kind Hash (hash_len bytes)) (cond (nat_eq b 36) (of_kind Variable (variable_len bytes)) (cond (nat_eq b 47) (of_kind Comment (comment_len (b ∷ bytes))) (cond (is_ascii_digit b || nat_eq b 45 || nat_eq b 46) (number_or_point b (number_len (b ∷ bytes))) (cond (is_mark b) (Some (Mark b, 1)) None))))))
    on_name true blank is = name-judged b bytes is
    on_name false blank is = on_hash (nat_eq b 35) blank is refl

    on_blank : (blank : Bool) → is_blank b ≡ blank
        → Judges (b ∷ bytes) (cond blank (Some (Space, 1 + prefix_len is_blank bytes)) (cond (begins_name b) (Some (Name, 1 + prefix_len continues_name bytes)) (cond (nat_eq b 35) (of_kind Hash (hash_len bytes)) (cond (nat_eq b 36) (of_kind Variable (variable_len bytes)) (cond (nat_eq b 47) (of_kind Comment (comment_len (b ∷ bytes))) (cond (is_ascii_digit b || nat_eq b 45 || nat_eq b 46) (number_or_point b (number_len (b ∷ bytes))) (cond (is_mark b) (Some (Mark b, 1)) None)))))))
    on_blank true is = space-judged b bytes is
    on_blank false is = on_name (begins_name b) is refl

-- a token that is read has a byte
pub longest_token-some : (bytes : List ℕ) (found : TokenKind × ℕ) → Some found ≡ longest_token bytes → 0 < found.1
longest_token-some bytes found is =
    let judged : Judges bytes (Some found) = subst (Judges bytes) (sym is) (longest_token-judged bytes) in
    longest-some_bytes found.0 bytes found.1 judged.longest
