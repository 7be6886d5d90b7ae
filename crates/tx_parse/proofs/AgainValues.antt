-- The values and the declarations that are in the grammar are read.
use Rattle.std.proofs.Common.{◌≡◌, ◌≢◌, ℕ, ◌+◌, ◌≤◌, Bool, true, false, cond, not, ◌&&◌, ◌||◌, List, [], ◌∷◌, ◌++◌, length, nat_lt, nat_eq, Option, Some, None, is_some, Ok, bytes_eq, refl, ap, sym, ◌∙◌, subst, arith, append_assoc, length-append, codes}
use Rattle.std.specs.List.{list_all}
use Rattle.std.proofs.lemmas.List.{append-nil}
use Rattle.std.proofs.lemmas.Slice.Eq.{bytes_eq-Decides}
use Rattle.std.proofs.lemmas.Bool.Decides.{nat_tests}
use Rattle.tx_read.specs.Reading.{◌>>=◌}
use Rattle.tx_lex.specs.Lexemes.{Lexeme, is_blank, is_name_token, is_mark, first_is}
use Rattle.tx_lex.specs.declared.token.TokenKind.{TokenKind}
use Rattle.tx_lex.specs.declared.token.TokenKind.TheVariants.{Space, Comment, Name, Hash, Variable, Number, Mark}
use Rattle.tx_select.specs.Grammar.{AreBlank}
use Rattle.tx_value.specs.Declarations.{Pair, declaration, valued}
use Rattle.tx_value.specs.Names.{is_known, meaning_of}
use Rattle.tx_value.specs.declared.property.Named.{Named}
use Rattle.tx_parse.specs.Grammar.{IsValues, IsImportance, IsDeclaration}
use Rattle.tx_lex.specs.Blanks.{past_blanks, without_blanks}
use Rattle.tx_parse.specs.SheetReading.{met, expected, token_at, mark_at, added, values_from, at_least_one, values_at, place_of, is_important, important_word_at, importance_at, Spelled, spelled, spelled_at, is_end, told, ended, declaration_at}
use Rattle.tx_parse.specs.Values.{DeclarationValue}
use Rattle.tx_parse.specs.Variables.{Defined, is_value, stands_for, both, stand_for}
use Rattle.tx_parse.specs.declared.fault.SheetKind.TheVariants.{ValueTooLong, UnknownProperty}
use Rattle.std.proofs.lemmas.Bool.{and_parts}
use Rattle.tx_parse.proofs.Local.{behind_name}
use Rattle.tx_parse.proofs.Turns.{turn_ok, spelled_ok}
use Rattle.tx_parse.proofs.ValueSteps.{values_past, values_value, values_other, values_none}

-- ---- spaces and comments

pub past_again : (blank rest : List Lexeme) → AreBlank blank → first_is is_blank rest ≡ false → past_blanks (blank ++ rest) ≡ rest
past_again [] [] all none = refl
past_again [] (t ∷ ts) all none = ap (λ b. cond b (past_blanks ts) (t ∷ ts)) none
past_again (t ∷ blank) rest all none =
    let parts : (is_blank t.kind ≡ true) × AreBlank blank = and_parts (is_blank t.kind) (list_all (λ t. is_blank t.kind) blank) all in
    ap (λ b. cond b (past_blanks (blank ++ rest)) (t ∷ (blank ++ rest))) parts.0 ∙ past_again blank rest parts.1 none

-- ---- single tokens

pub is_kind : (byte : ℕ) (kind : TokenKind) → kind ≡ Mark byte → is_mark byte kind ≡ true
is_kind byte kind is = ap (is_mark byte) is ∙ same byte
  where
    same : (n : ℕ) → nat_eq n n ≡ true
    same n = grind (arith, nat_tests)

pub mark_again : (byte : ℕ) (gap rest : List Lexeme) (t : Lexeme) → AreBlank gap → t.kind ≡ Mark byte → mark_at byte (gap ++ (t ∷ rest)) ≡ Ok (t, rest)
unfolding mark_at
mark_again byte gap rest t blank is =
    ap (token_at (λ t. is_mark byte t.kind)) (past_again gap (t ∷ rest) blank (ap is_blank is))
    ∙ ap (λ b. cond b (Ok (t, rest)) (expected (t ∷ rest))) (is_kind byte t.kind is)

-- ---- values

abbrev ValuesAgain : Defined → List Lexeme → List Lexeme → Type 0
ValuesAgain defined piece rest = (found stand : List Lexeme) → list_all (λ t. is_value t.kind) (without_blanks piece) ≡ true → stand_for defined (without_blanks piece) ≡ Some stand → length found + length stand ≤ 64
    → values_from defined found (piece ++ rest) ≡ Ok (found ++ stand, rest)

ends_values : (defined : Defined) (found rest : List Lexeme) → first_is is_blank rest ≡ false → first_is is_value rest ≡ false → values_from defined found rest ≡ Ok (found, rest)
ends_values defined found [] blank value = values_none defined found
ends_values defined found (t ∷ ts) blank value = values_other defined found t ts blank value

both_some : (stand : List Lexeme) (others : Option (List Lexeme)) (all : List Lexeme) → both (Some stand) others ≡ Some all → (more : List Lexeme) × (others ≡ Some more) × (all ≡ stand ++ more)
both_some stand None all is = absurd (let clash : None ≡ Some all = is in cc)
both_some stand (Some more) all is = let same : stand ++ more ≡ all = cc in (more, refl, sym same)

few_added : (defined : Defined) (found stand more ts rest : List Lexeme) (t : Lexeme) → length found + length (stand ++ more) ≤ 64
    → ((f : List Lexeme) → length f + length more ≤ 64 → values_from defined f ts ≡ Ok (f ++ more, rest)) → (added found t ts (Some stand) >>= (λ a. values_from defined a.0 ts)) ≡ Ok (found ++ (stand ++ more), rest)
few_added defined found stand more ts rest t few again =
    let one : length (stand ++ more) ≡ length stand + length more = length-append stand more in
    let two : length (found ++ stand) ≡ length found + length stand = length-append found stand in
    ap (λ b. cond b (met ValueTooLong (t ∷ ts)) (Ok (found ++ stand, ts)) >>= (λ a. values_from defined a.0 ts)) (enough (length found + length stand) (omega (arith, few, one)))
    ∙ again (found ++ stand) (omega (arith, few, one, two))
    ∙ ap (λ a. Ok (a, rest)) (append_assoc found stand more)
  where
    enough : (n : ℕ) → n ≤ 64 → nat_lt 64 n ≡ false
    enough n few = grind (arith, few, nat_tests)

values_from_again : (defined : Defined) (piece rest : List Lexeme) → first_is is_blank rest ≡ false → first_is is_value rest ≡ false → ValuesAgain defined piece rest
unfolding values_from
values_from_again defined [] rest blank value found stand values replaced few =
    let same : [] ≡ stand = cc in
    ends_values defined found rest blank value ∙ ap (λ a. Ok (a, rest)) (sym (append-nil found) ∙ ap (λ s. found ++ s) same)
values_from_again defined (t ∷ piece) rest blank value found stand values replaced few = of (is_blank t.kind) refl (stands_for defined t) refl values replaced (values_from_again defined piece rest blank value)
  where
    of : (b : Bool) → is_blank t.kind ≡ b → (stands : Option (List Lexeme)) → stands_for defined t ≡ stands
        → list_all (λ t. is_value t.kind) (cond (not b) (t ∷ without_blanks piece) (without_blanks piece)) ≡ true → stand_for defined (cond (not b) (t ∷ without_blanks piece) (without_blanks piece)) ≡ Some stand
        → ValuesAgain defined piece rest → values_from defined found ((t ∷ piece) ++ rest) ≡ Ok (found ++ stand, rest)
    of true is stands standing values replaced again =
        ap (λ b. cond b (values_from defined found (piece ++ rest)) (cond (is_value t.kind) (added found t (piece ++ rest) (stands_for defined t) >>= (λ more. values_from defined more.0 (piece ++ rest))) (Ok (found, t ∷ (piece ++ rest))))) is
        ∙ again found stand values replaced few
    of false is None standing values replaced again = absurd (let clash : None ≡ Some stand = ap (λ s. both s (stand_for defined (without_blanks piece))) (sym standing) ∙ replaced in cc)
    of false is (Some one) standing values replaced again =
        let split : (is_value t.kind ≡ true) × (list_all (λ t. is_value t.kind) (without_blanks piece) ≡ true) = and_parts (is_value t.kind) (list_all (λ t. is_value t.kind) (without_blanks piece)) values in
        let parts : (more : List Lexeme) × (stand_for defined (without_blanks piece) ≡ Some more) × (stand ≡ one ++ more) =
        both_some one (stand_for defined (without_blanks piece)) stand (ap (λ s. both s (stand_for defined (without_blanks piece))) (sym standing) ∙ replaced) in
        values_value defined found t (piece ++ rest) is split.0
        ∙ ap (λ s. added found t (piece ++ rest) s >>= (λ a. values_from defined a.0 (piece ++ rest))) standing
        ∙ few_added defined found one parts.0 (piece ++ rest) rest t (subst (λ s. length found + length s ≤ 64) parts.2 few) (λ f small. again f parts.0 split.1 parts.1 small)
        ∙ ap (λ s. Ok (found ++ s, rest)) (sym parts.2)

least_again : (stand ts : List Lexeme) → stand ≢ [] → at_least_one stand ts ≡ Ok (stand, ts)
least_again [] ts some = absurd (some refl)
least_again (t ∷ stand) ts some = refl

from_none : (n : ℕ) → n ≤ 64 → 0 + n ≤ 64
from_none n few = omega (arith, few)

pub values_again : (defined : Defined) (piece stand rest : List Lexeme) → IsValues defined piece stand → first_is is_blank rest ≡ false → first_is is_value rest ≡ false → values_at defined (piece ++ rest) ≡ Ok (stand, rest)
unfolding values_at
values_again defined piece stand rest are blank value =
    turn_ok (values_from defined []) at_least_one (piece ++ rest) rest stand (values_from_again defined piece rest blank value [] stand are.values are.replaced (from_none (length stand) are.few))
    ∙ least_again stand rest are.some

values_at_past : (defined : Defined) (ts : List Lexeme) → values_at defined (past_blanks ts) ≡ values_at defined ts
unfolding values_at
values_at_past defined ts = ap (λ r. r >>= (λ found. at_least_one found.0 found.1)) (values_past defined [] ts)

-- ---- the end of a declaration

-- what stands where a declaration ends
pub record Ends (rest : List Lexeme) : Type 0 where
  pub blank : first_is is_blank rest ≡ false
  pub value : first_is is_value rest ≡ false
  pub important : first_is (is_mark 33) rest ≡ false

ends_kind : (inline : Bool) (kind : TokenKind) → (is_mark 59 kind || (not inline && is_mark 125 kind)) ≡ true → (is_blank kind ≡ false) × (is_value kind ≡ false) × (is_mark 33 kind ≡ false)
ends_kind inline (Mark n) is = (refl, values n inline is, other n inline is)
  where
    values : (n : ℕ) (inline : Bool) → (nat_eq n 59 || (not inline && nat_eq n 125)) ≡ true → (nat_eq n 44 || (nat_eq n 40 || nat_eq n 41)) ≡ false
    values n true is = grind (arith, nat_tests)
    values n false is = grind (arith, nat_tests)

    other : (n : ℕ) (inline : Bool) → (nat_eq n 59 || (not inline && nat_eq n 125)) ≡ true → nat_eq n 33 ≡ false
    other n true is = grind (arith, nat_tests)
    other n false is = grind (arith, nat_tests)
ends_kind true Space is = absurd (let clash : false ≡ true = is in cc)
ends_kind false Space is = absurd (let clash : false ≡ true = is in cc)
ends_kind true Comment is = absurd (let clash : false ≡ true = is in cc)
ends_kind false Comment is = absurd (let clash : false ≡ true = is in cc)
ends_kind true Name is = absurd (let clash : false ≡ true = is in cc)
ends_kind false Name is = absurd (let clash : false ≡ true = is in cc)
ends_kind true Hash is = absurd (let clash : false ≡ true = is in cc)
ends_kind false Hash is = absurd (let clash : false ≡ true = is in cc)
ends_kind true Variable is = absurd (let clash : false ≡ true = is in cc)
ends_kind false Variable is = absurd (let clash : false ≡ true = is in cc)
ends_kind true Number is = absurd (let clash : false ≡ true = is in cc)
ends_kind false Number is = absurd (let clash : false ≡ true = is in cc)

pub ends_of : (inline : Bool) (rest : List Lexeme) → is_end inline rest ≡ true → Ends rest
ends_of inline [] is = record { blank = refl; value = refl; important = refl }
ends_of inline (t ∷ ts) is =
    let parts : (is_blank t.kind ≡ false) × (is_value t.kind ≡ false) × (is_mark 33 t.kind ≡ false) = ends_kind inline t.kind is in
    record { blank = parts.0; value = parts.1; important = parts.2 }

-- ---- declarations

importance_none : (rest : List Lexeme) → first_is (is_mark 33) rest ≡ false → importance_at rest ≡ Ok (false, rest)
unfolding importance_at
importance_none [] none = refl
importance_none (t ∷ ts) none = ap (λ b. cond b (important_word_at ts) (Ok (false, t ∷ ts))) none

word_is : (word : Lexeme) → word.kind ≡ Name → word.bytes ≡ codes "important" → is_important word ≡ true
word_is word name spelled = ap (λ k. is_name_token k && bytes_eq word.bytes (codes "important")) name ∙ (bytes_eq-Decides word.bytes (codes "important")).1 spelled

word_again : (gap behind rest : List Lexeme) (word : Lexeme) → AreBlank gap → word.kind ≡ Name → word.bytes ≡ codes "important" → AreBlank behind → first_is is_blank rest ≡ false
    → important_word_at (gap ++ (word ∷ (behind ++ rest))) ≡ Ok (true, rest)
word_again gap behind rest word blank name spelled blanks none =
    ap (λ xs. token_at is_important xs >>= (λ found. Ok (true, past_blanks found.1))) (past_again gap (word ∷ (behind ++ rest)) blank (ap is_blank name))
    ∙ ap (λ b. cond b (Ok (word, behind ++ rest)) (expected (word ∷ (behind ++ rest))) >>= (λ found. Ok (true, past_blanks found.1))) (word_is word name spelled)
    ∙ ap (λ xs. Ok (true, xs)) (past_again behind rest blanks none)

importance_again : (ending rest : List Lexeme) (b : Bool) → IsImportance ending b → Ends rest → importance_at (ending ++ rest) ≡ Ok (b, rest)
unfolding importance_at
importance_again ending rest false is ends = ap (λ xs. importance_at (xs ++ rest)) is ∙ importance_none rest ends.important
importance_again ending rest true is ends =
    let mark : Lexeme = is.0 in
    let word : Lexeme = is.1 in
    ap importance_at (ap (λ xs. xs ++ rest) is.4 ∙ ap (λ xs. mark ∷ xs) (append_assoc is.2 (word ∷ is.3) rest))
    ∙ ap (λ b. cond b (important_word_at (is.2 ++ (word ∷ (is.3 ++ rest)))) (Ok (false, mark ∷ (is.2 ++ (word ∷ (is.3 ++ rest)))))) (is_kind 33 mark.kind is.5)
    ∙ word_again is.2 is.3 rest word is.6 is.7 is.8 is.9 ends.blank

-- nothing of a declaration's end is a value
ending_ends : (ending rest : List Lexeme) (b : Bool) → IsImportance ending b → Ends rest → (first_is is_blank (ending ++ rest) ≡ false) × (first_is is_value (ending ++ rest) ≡ false)
ending_ends ending rest false is ends = (ap (λ xs. first_is is_blank (xs ++ rest)) is ∙ ends.blank, ap (λ xs. first_is is_value (xs ++ rest)) is ∙ ends.value)
ending_ends ending rest true is ends = (ap (λ xs. first_is is_blank (xs ++ rest)) is.4 ∙ ap is_blank is.5, ap (λ xs. first_is is_value (xs ++ rest)) is.4 ∙ ap is_value is.5)

known : (name : List ℕ) (stand : List Lexeme) (pairs : List Pair) (what : Option Named) → valued what stand ≡ Ok pairs → is_some what ≡ true
known name stand pairs None is = absurd (let clash : valued None stand ≡ Ok pairs = is in cc)
known name stand pairs (Some what) is = refl

pub declaration_again : (inline : Bool) (defined : Defined) (piece rest : List Lexeme) (declarations : List DeclarationValue) → IsDeclaration defined piece declarations → is_end inline rest ≡ true
    → declaration_at inline defined (piece ++ rest) ≡ Ok (declarations, rest)
unfolding declaration_at
declaration_again inline defined piece rest declarations is end =
    let ends : Ends rest = ends_of inline rest end in
    let ending : (first_is is_blank (is.ending ++ rest) ≡ false) × (first_is is_value (is.ending ++ rest) ≡ false) = ending_ends is.ending rest is.important is.importance ends in
    let behind : List Lexeme = is.values ++ (is.ending ++ rest) in
    let here : List Lexeme = past_blanks behind in
    let ts : List Lexeme = is.gap ++ (is.colon ∷ behind) in
    let s : Spelled = spelled is.name (place_of here) is.stand is.important in
    let split : piece ++ rest ≡ is.name ∷ ts =
    ap (λ xs. xs ++ rest) is.parts ∙ ap (λ xs. is.name ∷ xs) (append_assoc is.gap (is.colon ∷ (is.values ++ is.ending)) rest ∙ ap (λ xs. is.gap ++ (is.colon ∷ xs)) (append_assoc is.values is.ending rest)) in
    ap (declaration_at inline defined) split
    ∙ ap (λ k. cond (is_name_token k) (cond (is_known is.name.bytes) (behind_name inline defined is.name ts) (met UnknownProperty (is.name ∷ ts))) (expected (is.name ∷ ts))) is.is_name
    ∙ ap (λ b. cond b (behind_name inline defined is.name ts) (met UnknownProperty (is.name ∷ ts))) (known is.name.bytes is.stand is.pairs (meaning_of is.name.bytes) is.valued)
    ∙ turn_ok (spelled_at defined is.name) (ended inline) ts rest s
    (spelled_ok defined is.name is.colon ts behind here is.stand (is.ending ++ rest) rest (place_of here) is.important
    (mark_again 58 is.gap behind is.colon is.blank is.is_colon) refl refl
    (values_at_past defined behind ∙ values_again defined is.values is.stand (is.ending ++ rest) is.are_values ending.0 ending.1)
    (importance_again is.ending rest is.important is.importance ends))
    ∙ ap (λ b. cond b (told s (declaration is.name.bytes is.stand) rest) (expected rest)) end
    ∙ ap (λ v. told s v rest) is.valued
    ∙ ap (λ d. Ok (d, rest)) (sym is.stands)
