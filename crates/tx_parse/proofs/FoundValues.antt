-- The values and the declarations that are read are in the grammar.
use Rattle.std.proofs.Common.{◌≡◌, ◌≢◌, ℕ, ◌+◌, ◌≤◌, Bool, true, false, cond, not, ◌&&◌, List, [], ◌∷◌, ◌++◌, length, nat_lt, Option, Some, None, Result, Ok, Err, bytes_eq, refl, ap, sym, ◌∙◌, subst, arith, append_assoc, length-append, codes}
use Rattle.std.specs.List.{list_all}
use Rattle.std.proofs.lemmas.List.{append-nil}
use Rattle.std.proofs.lemmas.List.Elements.{filter-append}
use Rattle.std.proofs.lemmas.Slice.Eq.{bytes_eq-Decides}
use Rattle.tx_read.specs.Reading.{◌>>=◌}
use Rattle.tx_lex.specs.Lexemes.{Lexeme, is_blank, is_name_token, is_mark}
use Rattle.tx_lex.specs.declared.token.TokenKind.TheVariants.{Mark}
use Rattle.tx_lex.proofs.lemmas.TokenKinds.{mark-kind, name-kind}
use Rattle.tx_select.specs.Grammar.{AreBlank}
use Rattle.tx_value.specs.Declarations.{Pair, declaration}
use Rattle.tx_value.specs.Names.{is_known}
use Rattle.tx_value.specs.declared.fault.ValueFault.{ValueFault}
use Rattle.tx_parse.specs.Grammar.{IsValues, IsImportance, IsDeclaration}
use Rattle.tx_lex.specs.Blanks.{past_blanks, without_blanks}
use Rattle.tx_parse.specs.SheetReading.{Read, met, expected, token_at, mark_at, added, values_from, at_least_one, values_at, place_of, first_value_at, is_important, important_word_at, importance_at, Spelled, spelled, spelled_at, is_end, told, ended, declaration_at}
use Rattle.tx_parse.specs.Values.{DeclarationValue, important_pairs}
use Rattle.tx_parse.specs.Variables.{Defined, is_value, stands_for, both, stand_for}
use Rattle.tx_parse.specs.declared.fault.SheetKind.TheVariants.{Expected, UndefinedVariable, ValueTooLong, UnknownProperty, BadValue}
use Rattle.tx_parse.specs.declared.fault.Wrong.{Wrong}
use Rattle.tx_read.proofs.lemmas.Cases.{Gave, given, refused, both as parts_of}
use Rattle.std.proofs.lemmas.Bool.{and_parts, and_from}
use Rattle.tx_parse.proofs.Local.{wrong_of, behind_name}

-- tokens of which the first ones are so
abbrev pub Takes : (List Lexeme → Type 0) → List Lexeme → List Lexeme → Type 0
Takes Is ts rest = (a : List Lexeme) × (ts ≡ a ++ rest) × Is a

-- ---- spaces and comments

pub past_found : (ts : List Lexeme) → Takes AreBlank ts (past_blanks ts)
past_found [] = ([], refl, refl)
past_found (t ∷ ts) = of (is_blank t.kind) refl (past_found ts)
  where
    of : (blank : Bool) → is_blank t.kind ≡ blank → Takes AreBlank ts (past_blanks ts) → Takes AreBlank (t ∷ ts) (cond blank (past_blanks ts) (t ∷ ts))
    of true is more = (t ∷ more.0, ap (λ xs. t ∷ xs) more.1, and_from (is_blank t.kind) (list_all (λ t. is_blank t.kind) more.0) is more.2)
    of false is more = ([], refl, refl)

-- what is written among spaces and comments
pub written_blank : (blank ts : List Lexeme) → AreBlank blank → without_blanks (blank ++ ts) ≡ without_blanks ts
written_blank [] ts all = refl
written_blank (t ∷ blank) ts all = of (is_blank t.kind) all (written_blank blank ts)
  where
    of : (b : Bool) → (b && list_all (λ t. is_blank t.kind) blank) ≡ true → (AreBlank blank → without_blanks (blank ++ ts) ≡ without_blanks ts) → cond (not b) (t ∷ without_blanks (blank ++ ts)) (without_blanks (blank ++ ts)) ≡ without_blanks ts
    of true all more = more all
    of false all more = absurd (let clash : false ≡ true = all in cc)

-- ---- single tokens

pub token_found : (test : Lexeme → Bool) (ts rest : List Lexeme) (t : Lexeme) → token_at test ts ≡ Ok (t, rest) → (ts ≡ t ∷ rest) × (test t ≡ true)
token_found test [] rest t is = absurd (refused (wrong_of Expected, []) t rest is)
token_found test (x ∷ ts) rest t is = of (test x) refl is
  where
    of : (b : Bool) → test x ≡ b → cond b (Ok (x, ts)) (expected (x ∷ ts)) ≡ Ok (t, rest) → (x ∷ ts ≡ t ∷ rest) × (test t ≡ true)
    of true yes_it is =
        let same : (x ≡ t) × (ts ≡ rest) = given x t ts rest is in
        (ap (λ y. y ∷ ts) same.0 ∙ ap (λ ys. t ∷ ys) same.1, ap test (sym same.0) ∙ yes_it)
    of false no_it is = absurd (refused (wrong_of Expected, x ∷ ts) t rest is)

pub record MarkFound (byte : ℕ) (ts : List Lexeme) (t : Lexeme) (rest : List Lexeme) : Type 0 where
  pub gap : List Lexeme
  pub parts : ts ≡ gap ++ (t ∷ rest)
  pub blank : AreBlank gap
  pub is_mark : t.kind ≡ Mark byte

pub mark_found : (byte : ℕ) (ts rest : List Lexeme) (t : Lexeme) → mark_at byte ts ≡ Ok (t, rest) → MarkFound byte ts t rest
unfolding mark_at
mark_found byte ts rest t is =
    let past : Takes AreBlank ts (past_blanks ts) = past_found ts in
    let token : (past_blanks ts ≡ t ∷ rest) × (is_mark byte t.kind ≡ true) = token_found (λ t. is_mark byte t.kind) (past_blanks ts) rest t is in
    record { gap = past.0; parts = past.1 ∙ ap (λ xs. past.0 ++ xs) token.0; blank = past.2; is_mark = mark-kind byte t.kind token.1 }

-- ---- values

pub record ValuesFound (defined : Defined) (found ts all rest : List Lexeme) : Type 0 where
  pub piece : List Lexeme
  pub parts : ts ≡ piece ++ rest
  pub values : list_all (λ t. is_value t.kind) (without_blanks piece) ≡ true
  pub stand : List Lexeme
  pub replaced : stand_for defined (without_blanks piece) ≡ Some stand
  pub together : all ≡ found ++ stand
  pub few : length all ≤ 64

abbrev values_next : Defined → Lexeme → List Lexeme → List Lexeme → Option (List Lexeme) → Bool → Bool → Read (List Lexeme)
values_next defined t ts found stand blank value = cond blank (values_from defined found ts) (cond value (added found t ts stand >>= (λ more. values_from defined more.0 ts)) (Ok (found, t ∷ ts)))

abbrev FoundBehind : Defined → List Lexeme → List Lexeme → List Lexeme → Type 0
FoundBehind defined ts all rest = (found : List Lexeme) → length found ≤ 64 → values_from defined found ts ≡ Ok (all, rest) → ValuesFound defined found ts all rest

nothing_more : (defined : Defined) (found ts all rest : List Lexeme) → length found ≤ 64 → Gave {F = Wrong} (Ok (found, ts)) all rest → ValuesFound defined found ts all rest
nothing_more defined found ts all rest few is =
    let same : (found ≡ all) × (ts ≡ rest) = given found all ts rest is in
    record { piece = []; parts = same.1; values = refl; stand = []; replaced = refl; together = sym same.0 ∙ sym (append-nil found); few = subst (λ f. length f ≤ 64) same.0 few }

behind_blank : (defined : Defined) (found ts all rest : List Lexeme) (t : Lexeme) → is_blank t.kind ≡ true → ValuesFound defined found ts all rest → ValuesFound defined found (t ∷ ts) all rest
behind_blank defined found ts all rest t blank more =
    let same : without_blanks (t ∷ more.piece) ≡ without_blanks more.piece = ap (λ b. cond (not b) (t ∷ without_blanks more.piece) (without_blanks more.piece)) blank in
    record {
      piece = t ∷ more.piece;
      parts = ap (λ xs. t ∷ xs) more.parts;
      values = ap (list_all (λ t. is_value t.kind)) same ∙ more.values;
      stand = more.stand;
      replaced = ap (stand_for defined) same ∙ more.replaced;
      together = more.together;
      few = more.few;
    }

behind_value : (defined : Defined) (found ts all rest stand : List Lexeme) (t : Lexeme) → is_blank t.kind ≡ false → is_value t.kind ≡ true → stands_for defined t ≡ Some stand
    → ValuesFound defined (found ++ stand) ts all rest → ValuesFound defined found (t ∷ ts) all rest
behind_value defined found ts all rest stand t blank value stands more =
    let same : without_blanks (t ∷ more.piece) ≡ t ∷ without_blanks more.piece = ap (λ b. cond (not b) (t ∷ without_blanks more.piece) (without_blanks more.piece)) blank in
    record {
      piece = t ∷ more.piece;
      parts = ap (λ xs. t ∷ xs) more.parts;
      values = ap (list_all (λ t. is_value t.kind)) same ∙ and_from (is_value t.kind) (list_all (λ t. is_value t.kind) (without_blanks more.piece)) value more.values;
      stand = stand ++ more.stand;
      replaced = ap (stand_for defined) same ∙ ap (λ s. both s (stand_for defined (without_blanks more.piece))) stands ∙ ap (both (Some stand)) more.replaced;
      together = more.together ∙ append_assoc found stand more.stand;
      few = more.few;
    }

values_from_found : (defined : Defined) (found ts all rest : List Lexeme) → length found ≤ 64 → values_from defined found ts ≡ Ok (all, rest) → ValuesFound defined found ts all rest
unfolding values_from
values_from_found defined found [] all rest few is = nothing_more defined found [] all rest few is
values_from_found defined found (t ∷ ts) all rest few is =
    of (is_blank t.kind) refl (is_value t.kind) refl (stands_for defined t) refl is (λ found few is. values_from_found defined found ts all rest few is)
  where
    many : (stand : List Lexeme) (b : Bool) → nat_lt 64 (length found + length stand) ≡ b → is_blank t.kind ≡ false → is_value t.kind ≡ true → stands_for defined t ≡ Some stand
        → (cond b (met ValueTooLong (t ∷ ts)) (Ok (found ++ stand, ts)) >>= (λ more. values_from defined more.0 ts)) ≡ Ok (all, rest) → FoundBehind defined ts all rest → ValuesFound defined found (t ∷ ts) all rest
    many stand true long blank value stands is more = absurd (refused (wrong_of ValueTooLong, t ∷ ts) all rest is)
    many stand false long blank value stands is more =
        let sized : length (found ++ stand) ≡ length found + length stand = length-append found stand in
        behind_value defined found ts all rest stand t blank value stands (more (found ++ stand) (grind (arith, sized, long)) is)

    of : (blank : Bool) → is_blank t.kind ≡ blank → (value : Bool) → is_value t.kind ≡ value → (stand : Option (List Lexeme)) → stands_for defined t ≡ stand
        → values_next defined t ts found stand blank value ≡ Ok (all, rest) → FoundBehind defined ts all rest → ValuesFound defined found (t ∷ ts) all rest
    of true blank value is_value stand stands is more = behind_blank defined found ts all rest t blank (more found few is)
    of false blank true value None stands is more = absurd (refused (wrong_of UndefinedVariable, t ∷ ts) all rest is)
    of false blank true value (Some stand) stands is more = many stand (nat_lt 64 (length found + length stand)) refl blank value stands is more
    of false blank false value stand stands is more = nothing_more defined found (t ∷ ts) all rest few is

least_found : (found ts all rest : List Lexeme) → at_least_one found ts ≡ Ok (all, rest) → (found ≡ all) × (ts ≡ rest) × (all ≢ [])
least_found [] ts all rest is = absurd (refused (wrong_of Expected, ts) all rest is)
least_found (t ∷ found) ts all rest is =
    let same : (t ∷ found ≡ all) × (ts ≡ rest) = given (t ∷ found) all ts rest is in
    (same.0, same.1, λ none. let clash : t ∷ found ≡ [] = same.0 ∙ none in cc)

pub values_found : (defined : Defined) (ts all rest : List Lexeme) → values_at defined ts ≡ Ok (all, rest) → Takes (λ a. IsValues defined a all) ts rest
unfolding values_at
values_found defined ts all rest is =
    let first : (f : List Lexeme × List Lexeme) × (values_from defined [] ts ≡ Ok f) × (at_least_one f.0 f.1 ≡ Ok (all, rest)) = parts_of (values_from defined [] ts) (λ f. at_least_one f.0 f.1) all rest is in
    let least : (first.0.0 ≡ all) × (first.0.1 ≡ rest) × (all ≢ []) = least_found first.0.0 first.0.1 all rest first.2 in
    let found : ValuesFound defined [] ts all rest = values_from_found defined [] ts all rest (omega arith) (first.1 ∙ ap (λ a. Ok (a, first.0.1)) least.0 ∙ ap (λ r. Ok (all, r)) least.1) in
    (found.piece, found.parts, record { values = found.values; replaced = found.replaced ∙ ap Some (sym found.together); some = least.2; few = found.few })

pub values_blank : (defined : Defined) (blank piece stand : List Lexeme) → AreBlank blank → IsValues defined piece stand → IsValues defined (blank ++ piece) stand
values_blank defined blank piece stand all values = record {
  values = ap (list_all (λ t. is_value t.kind)) (written_blank blank piece all) ∙ values.values;
  replaced = ap (stand_for defined) (written_blank blank piece all) ∙ values.replaced;
  some = values.some;
  few = values.few;
}

-- what is written before spaces and comments
written_none : (blank : List Lexeme) → AreBlank blank → without_blanks blank ≡ []
written_none blank all = ap without_blanks (sym (append-nil blank)) ∙ written_blank blank [] all

pub blank_behind : (defined : Defined) (piece blank stand : List Lexeme) → AreBlank blank → IsValues defined piece stand → IsValues defined (piece ++ blank) stand
blank_behind defined piece blank stand all values =
    let same : without_blanks (piece ++ blank) ≡ without_blanks piece = filter-append (λ t. not (is_blank t.kind)) piece blank ∙ ap (λ xs. without_blanks piece ++ xs) (written_none blank all) ∙ append-nil (without_blanks piece) in
    record {
      values = ap (list_all (λ t. is_value t.kind)) same ∙ values.values;
      replaced = ap (stand_for defined) same ∙ values.replaced;
      some = values.some;
      few = values.few;
    }

-- ---- declarations

important_found : (mark : Lexeme) (ts rest : List Lexeme) (b : Bool) → mark.kind ≡ Mark 33 → important_word_at ts ≡ Ok (b, rest) → Takes (λ a. IsImportance a b) (mark ∷ ts) rest
important_found mark ts rest b is_mark is =
    let first : (w : Lexeme × List Lexeme) × (token_at is_important (past_blanks ts) ≡ Ok w) × (Ok (true, past_blanks w.1) ≡ Ok (b, rest)) =
    parts_of (token_at is_important (past_blanks ts)) (λ w. Ok (true, past_blanks w.1)) b rest is in
    let word : (past_blanks ts ≡ first.0.0 ∷ first.0.1) × (is_important first.0.0 ≡ true) = token_found is_important (past_blanks ts) first.0.1 first.0.0 first.1 in
    let named : (is_name_token first.0.0.kind ≡ true) × (bytes_eq first.0.0.bytes (codes "important") ≡ true) = and_parts (is_name_token first.0.0.kind) (bytes_eq first.0.0.bytes (codes "important")) word.1 in
    let gap : Takes AreBlank ts (past_blanks ts) = past_found ts in
    let behind : Takes AreBlank first.0.1 (past_blanks first.0.1) = past_found first.0.1 in
    let same : (true ≡ b) × (past_blanks first.0.1 ≡ rest) = given true b (past_blanks first.0.1) rest first.2 in
    subst (λ c. Takes (λ a. IsImportance a c) (mark ∷ ts) rest) same.0 (
      mark ∷ (gap.0 ++ (first.0.0 ∷ behind.0)),
      ap (λ xs. mark ∷ xs) (gap.1 ∙ ap (λ xs. gap.0 ++ xs) (word.0 ∙ ap (λ xs. first.0.0 ∷ xs) (behind.1 ∙ ap (λ r. behind.0 ++ r) same.1)) ∙ sym (append_assoc gap.0 (first.0.0 ∷ behind.0) rest)),
      (mark, first.0.0, gap.0, behind.0, refl, is_mark, gap.2, name-kind first.0.0.kind named.0, (bytes_eq-Decides first.0.0.bytes (codes "important")).0 named.1, behind.2),
    )

pub importance_found : (ts rest : List Lexeme) (b : Bool) → importance_at ts ≡ Ok (b, rest) → Takes (λ a. IsImportance a b) ts rest
unfolding importance_at
importance_found [] rest b is =
    let same : (false ≡ b) × ([] ≡ rest) = given false b [] rest is in
    subst (λ c. Takes (λ a. IsImportance a c) [] rest) same.0 ([], same.1, refl)
importance_found (t ∷ ts) rest b is = of (is_mark 33 t.kind) refl is
  where
    of : (mark : Bool) → is_mark 33 t.kind ≡ mark → cond mark (important_word_at ts) (Ok (false, t ∷ ts)) ≡ Ok (b, rest) → Takes (λ a. IsImportance a b) (t ∷ ts) rest
    of true marked is = important_found t ts rest b (mark-kind 33 t.kind marked) is
    of false marked is =
        let same : (false ≡ b) × (t ∷ ts ≡ rest) = given false b (t ∷ ts) rest is in
        subst (λ c. Takes (λ a. IsImportance a c) (t ∷ ts) rest) same.0 ([], same.1, refl)

-- what stands between the name of a declaration and its end
pub record SpelledFound (defined : Defined) (name : Lexeme) (ts : List Lexeme) (s : Spelled) (rest : List Lexeme) : Type 0 where
  pub gap : List Lexeme
  pub colon : Lexeme
  pub values : List Lexeme
  pub ending : List Lexeme
  pub parts : ts ≡ gap ++ (colon ∷ (values ++ (ending ++ rest)))
  pub blank : AreBlank gap
  pub is_colon : colon.kind ≡ Mark 58
  pub are_values : IsValues defined values s.stand
  pub importance : IsImportance ending s.important
  pub named : s.name ≡ name

abbrev then_importance : Lexeme → ℕ → List Lexeme → Bool × List Lexeme → Read Spelled
then_importance name first stand found = Ok (spelled name first stand found.0, found.1)

abbrev then_values : Lexeme → ℕ → List Lexeme × List Lexeme → Read Spelled
then_values name first found = importance_at found.1 >>= then_importance name first found.0

abbrev then_first : Defined → Lexeme → ℕ × List Lexeme → Read Spelled
then_first defined name found = values_at defined found.1 >>= then_values name found.0

pub spelled_found : (defined : Defined) (name : Lexeme) (ts rest : List Lexeme) (s : Spelled) → spelled_at defined name ts ≡ Ok (s, rest) → SpelledFound defined name ts s rest
unfolding spelled_at first_value_at
spelled_found defined name ts rest s is =
    let one : (c : Lexeme × List Lexeme) × (mark_at 58 ts ≡ Ok c) × (then_first defined name (place_of (past_blanks c.1), past_blanks c.1) ≡ Ok (s, rest)) =
    parts_of (mark_at 58 ts) (λ c. then_first defined name (place_of (past_blanks c.1), past_blanks c.1)) s rest is in
    let here : List Lexeme = past_blanks one.0.1 in
    let two : (v : List Lexeme × List Lexeme) × (values_at defined here ≡ Ok v) × (then_values name (place_of here) v ≡ Ok (s, rest)) = parts_of (values_at defined here) (then_values name (place_of here)) s rest one.2 in
    let three : (i : Bool × List Lexeme) × (importance_at two.0.1 ≡ Ok i) × (then_importance name (place_of here) two.0.0 i ≡ Ok (s, rest)) =
    parts_of (importance_at two.0.1) (then_importance name (place_of here) two.0.0) s rest two.2 in
    let same : (spelled name (place_of here) two.0.0 three.0.0 ≡ s) × (three.0.1 ≡ rest) = given (spelled name (place_of here) two.0.0 three.0.0) s three.0.1 rest three.2 in
    let mark : MarkFound 58 ts one.0.0 one.0.1 = mark_found 58 ts one.0.1 one.0.0 one.1 in
    let blank : Takes AreBlank one.0.1 (past_blanks one.0.1) = past_found one.0.1 in
    let values : Takes (λ a. IsValues defined a two.0.0) here two.0.1 = values_found defined here two.0.0 two.0.1 two.1 in
    let ending : Takes (λ a. IsImportance a three.0.0) two.0.1 three.0.1 = importance_found two.0.1 three.0.1 three.0.0 three.1 in
    record {
      gap = mark.gap;
      colon = one.0.0;
      values = blank.0 ++ values.0;
      ending = ending.0;
      parts = mark.parts ∙ ap (λ xs. mark.gap ++ (one.0.0 ∷ xs)) (blank.1 ∙ ap (λ xs. blank.0 ++ xs) (values.1 ∙ ap (λ xs. values.0 ++ xs) (ending.1 ∙ ap (λ r. ending.0 ++ r) same.1)) ∙ sym (append_assoc blank.0 values.0 (ending.0 ++ rest)));
      blank = mark.blank;
      is_colon = mark.is_mark;
      are_values = subst (λ (x : Spelled). IsValues defined (blank.0 ++ values.0) x.stand) same.0 (values_blank defined blank.0 values.0 two.0.0 blank.2 values.2);
      importance = subst (λ (x : Spelled). IsImportance ending.0 x.important) same.0 ending.2;
      named = sym (ap (λ (x : Spelled). x.name) same.0);
    }

pub record EndedFound (inline : Bool) (s : Spelled) (ts : List Lexeme) (declarations : List DeclarationValue) (rest : List Lexeme) : Type 0 where
  pub pairs : List Pair
  pub valued : declaration s.name.bytes s.stand ≡ Ok pairs
  pub stands : declarations ≡ important_pairs s.important pairs
  pub ends : is_end inline rest ≡ true
  pub same : ts ≡ rest

ended_found : (inline : Bool) (s : Spelled) (ts rest : List Lexeme) (declarations : List DeclarationValue) → ended inline s ts ≡ Ok (declarations, rest) → EndedFound inline s ts declarations rest
ended_found inline s ts rest declarations is = of (is_end inline ts) refl (declaration s.name.bytes s.stand) refl is
  where
    of : (b : Bool) → is_end inline ts ≡ b → (valued : Result (List Pair) ValueFault) → declaration s.name.bytes s.stand ≡ valued → cond b (told s valued ts) (expected ts) ≡ Ok (declarations, rest) → EndedFound inline s ts declarations rest
    of true ends (Ok pairs) valued is =
        let same : (important_pairs s.important pairs ≡ declarations) × (ts ≡ rest) = given (important_pairs s.important pairs) declarations ts rest is in
        record { pairs = pairs; valued = valued; stands = sym same.0; ends = ap (is_end inline) (sym same.1) ∙ ends; same = same.1 }
    of true ends (Err fault) valued is = absurd (refused (record { kind = BadValue; place = Some s.first }, ts) declarations rest is)
    of false ends valued was is = absurd (refused (wrong_of Expected, ts) declarations rest is)

-- a declaration, and then its end
pub record DeclarationFound (inline : Bool) (defined : Defined) (ts : List Lexeme) (declarations : List DeclarationValue) (rest : List Lexeme) : Type 0 where
  pub piece : List Lexeme
  pub parts : ts ≡ piece ++ rest
  pub grammar : IsDeclaration defined piece declarations
  pub ends : is_end inline rest ≡ true

behind_found : (inline : Bool) (defined : Defined) (name : Lexeme) (ts rest : List Lexeme) (declarations : List DeclarationValue) → is_name_token name.kind ≡ true → behind_name inline defined name ts ≡ Ok (declarations, rest)
    → DeclarationFound inline defined (name ∷ ts) declarations rest
behind_found inline defined name ts rest declarations is_name is =
    let one : (s : Spelled × List Lexeme) × (spelled_at defined name ts ≡ Ok s) × (ended inline s.0 s.1 ≡ Ok (declarations, rest)) = parts_of (spelled_at defined name ts) (λ s. ended inline s.0 s.1) declarations rest is in
    let found : SpelledFound defined name ts one.0.0 one.0.1 = spelled_found defined name ts one.0.1 one.0.0 one.1 in
    let end : EndedFound inline one.0.0 one.0.1 declarations rest = ended_found inline one.0.0 one.0.1 rest declarations one.2 in
    record {
      piece = name ∷ (found.gap ++ (found.colon ∷ (found.values ++ found.ending)));
      parts = ap (λ xs. name ∷ xs) (found.parts ∙ ap (λ r. found.gap ++ (found.colon ∷ (found.values ++ (found.ending ++ r)))) end.same
          ∙ ap (λ xs. found.gap ++ (found.colon ∷ xs)) (sym (append_assoc found.values found.ending rest))
          ∙ sym (append_assoc found.gap (found.colon ∷ (found.values ++ found.ending)) rest));
      grammar = record {
        name = name;
        gap = found.gap;
        colon = found.colon;
        values = found.values;
        ending = found.ending;
        parts = refl;
        is_name = name-kind name.kind is_name;
        blank = found.blank;
        is_colon = found.is_colon;
        stand = one.0.0.stand;
        are_values = found.are_values;
        important = one.0.0.important;
        importance = found.importance;
        pairs = end.pairs;
        valued = ap (λ (t : Lexeme). declaration t.bytes one.0.0.stand) (sym found.named) ∙ end.valued;
        stands = end.stands;
      };
      ends = end.ends;
    }

pub declaration_found : (inline : Bool) (defined : Defined) (ts rest : List Lexeme) (declarations : List DeclarationValue) → declaration_at inline defined ts ≡ Ok (declarations, rest) → DeclarationFound inline defined ts declarations rest
unfolding declaration_at
declaration_found inline defined [] rest declarations is = absurd (refused (wrong_of Expected, []) declarations rest is)
declaration_found inline defined (t ∷ ts) rest declarations is = of (is_name_token t.kind) refl (is_known t.bytes) is
  where
    of : (name : Bool) → is_name_token t.kind ≡ name → (known : Bool) → cond name (cond known (behind_name inline defined t ts) (met UnknownProperty (t ∷ ts))) (expected (t ∷ ts)) ≡ Ok (declarations, rest)
        → DeclarationFound inline defined (t ∷ ts) declarations rest
    of true name true is = behind_found inline defined t ts rest declarations name is
    of true name false is = absurd (refused (wrong_of UnknownProperty, t ∷ ts) declarations rest is)
    of false name known is = absurd (refused (wrong_of Expected, t ∷ ts) declarations rest is)
