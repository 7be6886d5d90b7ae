-- The parts that are read are parts of the grammar.
use Rattle.std.proofs.Common.{◌≡◌, ℕ, ◌+◌, ◌<◌, Bool, true, false, cond, ◌&&◌, List, [], ◌∷◌, ◌++◌, length, drop, Option, Some, None, Ok, bytes_eq, refl, ap, sym, ◌∙◌, subst, arith, length-append}
use Rattle.std.specs.List.{find}
use Rattle.std.proofs.lemmas.Slice.Eq.{bytes_eq-Decides}
use Rattle.tx_lex.specs.declared.token.TokenKind.TheVariants.{Hash, Mark}
use Rattle.tx_text.specs.Name.{is_name}
use Rattle.tx_read.specs.Reading.{Shrinks}
use Rattle.tx_lex.specs.Lexemes.{Lexeme, is_name_token, is_hash, is_mark, first_is}
use Rattle.tx_select.specs.Lexemes.{begins_part}
use Rattle.tx_select.specs.Pseudo.{pseudo_name, pseudo_of}
use Rattle.tx_select.specs.Grammar.{IsPart}
use Rattle.tx_select.specs.SelectorReading.{id_at, class_at, known_pseudo, pseudo_at, part_at, expected}
use Rattle.tx_select.specs.declared.value.Part.{Part}
use Rattle.tx_select.specs.declared.value.Part.TheVariants.{Id, Class, Pseudo}
use Rattle.tx_select.specs.declared.value.PseudoName.{PseudoName}
use Rattle.tx_select.specs.declared.lexemes.TheConstants.{PSEUDO_NAMES}
use Rattle.tx_select.specs.declared.fault.SelectKind.TheVariants.{Expected, UnknownPseudo}
use Rattle.tx_lex.proofs.lemmas.TokenKinds.{mark-kind, name-kind, hash-kind}
use Rattle.tx_read.proofs.lemmas.Cases.{Gave, given, refused}

-- tokens of which the first ones are so
abbrev pub Takes : (List Lexeme → Type 0) → List Lexeme → List Lexeme → Type 0
Takes Is ts rest = (a : List Lexeme) × (ts ≡ a ++ rest) × Is a

-- ---- names of pseudo-classes

find-passes : (p : PseudoName → Bool) (pseudos : List PseudoName) (pseudo : PseudoName) → find p pseudos ≡ Some pseudo → p pseudo ≡ true
find-passes p [] pseudo found = absurd (let clash : None ≡ Some pseudo = found in cc)
find-passes p (one ∷ pseudos) pseudo found = of (p one) refl found (find-passes p pseudos pseudo)
  where
    of : (test : Bool) → p one ≡ test → cond test (Some one) (find p pseudos) ≡ Some pseudo → (find p pseudos ≡ Some pseudo → p pseudo ≡ true) → p pseudo ≡ true
    of true is found next =
        let same : one ≡ pseudo = cc in
        ap p (sym same) ∙ is
    of false is found next = next found

pub pseudo-spelled : (name : List ℕ) (pseudo : PseudoName) → pseudo_of name ≡ Some pseudo → name ≡ pseudo_name pseudo
unfolding pseudo_of
pseudo-spelled name pseudo found =
    sym ((bytes_eq-Decides (pseudo_name pseudo) name).0 (find-passes (λ p. bytes_eq (pseudo_name p) name) PSEUDO_NAMES pseudo found))

-- ---- one part

id-found : (t : Lexeme) (ts rest : List Lexeme) (part : Part) (named : Bool) → is_name (drop 1 t.bytes) ≡ named → t.kind ≡ Hash
    → Gave (cond named (Ok (Id (drop 1 t.bytes), ts)) (expected (t ∷ ts))) part rest → Takes (λ a. IsPart a part) (t ∷ ts) rest
id-found t ts rest part true named kind is =
    let parts : (Id (drop 1 t.bytes) ≡ part) × (ts ≡ rest) = given (Id (drop 1 t.bytes)) part ts rest is in
    (t ∷ [], ap (λ xs. t ∷ xs) parts.1, subst (IsPart (t ∷ [])) parts.0 (kind, refl, named))
id-found t ts rest part false named kind is = absurd (refused (Expected, t ∷ ts) part rest is)

class-found : (m : Lexeme) (ts rest : List Lexeme) (part : Part) → m.kind ≡ Mark 46 → Gave (class_at ts) part rest → Takes (λ a. IsPart a part) (m ∷ ts) rest
class-found m [] rest part kind is = absurd (refused (Expected, []) part rest is)
class-found m (t ∷ ts) rest part kind is = of (is_name_token t.kind) refl (is_name t.bytes) refl is
  where
    of : (a : Bool) → is_name_token t.kind ≡ a → (b : Bool) → is_name t.bytes ≡ b → Gave (cond (a && b) (Ok (Class t.bytes, ts)) (expected (t ∷ ts))) part rest
        → Takes (λ a. IsPart a part) (m ∷ t ∷ ts) rest
    of true token true named is =
        let parts : (Class t.bytes ≡ part) × (ts ≡ rest) = given (Class t.bytes) part ts rest is in
        (m ∷ t ∷ [], ap (λ xs. m ∷ t ∷ xs) parts.1, subst (IsPart (m ∷ t ∷ [])) parts.0 (kind, name-kind t.kind token, refl, named))
    of true token false named is = absurd (refused (Expected, t ∷ ts) part rest is)
    of false token b named is = absurd (refused (Expected, t ∷ ts) part rest is)

pseudo-found : (m : Lexeme) (ts rest : List Lexeme) (part : Part) → m.kind ≡ Mark 58 → Gave (pseudo_at ts) part rest → Takes (λ a. IsPart a part) (m ∷ ts) rest
pseudo-found m [] rest part kind is = absurd (refused (Expected, []) part rest is)
pseudo-found m (t ∷ ts) rest part kind is = of (is_name_token t.kind) refl (pseudo_of t.bytes) refl is
  where
    of : (a : Bool) → is_name_token t.kind ≡ a → (found : Option PseudoName) → pseudo_of t.bytes ≡ found → Gave (cond a (known_pseudo t ts found) (expected (t ∷ ts))) part rest
        → Takes (λ a. IsPart a part) (m ∷ t ∷ ts) rest
    of true token (Some pseudo) found is =
        let parts : (Pseudo pseudo ≡ part) × (ts ≡ rest) = given (Pseudo pseudo) part ts rest is in
        (m ∷ t ∷ [], ap (λ xs. m ∷ t ∷ xs) parts.1, subst (IsPart (m ∷ t ∷ [])) parts.0 (kind, name-kind t.kind token, pseudo-spelled t.bytes pseudo found))
    of true token None found is = absurd (refused (UnknownPseudo, t ∷ ts) part rest is)
    of false token found is_found is = absurd (refused (Expected, t ∷ ts) part rest is)

pub part-found : (ts rest : List Lexeme) (part : Part) → Gave (part_at ts) part rest → Takes (λ a. IsPart a part) ts rest
unfolding part_at
part-found [] rest part is = absurd (refused (Expected, []) part rest is)
part-found (t ∷ ts) rest part is = of (is_hash t.kind) refl (is_mark 46 t.kind) refl (is_mark 58 t.kind) refl is
  where
    of : (hash : Bool) → is_hash t.kind ≡ hash → (point : Bool) → is_mark 46 t.kind ≡ point → (colon : Bool) → is_mark 58 t.kind ≡ colon
        → Gave (cond hash (id_at t ts) (cond point (class_at ts) (cond colon (pseudo_at ts) (expected (t ∷ ts))))) part rest → Takes (λ a. IsPart a part) (t ∷ ts) rest
    of true kind point is_point colon is_colon is = id-found t ts rest part (is_name (drop 1 t.bytes)) refl (hash-kind t.kind kind) is
    of false kind true is_point colon is_colon is = class-found t ts rest part (mark-kind 46 t.kind is_point) is
    of false kind false is_point true is_colon is = pseudo-found t ts rest part (mark-kind 58 t.kind is_colon) is
    of false kind false is_point false is_colon is = absurd (refused (Expected, t ∷ ts) part rest is)

-- a part has a token
pub part-some : (a : List Lexeme) (part : Part) → IsPart a part → 0 < length a
part-some [] (Id name) is = absurd is
part-some [] (Class name) is = absurd is
part-some [] (Pseudo pseudo) is = absurd is
part-some (t ∷ a) part is = omega arith

shorter : (ts a rest : List Lexeme) → ts ≡ a ++ rest → 0 < length a → length rest < length ts
shorter ts a rest parts some =
    let sized : length ts ≡ length a + length rest = ap length parts ∙ length-append a rest in
    omega (arith, sized, some)

pub parts-shrink : Shrinks length (first_is begins_part) part_at
parts-shrink = record {
  ends = none;
  smaller = λ ts rest part is. smaller ts rest part (part-found ts rest part is);
}
  where
    none : (ts : List Lexeme) → length ts ≡ 0 → first_is begins_part ts ≡ false
    none [] is = refl
    none (t ∷ ts) is = absurd (omega (arith, is))

    smaller : (ts rest : List Lexeme) (part : Part) → Takes (λ a. IsPart a part) ts rest → length rest < length ts
    smaller ts rest part takes = shorter ts takes.0 rest takes.1 (part-some takes.0 part takes.2)
