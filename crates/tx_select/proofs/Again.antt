-- The parts of the grammar are read: a part, parts and a compound.
use Rattle.std.proofs.Common.{◌≡◌, ◌≢◌, ℕ, Bool, true, false, cond, ◌&&◌, ◌||◌, nat_eq, List, [], ◌∷◌, ◌++◌, length, Option, Some, None, Ok, refl, ap, ◌∙◌, arith, append_assoc}
use Rattle.std.proofs.lemmas.Bool.{or_right}
use Rattle.std.proofs.lemmas.Bool.Decides.{nat_tests}
use Rattle.tx_lex.specs.declared.token.TokenKind.{TokenKind}
use Rattle.tx_lex.specs.declared.token.TokenKind.TheVariants.{Space, Comment, Name, Hash, Variable, Number, Mark}
use Rattle.tx_text.specs.Name.{is_name}
use Rattle.tx_read.specs.Reading.{◌>>=◌, Items, whole}
use Rattle.tx_read.proofs.lemmas.ManyItems.{many-again}
use Rattle.tx_lex.specs.Lexemes.{Lexeme, is_name_token, is_hash, is_mark, first_is}
use Rattle.tx_select.specs.Lexemes.{begins_part, begins_compound}
use Rattle.tx_select.specs.Pseudo.{pseudo_name, pseudo_of}
use Rattle.tx_select.specs.Grammar.{IsPart, AreParts, IsKind, IsCompound}
use Rattle.tx_select.specs.SelectorReading.{Read, id_at, class_at, known_pseudo, pseudo_at, part_at, parts_at, kind_at, compound_of, compound_at, expected}
use Rattle.tx_select.specs.declared.value.Part.{Part}
use Rattle.tx_select.specs.declared.value.Part.TheVariants.{Id, Class, Pseudo}
use Rattle.tx_select.specs.declared.value.Compound.{Compound}
use Rattle.tx_select.specs.declared.value.PseudoName.{PseudoName}
use Rattle.tx_select.specs.declared.value.PseudoName.TheVariants.{Hover, Focus, FocusWithin, Blur, Enabled, Disabled, Dark, Light, FirstChild, LastChild}
use Rattle.tx_select.proofs.Found.{parts-shrink}

pseudo-again : (pseudo : PseudoName) → pseudo_of (pseudo_name pseudo) ≡ Some pseudo
unfolding pseudo_of
pseudo-again Hover = refl
pseudo-again Focus = refl
pseudo-again FocusWithin = refl
pseudo-again Blur = refl
pseudo-again Enabled = refl
pseudo-again Disabled = refl
pseudo-again Dark = refl
pseudo-again Light = refl
pseudo-again FirstChild = refl
pseudo-again LastChild = refl

-- ---- parts

-- what is read by the kind of the first token
abbrev by_kind : Lexeme → List Lexeme → TokenKind → Read Part
by_kind t ts kind = cond (is_hash kind) (id_at t ts) (cond (is_mark 46 kind) (class_at ts) (cond (is_mark 58 kind) (pseudo_at ts) (expected (t ∷ ts))))

part-again : (a rest : List Lexeme) (part : Part) → IsPart a part → part_at (a ++ rest) ≡ Ok (part, rest)
unfolding part_at
part-again (t ∷ []) rest (Id name) is =
    ap (by_kind t rest) is.0
    ∙ ap (λ n. cond (is_name n) (Ok (Id n, rest)) (expected (t ∷ rest))) is.1
    ∙ ap (λ b. cond b (Ok (Id name, rest)) (expected (t ∷ rest))) is.2
part-again (m ∷ t ∷ []) rest (Class name) is =
    ap (by_kind m (t ∷ rest)) is.0
    ∙ ap (λ k. cond (is_name_token k && is_name t.bytes) (Ok (Class t.bytes, rest)) (expected (t ∷ rest))) is.1
    ∙ ap (λ n. cond (is_name n) (Ok (Class n, rest)) (expected (t ∷ rest))) is.2
    ∙ ap (λ b. cond b (Ok (Class name, rest)) (expected (t ∷ rest))) is.3
part-again (m ∷ t ∷ []) rest (Pseudo pseudo) is =
    ap (by_kind m (t ∷ rest)) is.0
    ∙ ap (λ k. cond (is_name_token k) (known_pseudo t rest (pseudo_of t.bytes)) (expected (t ∷ rest))) is.1
    ∙ ap (λ n. known_pseudo t rest (pseudo_of n)) is.2
    ∙ ap (known_pseudo t rest) (pseudo-again pseudo)
part-again [] rest (Id name) is = absurd is
part-again [] rest (Class name) is = absurd is
part-again [] rest (Pseudo pseudo) is = absurd is
part-again (t ∷ []) rest (Class name) is = absurd is
part-again (t ∷ []) rest (Pseudo pseudo) is = absurd is
part-again (m ∷ t ∷ []) rest (Id name) is = absurd is
part-again (m ∷ t ∷ u ∷ a) rest (Id name) is = absurd is
part-again (m ∷ t ∷ u ∷ a) rest (Class name) is = absurd is
part-again (m ∷ t ∷ u ∷ a) rest (Pseudo pseudo) is = absurd is

part-begins : (a rest : List Lexeme) (part : Part) → IsPart a part → first_is begins_part (a ++ rest) ≡ true
part-begins (t ∷ []) rest (Id name) is = ap begins_part is.0
part-begins (m ∷ t ∷ []) rest (Class name) is = ap begins_part is.0
part-begins (m ∷ t ∷ []) rest (Pseudo pseudo) is = ap begins_part is.0
part-begins [] rest (Id name) is = absurd is
part-begins [] rest (Class name) is = absurd is
part-begins [] rest (Pseudo pseudo) is = absurd is
part-begins (t ∷ []) rest (Class name) is = absurd is
part-begins (t ∷ []) rest (Pseudo pseudo) is = absurd is
part-begins (m ∷ t ∷ []) rest (Id name) is = absurd is
part-begins (m ∷ t ∷ u ∷ a) rest (Id name) is = absurd is
part-begins (m ∷ t ∷ u ∷ a) rest (Class name) is = absurd is
part-begins (m ∷ t ∷ u ∷ a) rest (Pseudo pseudo) is = absurd is

items-again : (a rest : List Lexeme) (parts : List Part) → AreParts a parts
    → Items (λ s part next. (first_is begins_part s ≡ true) × (part_at s ≡ Ok (part, next))) (a ++ rest) parts rest
items-again a rest [] is = ap (λ xs. xs ++ rest) is
items-again a rest (part ∷ parts) is =
    let split : a ++ rest ≡ is.0 ++ (is.1 ++ rest) = ap (λ xs. xs ++ rest) is.2 ∙ append_assoc is.0 is.1 rest in (
      is.1 ++ rest,
      (
        (ap (first_is begins_part) split ∙ part-begins is.0 (is.1 ++ rest) part is.3, ap part_at split ∙ part-again is.0 (is.1 ++ rest) part is.3),
        items-again is.1 rest parts is.4,
      ),
    )

parts-again : (a rest : List Lexeme) (parts : List Part) → AreParts a parts → first_is begins_part rest ≡ false → parts_at (a ++ rest) ≡ Ok (parts, rest)
unfolding parts_at
parts-again a rest parts is none =
    ap whole (many-again length (first_is begins_part) part_at parts-shrink (a ++ rest) rest parts (Ok rest) (items-again a rest parts is) (refl, none))

parts-begin : (a rest : List Lexeme) (parts : List Part) → AreParts a parts → parts ≢ [] → first_is begins_part (a ++ rest) ≡ true
parts-begin a rest [] is some = absurd (some refl)
parts-begin a rest (part ∷ parts) is some =
    ap (first_is begins_part) (ap (λ xs. xs ++ rest) is.2 ∙ append_assoc is.0 is.1 rest) ∙ part-begins is.0 (is.1 ++ rest) part is.3

-- ---- compounds

part-only : (kind : TokenKind) → begins_part kind ≡ true → (is_name_token kind ≡ false) × (is_mark 42 kind ≡ false)
part-only Hash is = (refl, refl)
part-only (Mark mark) is = (refl, star mark is)
  where
    star : (mark : ℕ) → (nat_eq mark 46 || nat_eq mark 58) ≡ true → nat_eq mark 42 ≡ false
    star mark is = grind (arith, nat_tests)
part-only Space is = absurd (let clash : false ≡ true = is in cc)
part-only Comment is = absurd (let clash : false ≡ true = is in cc)
part-only Name is = absurd (let clash : false ≡ true = is in cc)
part-only Variable is = absurd (let clash : false ≡ true = is in cc)
part-only Number is = absurd (let clash : false ≡ true = is in cc)

-- what is read by the kind of the first token
abbrev kind_by : Lexeme → List Lexeme → Bool → Bool → Bool → Read (Option (List ℕ))
kind_by t ts name star part =
    cond name (cond (is_name t.bytes) (Ok (Some t.bytes, ts)) (expected (t ∷ ts))) (cond star (Ok (None, ts)) (cond part (Ok (None, t ∷ ts)) (expected (t ∷ ts))))

kind-none : (rest : List Lexeme) → first_is begins_part rest ≡ true → kind_at rest ≡ Ok (None, rest)
unfolding kind_at
kind-none [] begins = absurd (let clash : false ≡ true = begins in cc)
kind-none (t ∷ ts) begins =
    let only : (is_name_token t.kind ≡ false) × (is_mark 42 t.kind ≡ false) = part-only t.kind begins in
    ap (λ name. kind_by t ts name (is_mark 42 t.kind) (begins_part t.kind)) only.0
    ∙ ap (λ star. kind_by t ts false star (begins_part t.kind)) only.1
    ∙ ap (λ part. kind_by t ts false false part) begins

kind-again : (a rest : List Lexeme) (kind : Option (List ℕ)) (parts : List Part) → IsKind a kind parts → (parts ≢ [] → first_is begins_part rest ≡ true) → kind_at (a ++ rest) ≡ Ok (kind, rest)
unfolding kind_at
kind-again (t ∷ []) rest (Some name) parts is begins =
    ap (λ k. kind_by t rest (is_name_token k) (is_mark 42 k) (begins_part k)) is.0
    ∙ ap (λ n. cond (is_name n) (Ok (Some n, rest)) (expected (t ∷ rest))) is.1
    ∙ ap (λ b. cond b (Ok (Some name, rest)) (expected (t ∷ rest))) is.2
kind-again (t ∷ []) rest None parts is begins = ap (λ k. kind_by t rest (is_name_token k) (is_mark 42 k) (begins_part k)) is
kind-again [] rest None parts is begins = kind-none rest (begins is)
kind-again [] rest (Some name) parts is begins = absurd is
kind-again (t ∷ u ∷ a) rest None parts is begins = absurd is
kind-again (t ∷ u ∷ a) rest (Some name) parts is begins = absurd is

abbrev then_compound : Bool → Option (List ℕ) → List Part × List Lexeme → Read Compound
then_compound child kind parts = Ok (compound_of child kind parts.0, parts.1)

abbrev then_parts : Bool → Option (List ℕ) × List Lexeme → Read Compound
then_parts child kind = parts_at kind.1 >>= then_compound child kind.0

pub compound-again : (a rest : List Lexeme) (compound : Compound) → IsCompound a compound → first_is begins_part rest ≡ false → compound_at compound.child (a ++ rest) ≡ Ok (compound, rest)
unfolding compound_at
compound-again a rest compound is none =
    let split : a ++ rest ≡ is.0 ++ (is.1 ++ rest) = ap (λ xs. xs ++ rest) is.2 ∙ append_assoc is.0 is.1 rest in
    let kind : kind_at (is.0 ++ (is.1 ++ rest)) ≡ Ok (compound.kind, is.1 ++ rest) =
    kind-again is.0 (is.1 ++ rest) compound.kind compound.parts is.3 (parts-begin is.1 rest compound.parts is.4) in
    ap (λ r. r >>= then_parts compound.child) (ap kind_at split ∙ kind)
    ∙ ap (λ r. r >>= then_compound compound.child compound.kind) (parts-again is.1 rest compound.parts is.4 none)

kind-begins : (a rest : List Lexeme) (kind : Option (List ℕ)) (parts : List Part) → IsKind a kind parts → (parts ≢ [] → first_is begins_part rest ≡ true) → first_is begins_compound (a ++ rest) ≡ true
kind-begins (t ∷ []) rest (Some name) parts is begins = ap begins_compound is.0
kind-begins (t ∷ []) rest None parts is begins = ap begins_compound is
kind-begins [] rest None parts is begins = of rest (begins is)
  where
    of : (rest : List Lexeme) → first_is begins_part rest ≡ true → first_is begins_compound rest ≡ true
    of [] part = part
    of (t ∷ ts) part = or_right (is_name_token t.kind || is_mark 42 t.kind) (begins_part t.kind) part
kind-begins [] rest (Some name) parts is begins = absurd is
kind-begins (t ∷ u ∷ a) rest None parts is begins = absurd is
kind-begins (t ∷ u ∷ a) rest (Some name) parts is begins = absurd is

pub compound-begins : (a rest : List Lexeme) (compound : Compound) → IsCompound a compound → first_is begins_compound (a ++ rest) ≡ true
compound-begins a rest compound is =
    ap (first_is begins_compound) (ap (λ xs. xs ++ rest) is.2 ∙ append_assoc is.0 is.1 rest)
    ∙ kind-begins is.0 (is.1 ++ rest) compound.kind compound.parts is.3 (parts-begin is.1 rest compound.parts is.4)
