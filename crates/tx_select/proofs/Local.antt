-- What is read depends on nothing behind the token at which it stops or meets a fault.
use Rattle.std.proofs.Common.{◌≡◌, ℕ, zero, suc, ◌+◌, Bool, true, false, cond, ◌&&◌, ◌||◌, List, [], ◌∷◌, ◌++◌, length, drop, Option, Some, None, Ok, Err, refl, ap, sym, ◌∙◌, arith, length-append}
use Rattle.tx_text.specs.Name.{is_name}
use Rattle.tx_read.specs.Reading.{in_turn, ByFirst}
use Rattle.tx_read.proofs.lemmas.LocalReaders.{Plain, no_longer, turn, same, Step, Take, Leave, Refuse, stepped, by_first, first-plain, give-plain}
use Rattle.tx_read.proofs.lemmas.ManyLocal.{many-local, many-leaves}
use Rattle.tx_lex.specs.Lexemes.{Lexeme, is_space, is_blank, is_name_token, is_hash, is_mark, first_is}
use Rattle.tx_select.specs.Lexemes.{is_child_mark, begins_part, begins_compound}
use Rattle.tx_select.specs.Pseudo.{pseudo_of}
use Rattle.tx_select.specs.Grammar.{IsWhole}
use Rattle.tx_select.specs.SelectorReading.{Reads, expected, give, class_at, known_pseudo, pseudo_at, part_at, parts_at, kind_at, compound_of, compound_at, spaces_behind, spaces_at, joint_at, link_at, then_compounds, compounds_at, selector_at, ended, whole_at}
use Rattle.tx_select.specs.Laws.{FaultsAreFirst}
use Rattle.tx_select.specs.declared.value.Part.{Part}
use Rattle.tx_select.specs.declared.value.Part.TheVariants.{Id, Class, Pseudo}
use Rattle.tx_select.specs.declared.value.PseudoName.{PseudoName}
use Rattle.tx_select.specs.declared.value.Compound.{Compound}
use Rattle.tx_select.specs.declared.fault.SelectKind.{SelectKind}
use Rattle.tx_select.specs.declared.fault.SelectKind.TheVariants.{Expected, UnknownPseudo}
use Rattle.tx_read.proofs.lemmas.Cases.{Gave, granted}
use Rattle.tx_select.proofs.Found.{parts-shrink}
use Rattle.tx_select.proofs.FoundWhole.{SpacesFound, spaces-found}
use Rattle.tx_select.proofs.AgainWhole.{whole-again}

expected-plain : {A : Type 0} → Plain {A = A} expected
expected-plain {A = A} = same expected (by_first {A = A} (Err Expected) (λ t. Refuse Expected)) of (first-plain (Err Expected) (λ t. Refuse Expected))
  where
    of : (ts : List Lexeme) → expected {A = A} ts ≡ by_first {A = A} (Err Expected) (λ t. Refuse Expected) ts
    of [] = refl
    of (t ∷ ts) = refl

-- ---- parts

class_step : Lexeme → Step SelectKind Part
class_step t = cond (is_name_token t.kind && is_name t.bytes) (Take (Class t.bytes)) (Refuse Expected)

class-plain : Plain class_at
unfolding class_step
class-plain = same class_at (by_first (Err Expected) class_step) of (first-plain (Err Expected) class_step)
  where
    chosen : (t : Lexeme) (ts : List Lexeme) (b : Bool) → cond b (Ok (Class t.bytes, ts)) (expected (t ∷ ts)) ≡ stepped t ts (cond b (Take (Class t.bytes)) (Refuse Expected))
    chosen t ts true = refl
    chosen t ts false = refl

    of : (ts : List Lexeme) → class_at ts ≡ by_first (Err Expected) class_step ts
    of [] = refl
    of (t ∷ ts) = chosen t ts (is_name_token t.kind && is_name t.bytes)

abbrev known_step : Option PseudoName → Step SelectKind Part
known_step (Some pseudo) = Take (Pseudo pseudo)
known_step None = Refuse UnknownPseudo

pseudo_step : Lexeme → Step SelectKind Part
pseudo_step t = cond (is_name_token t.kind) (known_step (pseudo_of t.bytes)) (Refuse Expected)

pseudo-plain : Plain pseudo_at
unfolding pseudo_step
pseudo-plain = same pseudo_at (by_first (Err Expected) pseudo_step) of (first-plain (Err Expected) pseudo_step)
  where
    chosen : (t : Lexeme) (ts : List Lexeme) (b : Bool) (found : Option PseudoName) → cond b (known_pseudo t ts found) (expected (t ∷ ts)) ≡ stepped t ts (cond b (known_step found) (Refuse Expected))
    chosen t ts true (Some pseudo) = refl
    chosen t ts true None = refl
    chosen t ts false found = refl

    of : (ts : List Lexeme) → pseudo_at ts ≡ by_first (Err Expected) pseudo_step ts
    of [] = refl
    of (t ∷ ts) = chosen t ts (is_name_token t.kind) (pseudo_of t.bytes)

-- what the first token of a part tells
data Sort : Type 0 where
  Done : Part → Sort
  ClassNext : Sort
  PseudoNext : Sort

abbrev rest_of : Sort → Reads Part
rest_of (Done part) = give part
rest_of ClassNext = class_at
rest_of PseudoNext = pseudo_at

rest-plain : (sort : Sort) → Plain (rest_of sort)
rest-plain (Done part) = give-plain part
rest-plain ClassNext = class-plain
rest-plain PseudoNext = pseudo-plain

abbrev sort_by : Lexeme → Bool → Bool → Bool → Bool → Step SelectKind Sort
sort_by t hash named point colon =
    cond hash (cond named (Take (Done (Id (drop 1 t.bytes)))) (Refuse Expected)) (cond point (Take ClassNext) (cond colon (Take PseudoNext) (Refuse Expected)))

sort_step : Lexeme → Step SelectKind Sort
sort_step t = sort_by t (is_hash t.kind) (is_name (drop 1 t.bytes)) (is_mark 46 t.kind) (is_mark 58 t.kind)

part-plain : Plain part_at
unfolding part_at sort_step
part-plain = same part_at (in_turn (by_first (Err Expected) sort_step) rest_of) of (turn (by_first (Err Expected) sort_step) rest_of (first-plain (Err Expected) sort_step) rest-plain)
  where
    chosen : (t : Lexeme) (ts : List Lexeme) (hash named point colon : Bool)
        → cond hash (cond named (Ok (Id (drop 1 t.bytes), ts)) (expected (t ∷ ts))) (cond point (class_at ts) (cond colon (pseudo_at ts) (expected (t ∷ ts))))
        ≡ in_turn (λ xs. stepped t ts (sort_by t hash named point colon)) rest_of (t ∷ ts)
    chosen t ts true true point colon = refl
    chosen t ts true false point colon = refl
    chosen t ts false named true colon = refl
    chosen t ts false named false true = refl
    chosen t ts false named false false = refl

    of : (ts : List Lexeme) → part_at ts ≡ in_turn (by_first (Err Expected) sort_step) rest_of ts
    of [] = refl
    of (t ∷ ts) = chosen t ts (is_hash t.kind) (is_name (drop 1 t.bytes)) (is_mark 46 t.kind) (is_mark 58 t.kind)

begins-first : ByFirst (first_is begins_part)
begins-first = record { same = λ t xs ys. refl }

parts-plain : Plain parts_at
unfolding parts_at
parts-plain = record {
  local = many-local (first_is begins_part) part_at begins-first parts-shrink part-plain.local part-plain.leaves;
  leaves = many-leaves (first_is begins_part) part_at parts-shrink part-plain.leaves;
}

-- ---- compounds

abbrev kind_by : Lexeme → Bool → Bool → Bool → Bool → Step SelectKind (Option (List ℕ))
kind_by t name named star part =
    cond name (cond named (Take (Some t.bytes)) (Refuse Expected)) (cond star (Take None) (cond part (Leave None) (Refuse Expected)))

kind_step : Lexeme → Step SelectKind (Option (List ℕ))
kind_step t = kind_by t (is_name_token t.kind) (is_name t.bytes) (is_mark 42 t.kind) (begins_part t.kind)

kind-plain : Plain kind_at
unfolding kind_at kind_step
kind-plain = same kind_at (by_first (Err Expected) kind_step) of (first-plain (Err Expected) kind_step)
  where
    chosen : (t : Lexeme) (ts : List Lexeme) (name named star part : Bool)
        → cond name (cond named (Ok (Some t.bytes, ts)) (expected (t ∷ ts))) (cond star (Ok (None, ts)) (cond part (Ok (None, t ∷ ts)) (expected (t ∷ ts))))
        ≡ stepped t ts (kind_by t name named star part)
    chosen t ts true true star part = refl
    chosen t ts true false star part = refl
    chosen t ts false named true part = refl
    chosen t ts false named false true = refl
    chosen t ts false named false false = refl

    of : (ts : List Lexeme) → kind_at ts ≡ by_first (Err Expected) kind_step ts
    of [] = refl
    of (t ∷ ts) = chosen t ts (is_name_token t.kind) (is_name t.bytes) (is_mark 42 t.kind) (begins_part t.kind)

compound-plain : (child : Bool) → Plain (compound_at child)
unfolding compound_at
compound-plain child = turn kind_at (λ kind. in_turn parts_at (λ parts. give (compound_of child kind parts))) kind-plain
    (λ kind. turn parts_at (λ parts. give (compound_of child kind parts)) parts-plain (λ parts. give-plain (compound_of child kind parts)))

-- ---- spaces, and what joins compounds

pair-parts : (a b : Bool) (s t : List Lexeme) → ◌≡◌ {A = Bool × List Lexeme} (a, s) (b, t) → (a ≡ b) × (s ≡ t)
pair-parts a b s t is = (ap (λ (p : Bool × List Lexeme). p.0) is, ap (λ (p : Bool × List Lexeme). p.1) is)

spaces-value : (spaced : Bool) (front more other : List Lexeme) (t : Lexeme) (b : Bool) → spaces_behind spaced (front ++ (t ∷ more)) ≡ (b, t ∷ more) → spaces_behind spaced (front ++ (t ∷ other)) ≡ (b, t ∷ other)
spaces-value spaced [] more other t b is = of (is_blank t.kind) is
  where
    longer : (found : Bool × List Lexeme) → SpacesFound (spaced || is_space t.kind) more found → found ≡ (b, t ∷ more) → ⊥
    longer found has is =
        let rest : found.1 ≡ t ∷ more = ap (λ (p : Bool × List Lexeme). p.1) is in
        let sized : length more ≡ length has.blank + length (t ∷ more) = ap length (has.parts ∙ ap (λ r. has.blank ++ r) rest) ∙ length-append has.blank (t ∷ more) in
        omega (arith, sized)

    of : (blank : Bool) → cond blank (spaces_behind (spaced || is_space t.kind) more) (spaced, t ∷ more) ≡ (b, t ∷ more)
        → cond blank (spaces_behind (spaced || is_space t.kind) other) (spaced, t ∷ other) ≡ (b, t ∷ other)
    of true is = absurd (longer (spaces_behind (spaced || is_space t.kind) more) (spaces-found (spaced || is_space t.kind) more) is)
    of false is = ap (λ s. (s, t ∷ other)) (pair-parts spaced b (t ∷ more) (t ∷ more) is).0
spaces-value spaced (x ∷ front) more other t b is = of (is_blank x.kind) is (spaces-value (spaced || is_space x.kind) front more other t b)
  where
    of : (blank : Bool) → cond blank (spaces_behind (spaced || is_space x.kind) (front ++ (t ∷ more))) (spaced, x ∷ (front ++ (t ∷ more))) ≡ (b, t ∷ more)
        → (spaces_behind (spaced || is_space x.kind) (front ++ (t ∷ more)) ≡ (b, t ∷ more) → spaces_behind (spaced || is_space x.kind) (front ++ (t ∷ other)) ≡ (b, t ∷ other))
        → cond blank (spaces_behind (spaced || is_space x.kind) (front ++ (t ∷ other))) (spaced, x ∷ (front ++ (t ∷ other))) ≡ (b, t ∷ other)
    of true is again = again is
    of false is again = absurd (no_longer front (t ∷ more) x (pair-parts spaced b (x ∷ (front ++ (t ∷ more))) (t ∷ more) is).1)

whole_pair : (found : Bool × List Lexeme) (b : Bool) (rest : List Lexeme) → Gave {F = SelectKind} (Ok found) b rest → found ≡ (b, rest)
whole_pair found b rest is = cc

spaces-plain : Plain {T = Lexeme} {F = SelectKind} (λ ts. Ok (spaces_at ts))
unfolding spaces_at
spaces-plain = record {
  local = record {
    value = λ front more other t b is. ap Ok (spaces-value false front more other t b (whole_pair (spaces_behind false (front ++ (t ∷ more))) b (t ∷ more) is));
    fault = λ front more other t kind is. absurd (granted (spaces_behind false (front ++ (t ∷ more))) kind (t ∷ more) is);
  };
  leaves = record {
    value = λ xs rest b is. left xs rest b (spaces-found false xs) (whole_pair (spaces_behind false xs) b rest is);
    fault = λ xs rest kind is. absurd (granted (spaces_behind false xs) kind rest is);
  };
}
  where
    left : (xs rest : List Lexeme) (b : Bool) → SpacesFound false xs (spaces_behind false xs) → spaces_behind false xs ≡ (b, rest) → (piece : List Lexeme) × (xs ≡ piece ++ rest)
    left xs rest b found is = (found.blank, found.parts ∙ ap (λ (p : Bool × List Lexeme). found.blank ++ p.1) is)

abbrev joint_by : Bool → Bool → Step SelectKind (Option Bool)
joint_by mark compound = cond mark (Take (Some true)) (cond compound (Leave (Some false)) (Leave None))

joint_step : Bool → Lexeme → Step SelectKind (Option Bool)
joint_step spaced t = joint_by (is_child_mark t.kind) (spaced && begins_compound t.kind)

abbrev joint_rest : Option Bool → Reads (Option Bool)
joint_rest None = give None
joint_rest (Some false) = give (Some false)
joint_rest (Some true) = in_turn (λ ts. Ok (spaces_at ts)) (λ spaced. give (Some true))

joint_rest-plain : (next : Option Bool) → Plain (joint_rest next)
joint_rest-plain None = give-plain None
joint_rest-plain (Some false) = give-plain (Some false)
joint_rest-plain (Some true) = turn (λ ts. Ok (spaces_at ts)) (λ spaced. give (Some true)) spaces-plain (λ spaced. give-plain (Some true))

joint-plain : (spaced : Bool) → Plain {T = Lexeme} {F = SelectKind} (λ ts. Ok (joint_at spaced ts))
unfolding joint_step
joint-plain spaced = same (λ ts. Ok (joint_at spaced ts)) (in_turn (by_first (Ok None) (joint_step spaced)) joint_rest) of
    (turn (by_first (Ok None) (joint_step spaced)) joint_rest (first-plain (Ok None) (joint_step spaced)) joint_rest-plain)
  where
    chosen : (t : Lexeme) (ts : List Lexeme) (mark compound : Bool)
        → Ok (cond mark (Some true, (spaces_at ts).1) (cond compound (Some false, t ∷ ts) (None, t ∷ ts))) ≡ in_turn (λ xs. stepped t ts (joint_by mark compound)) joint_rest (t ∷ ts)
    chosen t ts true compound = refl
    chosen t ts false true = refl
    chosen t ts false false = refl

    of : (ts : List Lexeme) → Ok (joint_at spaced ts) ≡ in_turn (by_first (Ok None) (joint_step spaced)) joint_rest ts
    of [] = refl
    of (t ∷ ts) = chosen t ts (is_child_mark t.kind) (spaced && begins_compound t.kind)

link-plain : Plain {T = Lexeme} {F = SelectKind} (λ ts. Ok (link_at ts))
unfolding link_at
link-plain = turn (λ ts. Ok (spaces_at ts)) (λ spaced ts. Ok (joint_at spaced ts)) spaces-plain joint-plain

-- ---- selectors

compounds-plain : (most : ℕ) (child : Bool) → Plain (compounds_at most child)
unfolding compounds_at
compounds-plain zero child = expected-plain
compounds-plain (suc most) child =
    turn (compound_at child) (λ compound. in_turn (λ ts. Ok (link_at ts)) (then_compounds (compounds_at most) compound)) (compound-plain child)
    (λ compound. turn (λ ts. Ok (link_at ts)) (then_compounds (compounds_at most) compound) link-plain (then-plain compound (compounds-plain most)))
  where
    then-plain : (compound : Compound) → ((child : Bool) → Plain (compounds_at most child)) → (next : Option Bool) → Plain (then_compounds (compounds_at most) compound next)
    then-plain compound plain None = give-plain (compound ∷ [])
    then-plain compound plain (Some child) = turn (compounds_at most child) (λ compounds. give (compound ∷ compounds)) (plain child) (λ compounds. give-plain (compound ∷ compounds))

pub selector-plain : Plain selector_at
unfolding selector_at
selector-plain = compounds-plain 16 false

ended-plain : (compounds : List Compound) → Plain (ended compounds)
ended-plain compounds = same (ended compounds) (by_first (Ok compounds) (λ t. Refuse Expected)) of (first-plain (Ok compounds) (λ t. Refuse Expected))
  where
    of : (ts : List Lexeme) → ended compounds ts ≡ by_first (Ok compounds) (λ t. Refuse Expected) ts
    of [] = refl
    of (t ∷ ts) = refl

whole-plain : Plain whole_at
unfolding whole_at
whole-plain = turn (λ ts. Ok (spaces_at ts)) (λ spaced. in_turn selector_at ended) spaces-plain (λ spaced. turn selector_at ended selector-plain ended-plain)

-- a list that has a fault isn't in the grammar
not_whole : (ts rest : List Lexeme) (kind : SelectKind) (compounds : List Compound) → whole_at ts ≡ Err (kind, rest) → IsWhole ts compounds → ⊥
not_whole ts rest kind compounds is grammar = granted (compounds, []) kind rest (sym (whole-again ts compounds grammar) ∙ is)

pub faults-first : FaultsAreFirst
faults-first ts [] kind is = λ compounds grammar. not_whole ts [] kind compounds is grammar
faults-first ts (t ∷ more) kind is =
    let split : (front : List Lexeme) × (ts ≡ front ++ (t ∷ more)) = whole-plain.leaves.fault ts (t ∷ more) kind is in (
      split.0,
      split.1,
      λ other compounds grammar. not_whole (split.0 ++ (t ∷ other)) (t ∷ other) kind compounds
          (whole-plain.local.fault split.0 more other t kind (ap whole_at (sym split.1) ∙ is)) grammar,
    )
