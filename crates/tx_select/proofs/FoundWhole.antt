-- What is read is in the grammar.
use Rattle.std.proofs.Common.{◌≡◌, ◌≢◌, ℕ, zero, suc, ◌≤◌, Bool, true, false, cond, ◌&&◌, ◌||◌, List, [], ◌∷◌, ◌++◌, length, Option, Some, None, Result, Ok, Err, refl, ap, sym, ◌∙◌, subst, arith, append_assoc}
use Rattle.std.proofs.Math.Bool.{or-false, or_assoc}
use Rattle.std.proofs.lemmas.Bool.{and_from}
use Rattle.std.proofs.lemmas.List.{append-nil}
use Rattle.tx_text.specs.Name.{is_name}
use Rattle.tx_read.specs.Reading.{◌>>=◌, with_items, many, Items, StopsAt, IsFound}
use Rattle.tx_read.proofs.lemmas.ManyItems.{many-found}
use Rattle.tx_lex.specs.Lexemes.{Lexeme, is_space, is_blank, is_name_token, is_mark, first_is}
use Rattle.tx_select.specs.Lexemes.{is_child_mark, begins_part, begins_compound}
use Rattle.tx_select.specs.Grammar.{AreBlank, has_space, IsPart, AreParts, IsKind, IsCompound, IsCombinator, AreCompounds, child_of_first, IsSelector, IsWhole}
use Rattle.tx_select.specs.SelectorReading.{Read, expected, part_at, parts_at, kind_at, compound_of, compound_at, spaces_behind, spaces_at, joint_at, link_at, then_compounds, compounds_at, selector_at, ended, whole_at}
use Rattle.tx_select.specs.declared.value.Part.{Part}
use Rattle.tx_select.specs.declared.value.Compound.{Compound}
use Rattle.tx_select.specs.declared.fault.SelectKind.{SelectKind}
use Rattle.tx_select.specs.declared.fault.SelectKind.TheVariants.{Expected}
use Rattle.tx_lex.proofs.lemmas.TokenKinds.{mark-kind, name-kind}
use Rattle.tx_read.proofs.lemmas.Cases.{Gave, given, refused, both}
use Rattle.tx_select.proofs.Found.{Takes, part-found, parts-shrink}

-- ---- parts

abbrev IsNext : List Lexeme → Part → List Lexeme → Type 0
IsNext s part next = Takes (λ a. IsPart a part) s next

items-parts : (s last : List Lexeme) (parts : List Part) → Items IsNext s parts last → Takes (λ a. AreParts a parts) s last
items-parts s last [] is = ([], is, refl)
items-parts s last (part ∷ parts) is =
    let more : Takes (λ a. AreParts a parts) is.0 last = items-parts is.0 last parts is.1.1 in
    let first : Takes (λ a. IsPart a part) s is.0 = is.1.0 in
    (first.0 ++ more.0, first.1 ∙ ap (λ xs. first.0 ++ xs) more.1 ∙ sym (append_assoc first.0 more.0 last), (first.0, more.0, refl, first.2, more.2))

record PartsFound (s : List Lexeme) (parts : List Part) (rest : List Lexeme) : Type 0 where
  items : Items IsNext s parts rest
  stops : first_is begins_part rest ≡ false

run-found : (s last : List Lexeme) (items : List Part) (end : Result (List Lexeme) (SelectKind × List Lexeme)) (parts : List Part) (rest : List Lexeme) → Items IsNext s items last
    → StopsAt (first_is begins_part) part_at last end → Gave (with_items items end) parts rest → PartsFound s parts rest
run-found s last items (Ok t) parts rest are stops is =
    let same : (items ≡ parts) × (t ≡ rest) = given items parts t rest is in
    let at : last ≡ rest = sym stops.0 ∙ same.1 in
    record {
      items = subst (λ r. Items IsNext s parts r) at (subst (λ p. Items IsNext s p last) same.0 are);
      stops = ap (first_is begins_part) (sym at) ∙ stops.1;
    }
run-found s last items (Err fault) parts rest are stops is = absurd (refused fault parts rest is)

parts-found : (s rest : List Lexeme) (parts : List Part) → Gave (parts_at s) parts rest → PartsFound s parts rest
unfolding parts_at
parts-found s rest parts is =
    let found : IsFound IsNext (first_is begins_part) part_at s (many length (first_is begins_part) part_at s) =
    many-found IsNext length (first_is begins_part) part_at parts-shrink (λ t next part begins gave. part-found t next part gave) s in
    run-found s found.last (many length (first_is begins_part) part_at s).items (many length (first_is begins_part) part_at s).end parts rest found.items found.stops is

-- one part at least, where one begins
parts-some : (s rest : List Lexeme) (parts : List Part) → PartsFound s parts rest → first_is begins_part s ≡ true → parts ≢ []
parts-some s rest parts found begins none =
    let same : s ≡ rest = subst (λ p. Items IsNext s p rest) none found.items in
    let clash : true ≡ false = sym begins ∙ ap (first_is begins_part) same ∙ found.stops in cc

-- ---- compounds

abbrev IsKindBefore : List Lexeme → Option (List ℕ) → List Lexeme → Type 0
IsKindBefore rest kind a = (parts : List Part) → (first_is begins_part rest ≡ true → parts ≢ []) → IsKind a kind parts

kind-found : (s rest : List Lexeme) (kind : Option (List ℕ)) → Gave (kind_at s) kind rest → Takes (IsKindBefore rest kind) s rest
unfolding kind_at
kind-found [] rest kind is = absurd (refused (Expected, []) kind rest is)
kind-found (t ∷ ts) rest kind is = of (is_name_token t.kind) refl (is_name t.bytes) refl (is_mark 42 t.kind) refl (begins_part t.kind) refl is
  where
    of : (name : Bool) → is_name_token t.kind ≡ name → (named : Bool) → is_name t.bytes ≡ named → (star : Bool) → is_mark 42 t.kind ≡ star → (part : Bool) → begins_part t.kind ≡ part
        → Gave (cond name (cond named (Ok (Some t.bytes, ts)) (expected (t ∷ ts))) (cond star (Ok (None, ts)) (cond part (Ok (None, t ∷ ts)) (expected (t ∷ ts))))) kind rest
        → Takes (IsKindBefore rest kind) (t ∷ ts) rest
    of true is_token true named star is_star part is_part is =
        let same : (Some t.bytes ≡ kind) × (ts ≡ rest) = given (Some t.bytes) kind ts rest is in
        (t ∷ [], ap (λ xs. t ∷ xs) same.1, subst (λ k. IsKindBefore rest k (t ∷ [])) same.0 (λ parts some. (name-kind t.kind is_token, refl, named)))
    of true is_token false named star is_star part is_part is = absurd (refused (Expected, t ∷ ts) kind rest is)
    of false is_token named is_named true is_star part is_part is =
        let same : (None ≡ kind) × (ts ≡ rest) = given None kind ts rest is in
        (t ∷ [], ap (λ xs. t ∷ xs) same.1, subst (λ k. IsKindBefore rest k (t ∷ [])) same.0 (λ parts some. mark-kind 42 t.kind is_star))
    of false is_token named is_named false is_star true is_part is =
        let same : (None ≡ kind) × ((t ∷ ts) ≡ rest) = given None kind (t ∷ ts) rest is in
        ([], same.1, subst (λ k. IsKindBefore rest k []) same.0 (λ parts some. some (ap (first_is begins_part) (sym same.1) ∙ is_part)))
    of false is_token named is_named false is_star false is_part is = absurd (refused (Expected, t ∷ ts) kind rest is)

record CompoundFound (s : List Lexeme) (child : Bool) (compound : Compound) (rest : List Lexeme) : Type 0 where
  takes : Takes (λ a. IsCompound a compound) s rest
  joined : compound.child ≡ child

abbrev then_compound : Bool → Option (List ℕ) → List Part × List Lexeme → Read Compound
then_compound child kind parts = Ok (compound_of child kind parts.0, parts.1)

abbrev then_parts : Bool → Option (List ℕ) × List Lexeme → Read Compound
then_parts child kind = parts_at kind.1 >>= then_compound child kind.0

compound-found : (s rest : List Lexeme) (child : Bool) (compound : Compound) → Gave (compound_at child s) compound rest → CompoundFound s child compound rest
unfolding compound_at
compound-found s rest child compound is =
    let first : (k : Option (List ℕ) × List Lexeme) × (kind_at s ≡ Ok k) × (then_parts child k ≡ Ok (compound, rest)) = both (kind_at s) (then_parts child) compound rest is in
    let second : (p : List Part × List Lexeme) × (parts_at first.0.1 ≡ Ok p) × (then_compound child first.0.0 p ≡ Ok (compound, rest)) =
    both (parts_at first.0.1) (then_compound child first.0.0) compound rest first.2 in
    let same : (compound_of child first.0.0 second.0.0 ≡ compound) × (second.0.1 ≡ rest) = given (compound_of child first.0.0 second.0.0) compound second.0.1 rest second.2 in
    let kind : Takes (IsKindBefore first.0.1 first.0.0) s first.0.1 = kind-found s first.0.1 first.0.0 first.1 in
    let found : PartsFound first.0.1 second.0.0 second.0.1 = parts-found first.0.1 second.0.1 second.0.0 second.1 in
    let parts : Takes (λ a. AreParts a second.0.0) first.0.1 second.0.1 = items-parts first.0.1 second.0.1 second.0.0 found.items in
    record {
      takes = subst (λ c. Takes (λ a. IsCompound a c) s rest) same.0 (
        kind.0 ++ parts.0,
        kind.1 ∙ ap (λ xs. kind.0 ++ xs) (parts.1 ∙ ap (λ r. parts.0 ++ r) same.1) ∙ sym (append_assoc kind.0 parts.0 rest),
        (kind.0, parts.0, refl, kind.2 second.0.0 (parts-some first.0.1 second.0.1 second.0.0 found), parts.2),
      );
      joined = sym (ap (λ (c : Compound). c.child) same.0);
    }

-- ---- spaces, and what joins compounds

pub record SpacesFound (spaced : Bool) (s : List Lexeme) (found : Bool × List Lexeme) : Type 0 where
  pub blank : List Lexeme
  pub parts : s ≡ blank ++ found.1
  pub all : AreBlank blank
  pub space : found.0 ≡ (spaced || has_space blank)

pub spaces-found : (spaced : Bool) (s : List Lexeme) → SpacesFound spaced s (spaces_behind spaced s)
spaces-found spaced [] = record { blank = []; parts = refl; all = refl; space = sym (or-false spaced) }
spaces-found spaced (t ∷ ts) = of (is_blank t.kind) refl (spaces-found (spaced || is_space t.kind) ts)
  where
    of : (blank : Bool) → is_blank t.kind ≡ blank → SpacesFound (spaced || is_space t.kind) ts (spaces_behind (spaced || is_space t.kind) ts)
        → SpacesFound spaced (t ∷ ts) (cond blank (spaces_behind (spaced || is_space t.kind) ts) (spaced, t ∷ ts))
    of true is rest = record {
      blank = t ∷ rest.blank;
      parts = ap (λ xs. t ∷ xs) rest.parts;
      all = and_from (is_blank t.kind) _ is rest.all;
      space = rest.space ∙ or_assoc spaced (is_space t.kind) (has_space rest.blank);
    }
    of false is rest = record { blank = []; parts = refl; all = refl; space = sym (or-false spaced) }

-- what comes behind a compound: another one and what joins it, or spaces and comments alone
abbrev LinkFound : List Lexeme → Option Bool → List Lexeme → Type 0
LinkFound s None rest = Takes AreBlank s rest
LinkFound s (Some child) rest = Takes (λ g. IsCombinator g child) s rest

abbrev pub joined_by : Lexeme → List Lexeme → Bool → Bool → Option Bool × List Lexeme
joined_by t ts mark compound = cond mark (Some true, (spaces_at ts).1) (cond compound (Some false, t ∷ ts) (None, t ∷ ts))

spaces_at-found : (s : List Lexeme) → SpacesFound false s (spaces_at s)
unfolding spaces_at
spaces_at-found s = spaces-found false s

joint-found : (spaced : Bool) (s blank rest : List Lexeme) → s ≡ blank ++ rest → AreBlank blank → spaced ≡ has_space blank
    → LinkFound s (joint_at spaced rest).0 (joint_at spaced rest).1
joint-found spaced s blank [] parts all space = (blank, parts, all)
joint-found spaced s blank (t ∷ ts) parts all space = of (is_child_mark t.kind) refl spaced refl (begins_compound t.kind) refl
  where
    of : (mark : Bool) → is_child_mark t.kind ≡ mark → (has : Bool) → spaced ≡ has → (compound : Bool) → begins_compound t.kind ≡ compound
        → LinkFound s (joined_by t ts mark (has && compound)).0 (joined_by t ts mark (has && compound)).1
    of true marked has is_spaced compound is_compound =
        let more : SpacesFound false ts (spaces_at ts) = spaces_at-found ts in (
          blank ++ (t ∷ more.blank),
          parts ∙ ap (λ xs. blank ++ (t ∷ xs)) more.parts ∙ sym (append_assoc blank (t ∷ more.blank) (spaces_at ts).1),
          (blank, more.blank, t, refl, all, mark-kind 62 t.kind marked, more.all),
        )
    of false marked true is_spaced true is_compound = (blank, parts, (all, sym space ∙ is_spaced))
    of false marked true is_spaced false is_compound = (blank, parts, all)
    of false marked false is_spaced compound is_compound = (blank, parts, all)

link-found : (s : List Lexeme) → LinkFound s (link_at s).0 (link_at s).1
unfolding link_at
link-found s =
    let found : SpacesFound false s (spaces_at s) = spaces_at-found s in
    joint-found (spaces_at s).0 s found.blank (spaces_at s).1 found.parts found.all found.space

-- ---- selectors

pub record CompoundsFound (most : ℕ) (child : Bool) (s : List Lexeme) (compounds : List Compound) (rest : List Lexeme) : Type 0 where
  pub middle : List Lexeme
  pub behind : List Lexeme
  pub parts : s ≡ middle ++ (behind ++ rest)
  pub joined : AreCompounds middle compounds
  pub blank : AreBlank behind
  pub first : child_of_first compounds ≡ child
  pub few : length compounds ≤ most

-- one compound before those that were found
found-more : (most : ℕ) (child next_child : Bool) (s next behind rest : List Lexeme) (compound : Compound) (compounds : List Compound) → CompoundFound s child compound next
    → Takes (λ g. IsCombinator g next_child) next behind → CompoundsFound most next_child behind compounds rest → CompoundsFound (suc most) child s (compound ∷ compounds) rest
found-more most child next_child s next behind rest compound [] first link more = absurd more.joined
found-more most child next_child s next behind rest compound (second ∷ compounds) first link more =
    let a : List Lexeme = first.takes.0 in
    let g : List Lexeme = link.0 in
    record {
      middle = a ++ (g ++ more.middle);
      behind = more.behind;
      parts = first.takes.1 ∙ ap (λ xs. a ++ xs) (link.1 ∙ ap (λ xs. g ++ xs) more.parts ∙ sym (append_assoc g more.middle (more.behind ++ rest))) ∙ sym (append_assoc a (g ++ more.middle) (more.behind ++ rest));
      joined = (a, g, more.middle, refl, first.takes.2, subst (IsCombinator g) (sym more.first) link.2, more.joined);
      blank = more.blank;
      first = first.joined;
      few = omega (arith, more.few);
    }

found-last : (most : ℕ) (child : Bool) (s next rest : List Lexeme) (compound : Compound) → CompoundFound s child compound next → Takes AreBlank next rest
    → CompoundsFound (suc most) child s (compound ∷ []) rest
found-last most child s next rest compound first blank = record {
  middle = first.takes.0;
  behind = blank.0;
  parts = first.takes.1 ∙ ap (λ xs. first.takes.0 ++ xs) blank.1;
  joined = first.takes.2;
  blank = blank.2;
  first = first.joined;
  few = omega arith;
}

abbrev pub then_link : ℕ → Compound × List Lexeme → Read (List Compound)
then_link most compound = then_compounds (compounds_at most) compound.0 (link_at compound.1).0 (link_at compound.1).1

abbrev behind_one : Compound → List Compound × List Lexeme → Read (List Compound)
behind_one compound compounds = Ok (compound ∷ compounds.0, compounds.1)

pub compounds-found : (most : ℕ) (child : Bool) (s rest : List Lexeme) (compounds : List Compound) → Gave (compounds_at most child s) compounds rest → CompoundsFound most child s compounds rest
unfolding compounds_at
compounds-found zero child s rest compounds is = absurd (refused (Expected, s) compounds rest is)
compounds-found (suc most) child s rest compounds is =
    let first : (c : Compound × List Lexeme) × (compound_at child s ≡ Ok c) × (then_link most c ≡ Ok (compounds, rest)) = both (compound_at child s) (then_link most) compounds rest is in
    of first.0.0 first.0.1 (compound-found s first.0.1 child first.0.0 first.1) (link_at first.0.1).0 (link_at first.0.1).1 (link-found first.0.1) first.2 (compounds-found most)
  where
    of : (compound : Compound) (next : List Lexeme) → CompoundFound s child compound next → (link : Option Bool) (behind : List Lexeme) → LinkFound next link behind
        → Gave (then_compounds (compounds_at most) compound link behind) compounds rest
        → ((child : Bool) (s rest : List Lexeme) (compounds : List Compound) → Gave (compounds_at most child s) compounds rest → CompoundsFound most child s compounds rest)
        → CompoundsFound (suc most) child s compounds rest
    of compound next found None behind blank is again =
        let same : ((compound ∷ []) ≡ compounds) × (behind ≡ rest) = given (compound ∷ []) compounds behind rest is in
        subst (λ cs. CompoundsFound (suc most) child s cs rest) same.0 (found-last most child s next rest compound found (subst (λ r. Takes AreBlank next r) same.1 blank))
    of compound next found (Some next_child) behind link is again =
        let more : (cs : List Compound × List Lexeme) × (compounds_at most next_child behind ≡ Ok cs) × (behind_one compound cs ≡ Ok (compounds, rest)) =
        both (compounds_at most next_child behind) (behind_one compound) compounds rest is in
        let same : ((compound ∷ more.0.0) ≡ compounds) × (more.0.1 ≡ rest) = given (compound ∷ more.0.0) compounds more.0.1 rest more.2 in
        subst (λ cs. CompoundsFound (suc most) child s cs rest) same.0
        (subst (λ r. CompoundsFound (suc most) child s (compound ∷ more.0.0) r) same.1
        (found-more most child next_child s next behind more.0.1 compound more.0.0 found link (again next_child behind more.0.1 more.0.0 more.1)))

ended-found : (found compounds : List Compound) (s rest : List Lexeme) → Gave (ended found s) compounds rest → (found ≡ compounds) × (s ≡ []) × (rest ≡ [])
ended-found found compounds [] rest is =
    let same : (found ≡ compounds) × ([] ≡ rest) = given found compounds [] rest is in
    (same.0, refl, sym same.1)
ended-found found compounds (t ∷ s) rest is = absurd (refused (Expected, t ∷ s) compounds rest is)

pub selector-found : (s rest : List Lexeme) (compounds : List Compound) → Gave (selector_at s) compounds rest → CompoundsFound 16 false s compounds rest
unfolding selector_at
selector-found s rest compounds is = compounds-found 16 false s rest compounds is

-- what is read of a whole text is in the grammar
pub whole-found : (s rest : List Lexeme) (compounds : List Compound) → Gave (whole_at s) compounds rest → IsWhole s compounds
unfolding whole_at
whole-found s rest compounds is =
    let more : (cs : List Compound × List Lexeme) × (selector_at (spaces_at s).1 ≡ Ok cs) × (ended cs.0 cs.1 ≡ Ok (compounds, rest)) =
    both (selector_at (spaces_at s).1) (λ cs. ended cs.0 cs.1) compounds rest is in
    let last : (more.0.0 ≡ compounds) × (more.0.1 ≡ []) × (rest ≡ []) = ended-found more.0.0 compounds more.0.1 rest more.2 in
    let found : CompoundsFound 16 false (spaces_at s).1 more.0.0 more.0.1 = selector-found (spaces_at s).1 more.0.1 more.0.0 more.1 in
    let before : SpacesFound false s (spaces_at s) = spaces_at-found s in
    record {
      before = before.blank;
      middle = found.middle;
      behind = found.behind;
      parts = before.parts ∙ ap (λ xs. before.blank ++ xs) (found.parts ∙ ap (λ r. found.middle ++ (found.behind ++ r)) last.1 ∙ ap (λ xs. found.middle ++ xs) (append-nil found.behind));
      blank_before = before.all;
      selector = subst (IsSelector found.middle) last.0 (record { joined = found.joined; first = found.first; few = found.few });
      blank_behind = found.blank;
    }
