-- What is in the grammar is read.
use Rattle.std.proofs.Common.{◌≡◌, ℕ, zero, suc, ◌≤◌, Bool, true, false, cond, ◌&&◌, ◌||◌, nat_eq, List, [], ◌∷◌, ◌++◌, length, Option, Some, None, Ok, refl, ap, sym, ◌∙◌, arith, append_assoc}
use Rattle.std.proofs.Math.Bool.{or-false, or_assoc}
use Rattle.std.proofs.lemmas.Bool.{and_parts, and_right, or_parts}
use Rattle.std.proofs.lemmas.Bool.Decides.{nat_tests}
use Rattle.std.proofs.lemmas.List.{append-nil}
use Rattle.tx_lex.specs.declared.token.TokenKind.{TokenKind}
use Rattle.tx_lex.specs.declared.token.TokenKind.TheVariants.{Space, Comment, Name, Hash, Variable, Number, Mark}
use Rattle.tx_read.specs.Reading.{◌>>=◌}
use Rattle.tx_lex.specs.Lexemes.{Lexeme, is_space, is_name_token, is_mark, is_blank, first_is}
use Rattle.tx_select.specs.Lexemes.{is_child_mark, begins_part, begins_compound, goes_on}
use Rattle.tx_select.specs.Grammar.{AreBlank, has_space, IsCombinator, AreCompounds, child_of_first, IsWhole}
use Rattle.tx_select.specs.SelectorReading.{compound_at, spaces_behind, spaces_at, joint_at, link_at, then_compounds, compounds_at, selector_at, ended, whole_at}
use Rattle.tx_select.specs.Laws.{StandsBefore}
use Rattle.tx_select.specs.declared.value.Compound.{Compound}
use Rattle.tx_select.proofs.Again.{compound-again, compound-begins}
use Rattle.tx_select.proofs.FoundWhole.{joined_by, then_link}

-- ---- kinds

compound-only : (kind : TokenKind) → begins_compound kind ≡ true → (is_blank kind ≡ false) × (is_child_mark kind ≡ false)
compound-only Name is = (refl, refl)
compound-only Hash is = (refl, refl)
compound-only (Mark mark) is = (refl, other mark is)
  where
    other : (mark : ℕ) → (nat_eq mark 42 || (nat_eq mark 46 || nat_eq mark 58)) ≡ true → nat_eq mark 62 ≡ false
    other mark is = grind (arith, nat_tests)
compound-only Space is = absurd (let clash : false ≡ true = is in cc)
compound-only Comment is = absurd (let clash : false ≡ true = is in cc)
compound-only Variable is = absurd (let clash : false ≡ true = is in cc)
compound-only Number is = absurd (let clash : false ≡ true = is in cc)

blank-only : (kind : TokenKind) → is_blank kind ≡ true → begins_part kind ≡ false
blank-only Space is = refl
blank-only Comment is = refl
blank-only Name is = absurd (let clash : false ≡ true = is in cc)
blank-only Hash is = absurd (let clash : false ≡ true = is in cc)
blank-only (Mark mark) is = absurd (let clash : false ≡ true = is in cc)
blank-only Variable is = absurd (let clash : false ≡ true = is in cc)
blank-only Number is = absurd (let clash : false ≡ true = is in cc)

first-only : (x : List Lexeme) → first_is begins_compound x ≡ true → (first_is is_blank x ≡ false) × (first_is is_child_mark x ≡ false)
first-only [] is = absurd (let clash : false ≡ true = is in cc)
first-only (t ∷ ts) is = compound-only t.kind is

-- where no selector goes on
record Ends (rest : List Lexeme) : Type 0 where
  blank : first_is is_blank rest ≡ false
  child : first_is is_child_mark rest ≡ false
  compound : first_is begins_compound rest ≡ false
  part : first_is begins_part rest ≡ false

ends : (rest : List Lexeme) → first_is goes_on rest ≡ false → Ends rest
ends [] is = record { blank = refl; child = refl; compound = refl; part = refl }
ends (t ∷ ts) is =
    let outer : ((is_blank t.kind || is_child_mark t.kind) ≡ false) × (begins_compound t.kind ≡ false) = or_parts (is_blank t.kind || is_child_mark t.kind) (begins_compound t.kind) is in
    let inner : (is_blank t.kind ≡ false) × (is_child_mark t.kind ≡ false) = or_parts (is_blank t.kind) (is_child_mark t.kind) outer.0 in
    record { blank = inner.0; child = inner.1; compound = outer.1; part = (or_parts (is_name_token t.kind || is_mark 42 t.kind) (begins_part t.kind) outer.1).1 }

-- ---- spaces and comments

spaces-again : (blank rest : List Lexeme) (spaced : Bool) → AreBlank blank → first_is is_blank rest ≡ false → spaces_behind spaced (blank ++ rest) ≡ (spaced || has_space blank, rest)
spaces-again [] [] spaced all none = ap (λ b. (b, [])) (sym (or-false spaced))
spaces-again [] (t ∷ ts) spaced all none =
    ap (λ b. cond b (spaces_behind (spaced || is_space t.kind) ts) (spaced, t ∷ ts)) none ∙ ap (λ b. (b, t ∷ ts)) (sym (or-false spaced))
spaces-again (t ∷ blank) rest spaced all none =
    let parts : (is_blank t.kind ≡ true) × AreBlank blank = and_parts (is_blank t.kind) _ all in
    ap (λ b. cond b (spaces_behind (spaced || is_space t.kind) (blank ++ rest)) (spaced, t ∷ (blank ++ rest))) parts.0
    ∙ spaces-again blank rest (spaced || is_space t.kind) parts.1 none
    ∙ ap (λ b. (b, rest)) (or_assoc spaced (is_space t.kind) (has_space blank))

spaces_at-again : (blank rest : List Lexeme) → AreBlank blank → first_is is_blank rest ≡ false → spaces_at (blank ++ rest) ≡ (has_space blank, rest)
unfolding spaces_at
spaces_at-again blank rest all none = spaces-again blank rest false all none

-- ---- what stands between compounds

joint-end : (rest : List Lexeme) (spaced : Bool) → Ends rest → joint_at spaced rest ≡ (None, rest)
joint-end [] spaced end = refl
joint-end (t ∷ ts) spaced end =
    ap (λ mark. joined_by t ts mark (spaced && begins_compound t.kind)) end.child
    ∙ ap (λ compound. joined_by t ts false compound) (and_right spaced (begins_compound t.kind) end.compound)

link-end : (blank rest : List Lexeme) → AreBlank blank → Ends rest → link_at (blank ++ rest) ≡ (None, rest)
unfolding link_at
link-end blank rest all end =
    ap (λ (p : Bool × List Lexeme). joint_at p.0 p.1) (spaces_at-again blank rest all end.blank) ∙ joint-end rest (has_space blank) end

joint-descendant : (x : List Lexeme) (spaced : Bool) → spaced ≡ true → first_is begins_compound x ≡ true → joint_at spaced x ≡ (Some false, x)
joint-descendant [] spaced is begins = absurd (let clash : false ≡ true = begins in cc)
joint-descendant (t ∷ ts) spaced is begins =
    ap (λ mark. joined_by t ts mark (spaced && begins_compound t.kind)) (compound-only t.kind begins).1
    ∙ ap (λ s. joined_by t ts false (s && begins_compound t.kind)) is
    ∙ ap (λ compound. joined_by t ts false compound) begins

link-joined : (g x : List Lexeme) (child : Bool) → IsCombinator g child → first_is begins_compound x ≡ true → link_at (g ++ x) ≡ (Some child, x)
unfolding link_at
link-joined g x false is begins =
    ap (λ (p : Bool × List Lexeme). joint_at p.0 p.1) (spaces_at-again g x is.0 (first-only x begins).0) ∙ joint-descendant x (has_space g) is.1 begins
link-joined g x true is begins =
    let a : List Lexeme = is.0 in
    let b : List Lexeme = is.1 in
    let t : Lexeme = is.2 in
    let split : g ++ x ≡ a ++ (t ∷ (b ++ x)) = ap (λ xs. xs ++ x) is.3 ∙ append_assoc a (t ∷ b) x in
    ap (λ xs. joint_at (spaces_at xs).0 (spaces_at xs).1) split
    ∙ ap (λ (p : Bool × List Lexeme). joint_at p.0 p.1) (spaces_at-again a (t ∷ (b ++ x)) is.4 (ap is_blank is.5))
    ∙ ap (λ k. joined_by t (b ++ x) (is_child_mark k) (has_space a && begins_compound k)) is.5
    ∙ ap (λ (p : Bool × List Lexeme). (Some true, p.1)) (spaces_at-again b x is.6 (first-only x begins).0)

-- no part begins with it
blank-parts : (blank rest : List Lexeme) → AreBlank blank → first_is begins_part rest ≡ false → first_is begins_part (blank ++ rest) ≡ false
blank-parts [] rest all none = none
blank-parts (t ∷ blank) rest all none = blank-only t.kind (and_parts (is_blank t.kind) _ all).0

joined-parts : (g x : List Lexeme) (child : Bool) → IsCombinator g child → first_is begins_part (g ++ x) ≡ false
joined-parts [] x false is = absurd (let clash : false ≡ true = is.1 in cc)
joined-parts (t ∷ g) x false is = blank-only t.kind (and_parts (is_blank t.kind) _ is.0).0
joined-parts g x true is =
    ap (first_is begins_part) (ap (λ xs. xs ++ x) is.3 ∙ append_assoc is.0 (is.2 ∷ is.1) x)
    ∙ blank-parts is.0 (is.2 ∷ (is.1 ++ x)) is.4 (ap begins_part is.5)

-- ---- selectors

compounds-begin : (s rest : List Lexeme) (compounds : List Compound) → AreCompounds s compounds → first_is begins_compound (s ++ rest) ≡ true
compounds-begin s rest [] is = absurd is
compounds-begin s rest (compound ∷ []) is = compound-begins s rest compound is
compounds-begin s rest (compound ∷ next ∷ compounds) is =
    ap (first_is begins_compound) (ap (λ xs. xs ++ rest) is.3 ∙ append_assoc is.0 (is.1 ++ is.2) rest)
    ∙ compound-begins is.0 ((is.1 ++ is.2) ++ rest) compound is.4

compounds-step : (most : ℕ) (child : Bool) (s : List Lexeme) (compound : Compound) (behind : List Lexeme) (link : Option Bool × List Lexeme) → compound_at child s ≡ Ok (compound, behind) → link_at behind ≡ link
    → compounds_at (suc most) child s ≡ then_compounds (compounds_at most) compound link.0 link.1
unfolding compounds_at
compounds-step most child s compound behind link is joins =
    ap (λ r. r >>= then_link most) is ∙ ap (λ (l : Option Bool × List Lexeme). then_compounds (compounds_at most) compound l.0 l.1) joins

compounds-again : (most : ℕ) (compounds : List Compound) (s behind rest : List Lexeme) → length compounds ≤ most → AreCompounds s compounds → AreBlank behind → Ends rest
    → compounds_at most (child_of_first compounds) (s ++ (behind ++ rest)) ≡ Ok (compounds, rest)
compounds-again most [] s behind rest few is blank end = absurd is
compounds-again zero (compound ∷ compounds) s behind rest few is blank end = absurd (omega (arith, few))
compounds-again (suc most) (compound ∷ []) s behind rest few is blank end =
    compounds-step most compound.child (s ++ (behind ++ rest)) compound (behind ++ rest) (None, rest)
    (compound-again s (behind ++ rest) compound is (blank-parts behind rest blank end.part)) (link-end behind rest blank end)
compounds-again (suc most) (compound ∷ next ∷ compounds) s behind rest few is blank end =
    let a : List Lexeme = is.0 in
    let g : List Lexeme = is.1 in
    let b : List Lexeme = is.2 in
    let x : List Lexeme = b ++ (behind ++ rest) in
    let split : s ++ (behind ++ rest) ≡ a ++ (g ++ x) =
    ap (λ xs. xs ++ (behind ++ rest)) is.3 ∙ append_assoc a (g ++ b) (behind ++ rest) ∙ ap (λ xs. a ++ xs) (append_assoc g b (behind ++ rest)) in
    compounds-step most compound.child (s ++ (behind ++ rest)) compound (g ++ x) (Some next.child, x)
    (ap (compound_at compound.child) split ∙ compound-again a (g ++ x) compound is.4 (joined-parts g x next.child is.5))
    (link-joined g x next.child is.5 (compounds-begin b (behind ++ rest) (next ∷ compounds) is.6))
    ∙ ap (λ r. r >>= (λ found. Ok (compound ∷ found.0, found.1))) (compounds-again most (next ∷ compounds) b behind rest (omega (arith, few)) is.6 blank end)

pub selector-again : (ts rest : List Lexeme) (compounds : List Compound) → StandsBefore ts compounds rest → first_is goes_on rest ≡ false → selector_at ts ≡ Ok (compounds, rest)
unfolding selector_at
selector-again ts rest compounds stands none =
    ap (compounds_at 16 false) stands.parts
    ∙ ap (λ child. compounds_at 16 child (stands.selector ++ (stands.behind ++ rest))) (sym stands.grammar.first)
    ∙ compounds-again 16 compounds stands.selector stands.behind rest stands.grammar.few stands.grammar.joined stands.blank (ends rest none)

pub whole-again : (ts : List Lexeme) (compounds : List Compound) → IsWhole ts compounds → whole_at ts ≡ Ok (compounds, [])
unfolding whole_at
whole-again ts compounds is =
    let stands : StandsBefore (is.middle ++ is.behind) compounds [] = record {
      selector = is.middle;
      behind = is.behind;
      parts = ap (λ xs. is.middle ++ xs) (sym (append-nil is.behind));
      grammar = is.selector;
      blank = is.blank_behind;
    } in
    let begins : first_is is_blank (is.middle ++ is.behind) ≡ false =
    (first-only (is.middle ++ is.behind) (compounds-begin is.middle is.behind compounds is.selector.joined)).0 in
    ap (λ s. selector_at (spaces_at s).1 >>= (λ found. ended found.0 found.1)) is.parts
    ∙ ap (λ (p : Bool × List Lexeme). selector_at p.1 >>= (λ found. ended found.0 found.1)) (spaces_at-again is.before (is.middle ++ is.behind) is.blank_before begins)
    ∙ ap (λ r. r >>= (λ found. ended found.0 found.1)) (selector-again (is.middle ++ is.behind) [] compounds stands refl)
