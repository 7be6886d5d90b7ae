-- The rules, variables and sheets that are read are in the grammar.
use Rattle.std.proofs.Common.{◌≡◌, ◌⊎◌, inl, inr, ℕ, zero, suc, ◌+◌, ◌≤◌, ◌<◌, Bool, true, false, cond, List, [], ◌∷◌, ◌++◌, length, drop, nat_lt, Result, Ok, Err, refl, ap, sym, ◌∙◌, subst, arith, append_assoc, length-append}
use Rattle.std.proofs.lemmas.List.{append-nil}
use Rattle.tx_text.specs.Name.{is_name}
use Rattle.tx_read.specs.Reading.{in_turn, Items}
use Rattle.tx_lex.specs.Lexemes.{Lexeme, is_variable, is_mark}
use Rattle.tx_lex.specs.declared.token.TokenKind.TheVariants.{Mark}
use Rattle.tx_lex.proofs.lemmas.TokenKinds.{mark-kind, variable-kind}
use Rattle.tx_select.specs.Grammar.{AreBlank, IsWhole}
use Rattle.tx_select.specs.Laws.{StandsBefore}
use Rattle.tx_select.specs.Lexemes.{begins_compound}
use Rattle.tx_select.specs.SelectorReading.{selector_at}
use Rattle.tx_select.specs.declared.fault.SelectKind.{SelectKind}
use Rattle.tx_select.specs.declared.value.Compound.{Compound}
use Rattle.tx_select.specs.SelectorValue.{SelectorValue}
use Rattle.tx_select.proofs.lemmas.SelectorLaws.{selectors-read}
use Rattle.tx_parse.specs.Grammar.{Body, nothing, IsValues, IsBody, AreSelectors, IsRule, IsVariable, Found, nothing_found, with_variable, with_rule, IsPart, IsSheet}
use Rattle.tx_lex.specs.Blanks.{past_blanks}
use Rattle.tx_parse.specs.SheetReading.{Read, give, met, expected, mark_at, values_at, body_at, kind_of, as_selector, spaced_selector_at, goes_on_at, then_selectors, selectors_from, selectors_at, rule_of, rule_at, definition_at, variable_in_sheet, rule_in_sheet, part_at, next_in_sheet, sheet_from, sheet_at, inline_at}
use Rattle.tx_parse.specs.Values.{RuleValue}
use Rattle.tx_parse.specs.Variables.{Defined}
use Rattle.tx_parse.specs.declared.fault.SheetKind.TheVariants.{Expected, TooManyRules}
use Rattle.tx_parse.specs.declared.fault.Wrong.{Wrong}
use Rattle.tx_read.proofs.lemmas.Cases.{Gave, given, refused, both as parts_of}
use Rattle.tx_parse.proofs.FoundBodies.{BodyFound, body_found, body_itself}
use Rattle.tx_parse.proofs.FoundValues.{Takes, past_found, MarkFound, mark_found, values_found, blank_behind}
use Rattle.tx_parse.proofs.Local.{wrong_of}
use Rattle.tx_parse.proofs.LocalSheets.{behind_variable, behind_rules}

-- ---- selectors

selector_found : (ts rest : List Lexeme) (s : SelectorValue) (read : Result (List Compound × List Lexeme) (SelectKind × List Lexeme)) → selector_at ts ≡ read → as_selector read ≡ Ok (s, rest) → StandsBefore ts s.compounds rest
selector_found ts rest s (Ok found) was is =
    let same : (record { compounds = found.0 } ≡ s) × (found.1 ≡ rest) = given (record { compounds = found.0 }) s found.1 rest is in
    (selectors-read ts s.compounds rest).0 (was ∙ ap (λ c. Ok (c, found.1)) (ap (λ (x : SelectorValue). x.compounds) same.0) ∙ ap (λ r. Ok (s.compounds, r)) same.1)
selector_found ts rest s (Err fault) was is = absurd (refused (wrong_of (kind_of fault.0), fault.1) s rest is)

spaced_found : (ts rest : List Lexeme) (s : SelectorValue) → spaced_selector_at ts ≡ Ok (s, rest) → Takes (λ a. IsWhole a s.compounds) ts rest
unfolding spaced_selector_at
spaced_found ts rest s is =
    let blank : Takes AreBlank ts (past_blanks ts) = past_found ts in
    let found : StandsBefore (past_blanks ts) s.compounds rest = selector_found (past_blanks ts) rest s (selector_at (past_blanks ts)) refl is in (
      blank.0 ++ (found.selector ++ found.behind),
      blank.1 ∙ ap (λ xs. blank.0 ++ xs) (found.parts ∙ sym (append_assoc found.selector found.behind rest)) ∙ sym (append_assoc blank.0 (found.selector ++ found.behind) rest),
      record { before = blank.0; middle = found.selector; behind = found.behind; parts = refl; blank_before = blank.2; selector = found.grammar; blank_behind = found.blank },
    )

abbrev GoesOn : List Lexeme → Bool → List Lexeme → Type 0
GoesOn ts true rest = (t : Lexeme) × (ts ≡ t ∷ rest) × (t.kind ≡ Mark 44)
GoesOn ts false rest = (t : Lexeme) × (ts ≡ t ∷ rest) × (t.kind ≡ Mark 123)

goes_on_found : (ts rest : List Lexeme) (b : Bool) → goes_on_at ts ≡ Ok (b, rest) → GoesOn ts b rest
unfolding goes_on_at
goes_on_found [] rest b is = absurd (refused (wrong_of Expected, []) b rest is)
goes_on_found (t ∷ ts) rest b is = of (is_mark 44 t.kind) refl (is_mark 123 t.kind) refl is
  where
    of : (comma : Bool) → is_mark 44 t.kind ≡ comma → (brace : Bool) → is_mark 123 t.kind ≡ brace → cond comma (Ok (true, ts)) (cond brace (Ok (false, ts)) (expected (t ∷ ts))) ≡ Ok (b, rest) → GoesOn (t ∷ ts) b rest
    of true comma brace braced is =
        let same : (true ≡ b) × (ts ≡ rest) = given true b ts rest is in
        subst (λ c. GoesOn (t ∷ ts) c rest) same.0 (t, ap (λ xs. t ∷ xs) same.1, mark-kind 44 t.kind comma)
    of false comma true braced is =
        let same : (false ≡ b) × (ts ≡ rest) = given false b ts rest is in
        subst (λ c. GoesOn (t ∷ ts) c rest) same.0 (t, ap (λ xs. t ∷ xs) same.1, mark-kind 123 t.kind braced)
    of false comma false braced is = absurd (refused (wrong_of Expected, t ∷ ts) b rest is)

pub record SelectorsFound (most : ℕ) (found : List SelectorValue) (ts : List Lexeme) (all : List SelectorValue) (rest : List Lexeme) : Type 0 where
  pub head : List Lexeme
  pub opening : Lexeme
  pub more : List SelectorValue
  pub parts : ts ≡ head ++ (opening ∷ rest)
  pub selectors : AreSelectors head more
  pub is_open : opening.kind ≡ Mark 123
  pub few : length more ≤ most
  pub together : all ≡ found ++ more

selectors_behind : (most : ℕ) (found all : List SelectorValue) (ts rest : List Lexeme) (mid behind : List Lexeme) (s : SelectorValue) → Takes (λ a. IsWhole a s.compounds) ts mid → GoesOn mid true behind
    → SelectorsFound most (found ++ (s ∷ [])) behind all rest → SelectorsFound (suc most) found ts all rest
selectors_behind most found all ts rest mid behind s first comma more = of more.more more.selectors more.few more.together
  where
    of : (others : List SelectorValue) → AreSelectors more.head others → length others ≤ most → all ≡ (found ++ (s ∷ [])) ++ others → SelectorsFound (suc most) found ts all rest
    of [] are few together = absurd are
    of (next ∷ others) are few together = record {
      head = first.0 ++ (comma.0 ∷ more.head);
      opening = more.opening;
      more = s ∷ next ∷ others;
      parts = first.1 ∙ ap (λ xs. first.0 ++ xs) (comma.1 ∙ ap (λ xs. comma.0 ∷ xs) more.parts) ∙ sym (append_assoc first.0 (comma.0 ∷ more.head) (more.opening ∷ rest));
      selectors = (first.0, more.head, comma.0, refl, comma.2, first.2, are);
      is_open = more.is_open;
      few = omega (arith, few);
      together = together ∙ append_assoc found (s ∷ []) (next ∷ others);
    }

selectors_from_found : (most : ℕ) (found all : List SelectorValue) (ts rest : List Lexeme) → selectors_from most found ts ≡ Ok (all, rest) → SelectorsFound most found ts all rest
unfolding selectors_from
selectors_from_found zero found all ts rest is = absurd (refused (wrong_of Expected, past_blanks ts) all rest is)
selectors_from_found (suc most) found all ts rest is =
    let first : (s : SelectorValue × List Lexeme) × (spaced_selector_at ts ≡ Ok s) × (in_turn goes_on_at (then_selectors (selectors_from most) (found ++ (s.0 ∷ []))) s.1 ≡ Ok (all, rest)) =
    parts_of (spaced_selector_at ts) (λ s. in_turn goes_on_at (then_selectors (selectors_from most) (found ++ (s.0 ∷ []))) s.1) all rest is in
    let second : (b : Bool × List Lexeme) × (goes_on_at first.0.1 ≡ Ok b) × (then_selectors (selectors_from most) (found ++ (first.0.0 ∷ [])) b.0 b.1 ≡ Ok (all, rest)) =
    parts_of (goes_on_at first.0.1) (λ b. then_selectors (selectors_from most) (found ++ (first.0.0 ∷ [])) b.0 b.1) all rest first.2 in
    of first.0.0 first.0.1 (spaced_found ts first.0.1 first.0.0 first.1) second.0.0 second.0.1 (goes_on_found first.0.1 second.0.1 second.0.0 second.1) second.2 (λ f next is. selectors_from_found most f all next rest is)
  where
    of : (s : SelectorValue) (mid : List Lexeme) → Takes (λ a. IsWhole a s.compounds) ts mid → (b : Bool) (behind : List Lexeme) → GoesOn mid b behind → then_selectors (selectors_from most) (found ++ (s ∷ [])) b behind ≡ Ok (all, rest)
        → ((f : List SelectorValue) (next : List Lexeme) → selectors_from most f next ≡ Ok (all, rest) → SelectorsFound most f next all rest) → SelectorsFound (suc most) found ts all rest
    of s mid first true behind comma is more = selectors_behind most found all ts rest mid behind s first comma (more (found ++ (s ∷ [])) behind is)
    of s mid first false behind brace is more =
        let same : (found ++ (s ∷ []) ≡ all) × (behind ≡ rest) = given (found ++ (s ∷ [])) all behind rest is in
        record {
          head = first.0;
          opening = brace.0;
          more = s ∷ [];
          parts = first.1 ∙ ap (λ xs. first.0 ++ xs) (brace.1 ∙ ap (λ xs. brace.0 ∷ xs) same.1);
          selectors = first.2;
          is_open = brace.2;
          few = omega arith;
          together = sym same.0;
        }

-- ---- rules

rule_found : (defined : Defined) (ts rest : List Lexeme) (rule : RuleValue × ℕ) → rule_at defined ts ≡ Ok (rule, rest) → Takes (λ a. IsRule defined a rule.0 rule.1) ts rest
unfolding rule_at selectors_at
rule_found defined ts rest rule is =
    let first : (s : List SelectorValue × List Lexeme) × (selectors_from 64 [] ts ≡ Ok s) × (in_turn (body_at false defined) (λ body. give (rule_of s.0 body)) s.1 ≡ Ok (rule, rest)) =
    parts_of (selectors_from 64 [] ts) (λ s. in_turn (body_at false defined) (λ body. give (rule_of s.0 body)) s.1) rule rest is in
    let second : (b : Body × List Lexeme) × (body_at false defined first.0.1 ≡ Ok b) × (Ok (rule_of first.0.0 b.0, b.1) ≡ Ok (rule, rest)) =
    parts_of (body_at false defined first.0.1) (λ b. Ok (rule_of first.0.0 b.0, b.1)) rule rest first.2 in
    of first.0.0 first.0.1 (selectors_from_found 64 [] first.0.0 ts first.0.1 first.1) second.0.0 second.0.1 (body_found false defined first.0.1 second.0.1 second.0.0 second.1) second.2
  where
    made : (selectors : List SelectorValue) (mid : List Lexeme) (body : Body) (behind : List Lexeme) (head : SelectorsFound 64 [] ts selectors mid) → (block : BodyFound false defined nothing mid body behind) → behind ≡ rest
        → Takes (λ a. IsRule defined a (rule_of selectors body).0 (rule_of selectors body).1) ts rest
    made selectors mid body behind head block same = (
      head.head ++ (head.opening ∷ (block.block ++ (block.ends.0 ∷ []))),
      head.parts ∙ ap (λ xs. head.head ++ (head.opening ∷ xs)) (block.ends.1 ∙ ap (λ r. block.block ++ (block.ends.0 ∷ r)) same ∙ sym (append_assoc block.block (block.ends.0 ∷ []) rest))
          ∙ sym (append_assoc head.head (head.opening ∷ (block.block ++ (block.ends.0 ∷ []))) rest),
      record {
        head = head.head;
        opening = head.opening;
        block = block.block;
        closing = block.ends.0;
        parts = refl;
        selectors = subst (AreSelectors head.head) (sym head.together) head.selectors;
        few = subst (λ (l : List SelectorValue). length l ≤ 64) (sym head.together) head.few;
        is_open = head.is_open;
        body = body_itself false defined mid behind body block;
        is_close = block.ends.2;
      },
    )

    of : (selectors : List SelectorValue) (mid : List Lexeme) (head : SelectorsFound 64 [] ts selectors mid) (body : Body) (behind : List Lexeme) → (block : BodyFound false defined nothing mid body behind) → Gave {F = Wrong} (Ok (rule_of selectors body, behind)) rule rest
        → Takes (λ a. IsRule defined a rule.0 rule.1) ts rest
    of selectors mid head body behind block is =
        let same : (rule_of selectors body ≡ rule) × (behind ≡ rest) = given (rule_of selectors body) rule behind rest is in
        subst (λ (r : RuleValue × ℕ). Takes (λ a. IsRule defined a r.0 r.1) ts rest) same.0 (made selectors mid body behind head block same.1)

-- ---- variables

record DefinitionFound (defined : Defined) (ts stand rest : List Lexeme) : Type 0 where
  gap : List Lexeme
  colon : Lexeme
  values : List Lexeme
  end : Lexeme
  parts : ts ≡ gap ++ (colon ∷ (values ++ (end ∷ rest)))
  blank : AreBlank gap
  is_colon : colon.kind ≡ Mark 58
  are_values : IsValues defined values stand
  is_end : end.kind ≡ Mark 59

abbrev then_stand : Defined → Lexeme × List Lexeme → Read (List Lexeme)
then_stand defined found = in_turn (values_at defined) (λ stand. in_turn (mark_at 59) (λ end. give stand)) found.1

abbrev then_end : List Lexeme × List Lexeme → Read (List Lexeme)
then_end found = in_turn (mark_at 59) (λ end. give found.0) found.1

definition_found : (defined : Defined) (ts stand rest : List Lexeme) → definition_at defined ts ≡ Ok (stand, rest) → DefinitionFound defined ts stand rest
unfolding definition_at
definition_found defined ts stand rest is =
    let one : (c : Lexeme × List Lexeme) × (mark_at 58 ts ≡ Ok c) × (then_stand defined c ≡ Ok (stand, rest)) = parts_of (mark_at 58 ts) (then_stand defined) stand rest is in
    let two : (v : List Lexeme × List Lexeme) × (values_at defined one.0.1 ≡ Ok v) × (then_end v ≡ Ok (stand, rest)) = parts_of (values_at defined one.0.1) then_end stand rest one.2 in
    let three : (e : Lexeme × List Lexeme) × (mark_at 59 two.0.1 ≡ Ok e) × (Ok (two.0.0, e.1) ≡ Ok (stand, rest)) = parts_of (mark_at 59 two.0.1) (λ e. Ok (two.0.0, e.1)) stand rest two.2 in
    let same : (two.0.0 ≡ stand) × (three.0.1 ≡ rest) = given two.0.0 stand three.0.1 rest three.2 in
    let colon : MarkFound 58 ts one.0.0 one.0.1 = mark_found 58 ts one.0.1 one.0.0 one.1 in
    let values : Takes (λ a. IsValues defined a two.0.0) one.0.1 two.0.1 = values_found defined one.0.1 two.0.0 two.0.1 two.1 in
    let end : MarkFound 59 two.0.1 three.0.0 three.0.1 = mark_found 59 two.0.1 three.0.1 three.0.0 three.1 in
    record {
      gap = colon.gap;
      colon = one.0.0;
      values = values.0 ++ end.gap;
      end = three.0.0;
      parts = colon.parts ∙ ap (λ xs. colon.gap ++ (one.0.0 ∷ xs)) (values.1 ∙ ap (λ xs. values.0 ++ xs) (end.parts ∙ ap (λ r. end.gap ++ (three.0.0 ∷ r)) same.1) ∙ sym (append_assoc values.0 end.gap (three.0.0 ∷ rest)));
      blank = colon.blank;
      is_colon = colon.is_mark;
      are_values = subst (IsValues defined (values.0 ++ end.gap)) same.0 (blank_behind defined values.0 end.gap two.0.0 end.blank values.2);
      is_end = end.is_mark;
    }

variable_found : (found next : Found) (t : Lexeme) (ts rest : List Lexeme) → is_variable t.kind ≡ true → variable_in_sheet found (t ∷ ts) ≡ Ok (next, rest)
    → (name : List ℕ) × (stand : List Lexeme) × Takes (λ a. IsVariable found.defined a name stand) (t ∷ ts) rest × (next ≡ with_variable name stand found)
unfolding variable_in_sheet
variable_found found next t ts rest variable is = of (is_name (drop 1 t.bytes)) refl is
  where
    of : (named : Bool) → is_name (drop 1 t.bytes) ≡ named → cond named (behind_variable found t ts) (expected (t ∷ ts)) ≡ Ok (next, rest)
        → (name : List ℕ) × (stand : List Lexeme) × Takes (λ a. IsVariable found.defined a name stand) (t ∷ ts) rest × (next ≡ with_variable name stand found)
    of true named is =
        let one : (s : List Lexeme × List Lexeme) × (definition_at found.defined ts ≡ Ok s) × (Ok (with_variable (drop 1 t.bytes) s.0 found, s.1) ≡ Ok (next, rest)) =
        parts_of (definition_at found.defined ts) (λ s. Ok (with_variable (drop 1 t.bytes) s.0 found, s.1)) next rest is in
        let same : (with_variable (drop 1 t.bytes) one.0.0 found ≡ next) × (one.0.1 ≡ rest) = given (with_variable (drop 1 t.bytes) one.0.0 found) next one.0.1 rest one.2 in
        let has : DefinitionFound found.defined ts one.0.0 one.0.1 = definition_found found.defined ts one.0.0 one.0.1 one.1 in (
          drop 1 t.bytes,
          one.0.0,
          (
            t ∷ (has.gap ++ (has.colon ∷ (has.values ++ (has.end ∷ [])))),
            ap (λ xs. t ∷ xs) (has.parts ∙ ap (λ r. has.gap ++ (has.colon ∷ (has.values ++ (has.end ∷ r)))) same.1 ∙ ap (λ xs. has.gap ++ (has.colon ∷ xs)) (sym (append_assoc has.values (has.end ∷ []) rest))
                ∙ sym (append_assoc has.gap (has.colon ∷ (has.values ++ (has.end ∷ []))) rest)),
            record {
              token = t;
              gap = has.gap;
              colon = has.colon;
              values = has.values;
              end = has.end;
              parts = refl;
              is_variable = variable-kind t.kind variable;
              named = refl;
              is_name = named;
              blank = has.blank;
              is_colon = has.is_colon;
              are_values = has.are_values;
              is_end = has.is_end;
            },
          ),
          sym same.0,
        )
    of false named is = absurd (refused (wrong_of Expected, t ∷ ts) next rest is)

-- ---- parts

abbrev PartFound : Found → List Lexeme → Found → List Lexeme → Type 0
PartFound found ts next rest =
    ((name : List ℕ) × (stand : List Lexeme) × Takes (λ a. IsVariable found.defined a name stand) ts rest × (next ≡ with_variable name stand found))
    ⊎ ((rule : RuleValue) × (written : ℕ) × Takes (λ a. IsRule found.defined a rule written) ts rest × (next ≡ with_rule rule written found) × (length found.rules < 10000))

below : (n : ℕ) → nat_lt n 10000 ≡ true → n < 10000
below n less = grind (arith, less)

rules_found : (found next : Found) (ts rest : List Lexeme) → rule_in_sheet found ts ≡ Ok (next, rest) → PartFound found ts next rest
unfolding rule_in_sheet
rules_found found next ts rest is = of (nat_lt (length found.rules) 10000) refl is
  where
    of : (fewer : Bool) → nat_lt (length found.rules) 10000 ≡ fewer → cond fewer (behind_rules found ts) (met TooManyRules ts) ≡ Ok (next, rest) → PartFound found ts next rest
    of true fewer is =
        let one : (r : (RuleValue × ℕ) × List Lexeme) × (rule_at found.defined ts ≡ Ok r) × (Ok (with_rule r.0.0 r.0.1 found, r.1) ≡ Ok (next, rest)) =
        parts_of (rule_at found.defined ts) (λ r. Ok (with_rule r.0.0 r.0.1 found, r.1)) next rest is in
        let same : (with_rule one.0.0.0 one.0.0.1 found ≡ next) × (one.0.1 ≡ rest) = given (with_rule one.0.0.0 one.0.0.1 found) next one.0.1 rest one.2 in
        inr (one.0.0.0, one.0.0.1, subst (λ r. Takes (λ a. IsRule found.defined a one.0.0.0 one.0.0.1) ts r) same.1 (rule_found found.defined ts one.0.1 one.0.0 one.1), sym same.0, below (length found.rules) fewer)
    of false fewer is = absurd (refused (wrong_of TooManyRules, ts) next rest is)

part_found : (found next : Found) (ts rest : List Lexeme) → part_at found ts ≡ Ok (next, rest) → PartFound found ts next rest
unfolding part_at
part_found found next [] rest is = absurd (refused (wrong_of Expected, []) next rest is)
part_found found next (t ∷ ts) rest is = of (is_variable t.kind) refl (begins_compound t.kind) is
  where
    of : (variable : Bool) → is_variable t.kind ≡ variable → (rule : Bool) → cond variable (variable_in_sheet found (t ∷ ts)) (cond rule (rule_in_sheet found (t ∷ ts)) (expected (t ∷ ts))) ≡ Ok (next, rest) → PartFound found (t ∷ ts) next rest
    of true variable rule is = inl (variable_found found next t ts rest variable is)
    of false variable true is = rules_found found next (t ∷ ts) rest is
    of false variable false is = absurd (refused (wrong_of Expected, t ∷ ts) next rest is)

-- ---- sheets

record SheetFound (found : Found) (ts : List Lexeme) (all : Found) (rest : List Lexeme) : Type 0 where
  pieces : List (List Lexeme)
  behind : List Lexeme
  parts : Items IsPart (found, ts) pieces (all, behind)
  blank : AreBlank behind
  few : length found.rules ≤ 10000 → length all.rules ≤ 10000
  whole : rest ≡ []

-- one part before those that were found
part_before : (found next all : Found) (ts here mid rest : List Lexeme) → Takes AreBlank ts here → PartFound found here next mid → SheetFound next mid all rest → SheetFound found ts all rest
part_before found next all ts here mid rest blank (inl has) more = record {
  pieces = (blank.0 ++ has.2.0) ∷ more.pieces;
  behind = more.behind;
  parts = (
    (next, mid),
    (
      record {
        before = blank.0;
        part = has.2.0;
        parts = refl;
        blank = blank.2;
        rest = blank.1 ∙ ap (λ xs. blank.0 ++ xs) has.2.1 ∙ sym (append_assoc blank.0 has.2.0 mid);
        found = inl (has.0, has.1, has.2.2, has.3);
      },
      more.parts,
    ),
  );
  blank = more.blank;
  few = λ few. more.few (subst (λ (f : Found). length f.rules ≤ 10000) (sym has.3) few);
  whole = more.whole;
}
part_before found next all ts here mid rest blank (inr has) more = record {
  pieces = (blank.0 ++ has.2.0) ∷ more.pieces;
  behind = more.behind;
  parts = (
    (next, mid),
    (
      record {
        before = blank.0;
        part = has.2.0;
        parts = refl;
        blank = blank.2;
        rest = blank.1 ∙ ap (λ xs. blank.0 ++ xs) has.2.1 ∙ sym (append_assoc blank.0 has.2.0 mid);
        found = inr (has.0, has.1, has.2.2, has.3);
      },
      more.parts,
    ),
  );
  blank = more.blank;
  few = λ few. more.few (subst (λ (f : Found). length f.rules ≤ 10000) (sym has.3) (one_more (length found.rules) (length (found.rules ++ (has.0 ∷ []))) has.4 (length-append found.rules (has.0 ∷ []))));
  whole = more.whole;
}
  where
    one_more : (n m : ℕ) → n < 10000 → m ≡ n + 1 → m ≤ 10000
    one_more n m less sized = omega (arith, less, sized)

sheet_from_found : (n : ℕ) (found all : Found) (ts rest : List Lexeme) → sheet_from n found ts ≡ Ok (all, rest) → SheetFound found ts all rest
unfolding sheet_from
sheet_from_found zero found all ts rest is = absurd (refused (wrong_of Expected, ts) all rest is)
sheet_from_found (suc n) found all ts rest is = of (past_blanks ts) (past_found ts) is (λ next mid is. sheet_from_found n next all mid rest is)
  where
    of : (here : List Lexeme) → Takes AreBlank ts here → next_in_sheet (sheet_from n) found here ≡ Ok (all, rest) → ((next : Found) (mid : List Lexeme) → sheet_from n next mid ≡ Ok (all, rest) → SheetFound next mid all rest) → SheetFound found ts all rest
    of [] blank is more =
        let same : (found ≡ all) × ([] ≡ rest) = given found all [] rest is in
        record {
          pieces = [];
          behind = ts;
          parts = ap (λ f. (f, ts)) same.0;
          blank = subst AreBlank (sym (blank.1 ∙ append-nil blank.0)) blank.2;
          few = subst (λ (f : Found). length f.rules ≤ 10000) same.0;
          whole = sym same.1;
        }
    of (t ∷ here) blank is more =
        let first : (p : Found × List Lexeme) × (part_at found (t ∷ here) ≡ Ok p) × (sheet_from n p.0 p.1 ≡ Ok (all, rest)) = parts_of (part_at found (t ∷ here)) (λ p. sheet_from n p.0 p.1) all rest is in
        part_before found first.0.0 all ts (t ∷ here) first.0.1 rest blank (part_found found first.0.0 (t ∷ here) first.0.1 first.1) (more first.0.0 first.0.1 first.2)

-- a sheet that is read is in the grammar, and nothing is left of it
pub sheet_found : (ts rest : List Lexeme) (found : Found) → sheet_at ts ≡ Ok (found, rest) → IsSheet ts found × (rest ≡ [])
unfolding sheet_at
sheet_found ts rest found is =
    let has : SheetFound nothing_found ts found rest = sheet_from_found (suc (length ts)) nothing_found found ts rest is in
    (record { pieces = has.pieces; behind = has.behind; parts = has.parts; blank = has.blank; few = has.few (omega arith) }, has.whole)

pub inline_found : (ts rest : List Lexeme) (body : Body) → inline_at ts ≡ Ok (body, rest) → IsBody [] ts body × (rest ≡ [])
unfolding inline_at
inline_found ts rest body is =
    let has : BodyFound true [] nothing ts body rest = body_found true [] ts rest body is in
    (subst (λ xs. IsBody [] xs body) (sym has.ends.0) (body_itself true [] ts rest body has), has.ends.1)
