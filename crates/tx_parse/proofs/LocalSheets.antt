-- The same of rules, variables and sheets.
use Rattle.std.proofs.Common.{◌≡◌, ℕ, zero, suc, ◌≤◌, ◌<◌, Bool, true, false, cond, List, [], ◌∷◌, ◌++◌, length, drop, nat_lt, Result, Ok, Err, refl, ap, subst, arith}
use Rattle.tx_text.specs.Name.{is_name}
use Rattle.tx_read.specs.Reading.{in_turn}
use Rattle.tx_read.proofs.lemmas.LocalReaders.{Plain, turn, same, Step, Take, Leave, Refuse, stepped, by_first, first-plain, give-plain}
use Rattle.tx_lex.specs.Lexemes.{Lexeme, is_variable, is_mark}
use Rattle.tx_select.specs.Lexemes.{begins_compound}
use Rattle.tx_select.specs.SelectorReading.{selector_at}
use Rattle.tx_select.specs.declared.fault.SelectKind.{SelectKind}
use Rattle.tx_select.specs.declared.value.Compound.{Compound}
use Rattle.tx_select.specs.SelectorValue.{SelectorValue}
use Rattle.tx_select.proofs.lemmas.SelectorLaws.{selectors-local}
use Rattle.tx_parse.specs.Grammar.{Found, nothing_found, with_variable, with_rule}
use Rattle.tx_lex.specs.Blanks.{past_blanks}
use Rattle.tx_parse.specs.SheetReading.{Reads, met, expected, give, mark_at, values_at, body_at, kind_of, as_selector, spaced_selector_at, goes_on_at, then_selectors, selectors_from, selectors_at, rule_of, rule_at, definition_at, variable_in_sheet, rule_in_sheet, part_at, next_in_sheet, sheet_from, sheet_at}
use Rattle.tx_parse.specs.Values.{RuleValue}
use Rattle.tx_parse.specs.Variables.{Defined}
use Rattle.tx_parse.specs.declared.fault.SheetKind.TheVariants.{Expected, TooManyRules}
use Rattle.tx_parse.specs.declared.fault.Wrong.{Wrong}
use Rattle.tx_read.proofs.lemmas.Cases.{given, refused, both}
use Rattle.tx_parse.proofs.Local.{wrong_of, met-plain, expected-plain, spaced-plain, mark-plain, values-plain}
use Rattle.tx_parse.proofs.LocalBodies.{turn_same, IsEnough, fuelled-plain, past_shorter, body-plain}
use Rattle.tx_parse.proofs.Scans.{plain_shorter, mapped, mapped-plain}

-- ---- selectors

selector-plain : Plain selector_at
selector-plain = record { local = selectors-local.0; leaves = selectors-local.1 }

abbrev selector_of : List Compound → SelectorValue
selector_of compounds = record { compounds = compounds }

abbrev wrong_in : SelectKind → Wrong
wrong_in kind = wrong_of (kind_of kind)

spaced_selector-plain : Plain spaced_selector_at
unfolding spaced_selector_at
spaced_selector-plain = spaced-plain (λ ts. as_selector (selector_at ts)) (same (λ ts. as_selector (selector_at ts)) (λ ts. mapped selector_of wrong_in (selector_at ts)) (λ ts. of (selector_at ts)) (mapped-plain selector_of wrong_in selector_at selector-plain))
  where
    of : (read : Result (List Compound × List Lexeme) (SelectKind × List Lexeme)) → as_selector read ≡ mapped selector_of wrong_in read
    of (Ok found) = refl
    of (Err fault) = refl

goes_on_step : Lexeme → Step Wrong Bool
goes_on_step t = cond (is_mark 44 t.kind) (Take true) (cond (is_mark 123 t.kind) (Take false) (Refuse (wrong_of Expected)))

goes_on-plain : Plain goes_on_at
unfolding goes_on_at goes_on_step
goes_on-plain = same goes_on_at (by_first (Err (wrong_of Expected)) goes_on_step) of (first-plain (Err (wrong_of Expected)) goes_on_step)
  where
    chosen : (t : Lexeme) (ts : List Lexeme) (comma brace : Bool) → cond comma (Ok (true, ts)) (cond brace (Ok (false, ts)) (expected (t ∷ ts))) ≡ stepped t ts (cond comma (Take true) (cond brace (Take false) (Refuse (wrong_of Expected))))
    chosen t ts true brace = refl
    chosen t ts false true = refl
    chosen t ts false false = refl

    of : (ts : List Lexeme) → goes_on_at ts ≡ by_first (Err (wrong_of Expected)) goes_on_step ts
    of [] = refl
    of (t ∷ ts) = chosen t ts (is_mark 44 t.kind) (is_mark 123 t.kind)

then-plain : (more : List SelectorValue → Reads (List SelectorValue)) → ((found : List SelectorValue) → Plain (more found)) → (found : List SelectorValue) (b : Bool) → Plain (then_selectors more found b)
then-plain more plain found true = plain found
then-plain more plain found false = give-plain found

abbrev behind_selector : ℕ → List SelectorValue → SelectorValue → Reads (List SelectorValue)
behind_selector n found selector = in_turn goes_on_at (then_selectors (selectors_from n) (found ++ (selector ∷ [])))

selectors_from-plain : (n : ℕ) (found : List SelectorValue) → Plain (selectors_from n found)
unfolding selectors_from
selectors_from-plain zero found = spaced-plain expected expected-plain
selectors_from-plain (suc n) found = turn spaced_selector_at (behind_selector n found) spaced_selector-plain
    (λ selector. turn goes_on_at (then_selectors (selectors_from n) (found ++ (selector ∷ []))) goes_on-plain (then-plain (selectors_from n) (selectors_from-plain n) (found ++ (selector ∷ []))))

pub selectors-plain : Plain selectors_at
unfolding selectors_at
selectors-plain = selectors_from-plain 64 []

goes_on_shorter : (ts rest : List Lexeme) (b : Bool) → goes_on_at ts ≡ Ok (b, rest) → length rest < length ts
unfolding goes_on_at
goes_on_shorter [] rest b is = absurd (refused (wrong_of Expected, []) b rest is)
goes_on_shorter (t ∷ ts) rest b is = of (is_mark 44 t.kind) (is_mark 123 t.kind) is
  where
    shorter : ts ≡ rest → length rest < length (t ∷ ts)
    shorter same = let sized : length ts ≡ length rest = ap length same in omega (arith, sized)

    of : (comma brace : Bool) → cond comma (Ok (true, ts)) (cond brace (Ok (false, ts)) (expected (t ∷ ts))) ≡ Ok (b, rest) → length rest < length (t ∷ ts)
    of true brace is = shorter (given true b ts rest is).1
    of false true is = shorter (given false b ts rest is).1
    of false false is = absurd (refused (wrong_of Expected, t ∷ ts) b rest is)

selectors_from_shorter : (n : ℕ) (found all : List SelectorValue) (ts rest : List Lexeme) → selectors_from n found ts ≡ Ok (all, rest) → length rest < length ts
unfolding selectors_from
selectors_from_shorter zero found all ts rest is = absurd (refused (wrong_of Expected, past_blanks ts) all rest is)
selectors_from_shorter (suc n) found all ts rest is =
    let first : (s : SelectorValue × List Lexeme) × (spaced_selector_at ts ≡ Ok s) × (behind_selector n found s.0 s.1 ≡ Ok (all, rest)) = both (spaced_selector_at ts) (λ s. behind_selector n found s.0 s.1) all rest is in
    let second : (b : Bool × List Lexeme) × (goes_on_at first.0.1 ≡ Ok b) × (then_selectors (selectors_from n) (found ++ (first.0.0 ∷ [])) b.0 b.1 ≡ Ok (all, rest)) =
    both (goes_on_at first.0.1) (λ b. then_selectors (selectors_from n) (found ++ (first.0.0 ∷ [])) b.0 b.1) all rest first.2 in
    let one : length first.0.1 ≤ length ts = plain_shorter spaced_selector_at spaced_selector-plain ts first.0.1 first.0.0 first.1 in
    let two : length second.0.1 < length first.0.1 = goes_on_shorter first.0.1 second.0.1 second.0.0 second.1 in
    let three : length rest ≤ length second.0.1 = plain_shorter (then_selectors (selectors_from n) (found ++ (first.0.0 ∷ [])) second.0.0) (then-plain (selectors_from n) (selectors_from-plain n) (found ++ (first.0.0 ∷ [])) second.0.0) second.0.1 rest all second.2 in
    omega (arith, one, two, three)

-- ---- rules and variables

abbrev behind_head : Defined → List SelectorValue → Reads (RuleValue × ℕ)
behind_head defined selectors = in_turn (body_at false defined) (λ body. give (rule_of selectors body))

behind_head-plain : (defined : Defined) (selectors : List SelectorValue) → Plain (behind_head defined selectors)
behind_head-plain defined selectors = turn (body_at false defined) (λ body. give (rule_of selectors body)) (body-plain false defined) (λ body. give-plain (rule_of selectors body))

rule-plain : (defined : Defined) → Plain (rule_at defined)
unfolding rule_at
rule-plain defined = turn selectors_at (behind_head defined) selectors-plain (behind_head-plain defined)

rule_shorter : (defined : Defined) (ts rest : List Lexeme) (rule : RuleValue × ℕ) → rule_at defined ts ≡ Ok (rule, rest) → length rest < length ts
unfolding rule_at selectors_at
rule_shorter defined ts rest rule is =
    let first : (s : List SelectorValue × List Lexeme) × (selectors_from 64 [] ts ≡ Ok s) × (behind_head defined s.0 s.1 ≡ Ok (rule, rest)) = both (selectors_from 64 [] ts) (λ s. behind_head defined s.0 s.1) rule rest is in
    let one : length first.0.1 < length ts = selectors_from_shorter 64 [] first.0.0 ts first.0.1 first.1 in
    let two : length rest ≤ length first.0.1 = plain_shorter (behind_head defined first.0.0) (behind_head-plain defined first.0.0) first.0.1 rest rule first.2 in
    omega (arith, one, two)

definition-plain : (defined : Defined) → Plain (definition_at defined)
unfolding definition_at
definition-plain defined =
    turn (mark_at 58) (λ colon. in_turn (values_at defined) (λ stand. in_turn (mark_at 59) (λ end. give stand))) (mark-plain 58)
    (λ colon. turn (values_at defined) (λ stand. in_turn (mark_at 59) (λ end. give stand)) (values-plain defined)
    (λ stand. turn (mark_at 59) (λ end. give stand) (mark-plain 59) (λ end. give-plain stand)))

abbrev pub behind_variable : Found → Lexeme → Reads Found
behind_variable found t = in_turn (definition_at found.defined) (λ stand. give (with_variable (drop 1 t.bytes) stand found))

behind_variable-plain : (found : Found) (t : Lexeme) → Plain (behind_variable found t)
behind_variable-plain found t = turn (definition_at found.defined) (λ stand. give (with_variable (drop 1 t.bytes) stand found)) (definition-plain found.defined) (λ stand. give-plain (with_variable (drop 1 t.bytes) stand found))

variable_step : Lexeme → Step Wrong Lexeme
variable_step t = cond (is_name (drop 1 t.bytes)) (Take t) (Refuse (wrong_of Expected))

variable-plain : (found : Found) → Plain (variable_in_sheet found)
unfolding variable_in_sheet variable_step
variable-plain found = same (variable_in_sheet found) (in_turn (by_first (Err (wrong_of Expected)) variable_step) (behind_variable found)) of
    (turn (by_first (Err (wrong_of Expected)) variable_step) (behind_variable found) (first-plain (Err (wrong_of Expected)) variable_step) (behind_variable-plain found))
  where
    chosen : (t : Lexeme) (ts : List Lexeme) (b : Bool) → cond b (behind_variable found t ts) (expected (t ∷ ts)) ≡ in_turn (λ xs. stepped t ts (cond b (Take t) (Refuse (wrong_of Expected)))) (behind_variable found) (t ∷ ts)
    chosen t ts true = refl
    chosen t ts false = refl

    of : (ts : List Lexeme) → variable_in_sheet found ts ≡ in_turn (by_first (Err (wrong_of Expected)) variable_step) (behind_variable found) ts
    of [] = refl
    of (t ∷ ts) = chosen t ts (is_name (drop 1 t.bytes))

variable_shorter : (found more : Found) (ts rest : List Lexeme) → variable_in_sheet found ts ≡ Ok (more, rest) → length rest < length ts
unfolding variable_in_sheet
variable_shorter found more [] rest is = absurd (refused (wrong_of Expected, []) more rest is)
variable_shorter found more (t ∷ ts) rest is = of (is_name (drop 1 t.bytes)) is
  where
    of : (b : Bool) → cond b (behind_variable found t ts) (expected (t ∷ ts)) ≡ Ok (more, rest) → length rest < length (t ∷ ts)
    of true is = let shorter : length rest ≤ length ts = plain_shorter (behind_variable found t) (behind_variable-plain found t) ts rest more is in omega (arith, shorter)
    of false is = absurd (refused (wrong_of Expected, t ∷ ts) more rest is)

abbrev pub behind_rules : Found → Reads Found
behind_rules found = in_turn (rule_at found.defined) (λ rule. give (with_rule rule.0 rule.1 found))

rules-plain : (found : Found) → Plain (rule_in_sheet found)
unfolding rule_in_sheet
rules-plain found = of (nat_lt (length found.rules) 10000)
  where
    of : (b : Bool) → Plain (λ ts. cond b (behind_rules found ts) (met TooManyRules ts))
    of true = turn (rule_at found.defined) (λ rule. give (with_rule rule.0 rule.1 found)) (rule-plain found.defined) (λ rule. give-plain (with_rule rule.0 rule.1 found))
    of false = met-plain TooManyRules

rules_shorter : (found more : Found) (ts rest : List Lexeme) → rule_in_sheet found ts ≡ Ok (more, rest) → length rest < length ts
unfolding rule_in_sheet
rules_shorter found more ts rest is = of (nat_lt (length found.rules) 10000) is
  where
    of : (b : Bool) → cond b (behind_rules found ts) (met TooManyRules ts) ≡ Ok (more, rest) → length rest < length ts
    of true is =
        let first : (r : (RuleValue × ℕ) × List Lexeme) × (rule_at found.defined ts ≡ Ok r) × (Ok (with_rule r.0.0 r.0.1 found, r.1) ≡ Ok (more, rest)) =
        both (rule_at found.defined ts) (λ r. Ok (with_rule r.0.0 r.0.1 found, r.1)) more rest is in
        subst (λ r. length r < length ts) (given (with_rule first.0.0.0 first.0.0.1 found) more first.0.1 rest first.2).1 (rule_shorter found.defined ts first.0.1 first.0.0 first.1)
    of false is = absurd (refused (wrong_of TooManyRules, ts) more rest is)

-- ---- sheets

data Part : Type 0 where
  OfVariable : Part
  OfRule : Part

abbrev as_part : Found → Part → Reads Found
as_part found OfVariable = variable_in_sheet found
as_part found OfRule = rule_in_sheet found

part_step : Lexeme → Step Wrong Part
part_step t = cond (is_variable t.kind) (Leave OfVariable) (cond (begins_compound t.kind) (Leave OfRule) (Refuse (wrong_of Expected)))

pub part-plain : (found : Found) → Plain (part_at found)
unfolding part_at part_step
part-plain found = same (part_at found) (in_turn (by_first (Err (wrong_of Expected)) part_step) (as_part found)) of (turn (by_first (Err (wrong_of Expected)) part_step) (as_part found) (first-plain (Err (wrong_of Expected)) part_step) as-plain)
  where
    as-plain : (part : Part) → Plain (as_part found part)
    as-plain OfVariable = variable-plain found
    as-plain OfRule = rules-plain found

    chosen : (t : Lexeme) (ts : List Lexeme) (variable rule : Bool)
        → cond variable (variable_in_sheet found (t ∷ ts)) (cond rule (rule_in_sheet found (t ∷ ts)) (expected (t ∷ ts)))
        ≡ in_turn (λ xs. stepped t ts (cond variable (Leave OfVariable) (cond rule (Leave OfRule) (Refuse (wrong_of Expected))))) (as_part found) (t ∷ ts)
    chosen t ts true rule = refl
    chosen t ts false true = refl
    chosen t ts false false = refl

    of : (ts : List Lexeme) → part_at found ts ≡ in_turn (by_first (Err (wrong_of Expected)) part_step) (as_part found) ts
    of [] = refl
    of (t ∷ ts) = chosen t ts (is_variable t.kind) (begins_compound t.kind)

pub part_shorter : (found more : Found) (ts rest : List Lexeme) → part_at found ts ≡ Ok (more, rest) → length rest < length ts
unfolding part_at
part_shorter found more [] rest is = absurd (refused (wrong_of Expected, []) more rest is)
part_shorter found more (t ∷ ts) rest is = of (is_variable t.kind) (begins_compound t.kind) is
  where
    of : (variable rule : Bool) → cond variable (variable_in_sheet found (t ∷ ts)) (cond rule (rule_in_sheet found (t ∷ ts)) (expected (t ∷ ts))) ≡ Ok (more, rest) → length rest < length (t ∷ ts)
    of true rule is = variable_shorter found more (t ∷ ts) rest is
    of false true is = rules_shorter found more (t ∷ ts) rest is
    of false false is = absurd (refused (wrong_of Expected, t ∷ ts) more rest is)

abbrev as_next : (Found → Reads Found) → Found → Bool → Reads Found
as_next more found true = give found
as_next more found false = in_turn (part_at found) more

next-plain : (more : Found → Reads Found) → ((found : Found) → Plain (more found)) → (found : Found) → Plain (next_in_sheet more found)
next-plain more plain found = same (next_in_sheet more found) (in_turn (by_first (Ok true) (λ t. Leave false)) (as_next more found)) of (turn (by_first (Ok true) (λ t. Leave false)) (as_next more found) (first-plain (Ok true) (λ t. Leave false)) as-plain)
  where
    as-plain : (b : Bool) → Plain (as_next more found b)
    as-plain true = give-plain found
    as-plain false = turn (part_at found) more (part-plain found) plain

    of : (ts : List Lexeme) → next_in_sheet more found ts ≡ in_turn (by_first (Ok true) (λ t. Leave false)) (as_next more found) ts
    of [] = refl
    of (t ∷ ts) = refl

sheet_from-plain : (n : ℕ) (found : Found) → Plain (sheet_from n found)
unfolding sheet_from
sheet_from-plain zero found = expected-plain
sheet_from-plain (suc n) found = spaced-plain (next_in_sheet (sheet_from n) found) (next-plain (sheet_from n) (sheet_from-plain n) found)

pub sheet_enough : (found : Found) → IsEnough (λ n. sheet_from n found)
unfolding sheet_from
sheet_enough found zero m ts less lower = absurd (omega (arith, less))
sheet_enough found (suc n) zero ts less lower = absurd (omega (arith, lower))
sheet_enough found (suc n) (suc m) ts less lower = of (past_blanks ts) (past_shorter ts) (λ more rest short. sheet_enough more n m rest (omega (arith, short, less)) (omega (arith, short, lower)))
  where
    of : (here : List Lexeme) → length here ≤ length ts → ((more : Found) (rest : List Lexeme) → length rest < length ts → sheet_from n more rest ≡ sheet_from m more rest)
        → next_in_sheet (sheet_from n) found here ≡ next_in_sheet (sheet_from m) found here
    of [] short agree = refl
    of (t ∷ here) short agree = turn_same (part_at found) (sheet_from n) (sheet_from m) (t ∷ here) (λ more rest is.
        let shorter : length rest < length (t ∷ here) = part_shorter found more (t ∷ here) rest is in
        agree more rest (omega (arith, short, shorter)))

pub sheet-plain : Plain sheet_at
unfolding sheet_at
sheet-plain = fuelled-plain (λ n. sheet_from n nothing_found) (λ n. sheet_from-plain n nothing_found) (sheet_enough nothing_found)
