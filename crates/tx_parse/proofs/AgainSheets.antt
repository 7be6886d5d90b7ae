-- The rules, variables and sheets that are in the grammar are read.
use Rattle.std.proofs.Common.{◌≡◌, ◌⊎◌, inl, inr, ℕ, zero, suc, ◌+◌, ◌≤◌, ◌<◌, Bool, true, false, cond, ◌&&◌, ◌||◌, List, [], ◌∷◌, ◌++◌, length, drop, nat_lt, Option, Some, None, Ok, Err, refl, ap, sym, ◌∙◌, arith, append_assoc, length-append}
use Rattle.std.specs.List.{list_all}
use Rattle.std.proofs.lemmas.Bool.Decides.{nat_tests}
use Rattle.std.proofs.lemmas.List.{append-nil}
use Rattle.tx_text.specs.Name.{is_name}
use Rattle.tx_read.specs.Reading.{◌>>=◌, in_turn, Items}
use Rattle.tx_lex.specs.Lexemes.{Lexeme, is_blank, is_name_token, is_variable, is_mark, first_is}
use Rattle.tx_lex.specs.declared.token.TokenKind.{TokenKind}
use Rattle.tx_lex.specs.declared.token.TokenKind.TheVariants.{Space, Comment, Name, Hash, Variable, Number, Mark}
use Rattle.tx_select.specs.Grammar.{AreBlank, IsWhole}
use Rattle.tx_select.specs.Laws.{StandsBefore}
use Rattle.tx_select.specs.Lexemes.{begins_part, begins_compound, goes_on}
use Rattle.tx_select.specs.SelectorReading.{kind_at, parts_at, compound_at, compounds_at, compound_of, link_at, then_compounds, selector_at, Read as SelectorRead, expected as not_expected}
use Rattle.tx_select.specs.declared.value.Compound.{Compound}
use Rattle.tx_select.specs.SelectorValue.{SelectorValue}
use Rattle.tx_select.proofs.lemmas.SelectorLaws.{selectors-read}
use Rattle.tx_parse.specs.Grammar.{IsValues, AreSelectors, IsRule, IsVariable, Found, nothing_found, with_variable, with_rule, IsPart, IsSheet}
use Rattle.tx_lex.specs.Blanks.{past_blanks}
use Rattle.tx_parse.specs.SheetReading.{Reads, give, met, expected, mark_at, values_at, body_at, as_selector, spaced_selector_at, goes_on_at, then_selectors, selectors_from, selectors_at, rule_of, rule_at, definition_at, variable_in_sheet, rule_in_sheet, part_at, next_in_sheet, sheet_from, sheet_at}
use Rattle.tx_parse.specs.Values.{RuleValue}
use Rattle.tx_parse.specs.Variables.{Defined, is_value}
use Rattle.tx_parse.specs.declared.fault.SheetKind.TheVariants.{TooManyRules}
use Rattle.tx_parse.proofs.AgainBodies.{body_again}
use Rattle.tx_parse.proofs.AgainValues.{past_again, mark_again, values_again}
use Rattle.tx_parse.proofs.LocalBodies.{past_shorter}
use Rattle.tx_parse.proofs.LocalSheets.{behind_variable, behind_rules, part_shorter}
use Rattle.tx_parse.proofs.Turns.{turn_ok}
use Rattle.tx_parse.proofs.ValueSteps.{past_first}

-- ---- what a selector begins with

or-one : (a b c : Bool) → a ≡ true → ((a || b) || c) ≡ true
or-one a b c is = ap (λ x. (x || b) || c) is

or-two : (a b c : Bool) → b ≡ true → ((a || b) || c) ≡ true
or-two true b c is = refl
or-two false b c is = ap (λ x. x || c) is

or-three : (a b c : Bool) → c ≡ true → ((a || b) || c) ≡ true
or-three true b c is = refl
or-three false true c is = refl
or-three false false c is = is

-- how the first token is read
kind_begins : (ts rest : List Lexeme) (kind : Option (List ℕ)) → kind_at ts ≡ Ok (kind, rest) → first_is begins_compound ts ≡ true
unfolding kind_at
kind_begins [] rest kind is = absurd (let clash : kind_at [] ≡ Ok (kind, rest) = is in cc)
kind_begins (t ∷ ts) rest kind is = of (is_name_token t.kind) refl (is_mark 42 t.kind) refl (begins_part t.kind) refl is
  where
    of : (name : Bool) → is_name_token t.kind ≡ name → (star : Bool) → is_mark 42 t.kind ≡ star → (part : Bool) → begins_part t.kind ≡ part
        → cond name (cond (is_name t.bytes) (Ok (Some t.bytes, ts)) (not_expected (t ∷ ts))) (cond star (Ok (None, ts)) (cond part (Ok (None, t ∷ ts)) (not_expected (t ∷ ts)))) ≡ Ok (kind, rest)
        → begins_compound t.kind ≡ true
    of true name star starred part parted is = or-one (is_name_token t.kind) (is_mark 42 t.kind) (begins_part t.kind) name
    of false name true starred part parted is = or-two (is_name_token t.kind) (is_mark 42 t.kind) (begins_part t.kind) starred
    of false name false starred true parted is = or-three (is_name_token t.kind) (is_mark 42 t.kind) (begins_part t.kind) parted
    of false name false starred false parted is = absurd (let clash : not_expected (t ∷ ts) ≡ Ok (kind, rest) = is in cc)

first_given : {A B : Type 0} (first : SelectorRead A) (next : A × List Lexeme → SelectorRead B) (b : B × List Lexeme) → first >>= next ≡ Ok b → (a : A × List Lexeme) × (first ≡ Ok a)
first_given (Ok a) next b is = (a, refl)
first_given (Err fault) next b is = absurd (let clash : Err fault ≡ Ok b = is in cc)

selector_begins : (ts rest : List Lexeme) (compounds : List Compound) → selector_at ts ≡ Ok (compounds, rest) → first_is begins_compound ts ≡ true
unfolding selector_at compounds_at compound_at
selector_begins ts rest compounds is =
    let compound : (a : Compound × List Lexeme) × (compound_at false ts ≡ Ok a) =
    first_given (compound_at false ts) (λ c. in_turn (λ rest. Ok (link_at rest)) (then_compounds (compounds_at 15) c.0) c.1) (compounds, rest) is in
    let kind : (a : Option (List ℕ) × List Lexeme) × (kind_at ts ≡ Ok a) =
    first_given (kind_at ts) (λ k. in_turn parts_at (λ parts rest. Ok (compound_of false k.0 parts, rest)) k.1) compound.0 compound.1 in
    kind_begins ts kind.0.1 kind.0.0 kind.1

-- ---- kinds

-- what a compound begins with is no blank and no variable
compound_kind : (kind : TokenKind) → begins_compound kind ≡ true → (is_blank kind ≡ false) × (is_variable kind ≡ false)
compound_kind Name is = (refl, refl)
compound_kind Hash is = (refl, refl)
compound_kind (Mark mark) is = (refl, refl)
compound_kind Space is = absurd (let clash : false ≡ true = is in cc)
compound_kind Comment is = absurd (let clash : false ≡ true = is in cc)
compound_kind Variable is = absurd (let clash : false ≡ true = is in cc)
compound_kind Number is = absurd (let clash : false ≡ true = is in cc)

compound_first : (ts : List Lexeme) → first_is begins_compound ts ≡ true → first_is is_blank ts ≡ false
compound_first [] is = refl
compound_first (t ∷ ts) is = (compound_kind t.kind is).0

-- no selector goes on with a comma or a `{`
stops_selector : (t : Lexeme) (ts : List Lexeme) → (t.kind ≡ Mark 44) ⊎ (t.kind ≡ Mark 123) → first_is goes_on (t ∷ ts) ≡ false
stops_selector t ts (inl is) = ap goes_on is
stops_selector t ts (inr is) = ap goes_on is

-- ---- selectors

-- a selector with spaces and comments round it, and then something else
record WholeRead (head rest : List Lexeme) (s : SelectorValue) : Type 0 where
  reads : spaced_selector_at (head ++ rest) ≡ Ok (s, rest)
  begins : first_is begins_compound (past_blanks (head ++ rest)) ≡ true

whole_read : (head rest : List Lexeme) (s : SelectorValue) → IsWhole head s.compounds → first_is goes_on rest ≡ false → WholeRead head rest s
unfolding spaced_selector_at
whole_read head rest s is stops =
    let here : List Lexeme = is.middle ++ (is.behind ++ rest) in
    let stands : StandsBefore here s.compounds rest = record { selector = is.middle; behind = is.behind; parts = refl; grammar = is.selector; blank = is.blank_behind } in
    let reads : selector_at here ≡ Ok (s.compounds, rest) = (selectors-read here s.compounds rest).1 stands stops in
    let begins : first_is begins_compound here ≡ true = selector_begins here rest s.compounds reads in
    let split : head ++ rest ≡ is.before ++ here = ap (λ xs. xs ++ rest) is.parts ∙ append_assoc is.before (is.middle ++ is.behind) rest ∙ ap (λ xs. is.before ++ xs) (append_assoc is.middle is.behind rest) in
    let past : past_blanks (head ++ rest) ≡ here = ap past_blanks split ∙ past_again is.before here is.blank_before (compound_first here begins) in
    record {
      reads = ap (λ xs. as_selector (selector_at xs)) past ∙ ap as_selector reads;
      begins = ap (first_is begins_compound) past ∙ begins;
    }

comma_again : (t : Lexeme) (ts : List Lexeme) → t.kind ≡ Mark 44 → goes_on_at (t ∷ ts) ≡ Ok (true, ts)
unfolding goes_on_at
comma_again t ts is = ap (λ k. cond (is_mark 44 k) (Ok (true, ts)) (cond (is_mark 123 k) (Ok (false, ts)) (expected (t ∷ ts)))) is

brace_again : (t : Lexeme) (ts : List Lexeme) → t.kind ≡ Mark 123 → goes_on_at (t ∷ ts) ≡ Ok (false, ts)
unfolding goes_on_at
brace_again t ts is = ap (λ k. cond (is_mark 44 k) (Ok (true, ts)) (cond (is_mark 123 k) (Ok (false, ts)) (expected (t ∷ ts)))) is

abbrev behind_one : ℕ → List SelectorValue → SelectorValue → Reads (List SelectorValue)
behind_one most found selector = in_turn goes_on_at (then_selectors (selectors_from most) (found ++ (selector ∷ [])))

selectors_again : (most : ℕ) (found selectors : List SelectorValue) (head rest : List Lexeme) (opening : Lexeme) → AreSelectors head selectors → opening.kind ≡ Mark 123 → length selectors ≤ most
    → selectors_from most found (head ++ (opening ∷ rest)) ≡ Ok (found ++ selectors, rest)
unfolding selectors_from
selectors_again most found [] head rest opening are is few = absurd are
selectors_again zero found (s ∷ selectors) head rest opening are is few = absurd (omega (arith, few))
selectors_again (suc most) found (s ∷ []) head rest opening are is few =
    let whole : WholeRead head (opening ∷ rest) s = whole_read head (opening ∷ rest) s are (stops_selector opening rest (inr is)) in
    turn_ok spaced_selector_at (behind_one most found) (head ++ (opening ∷ rest)) (opening ∷ rest) s whole.reads
    ∙ turn_ok goes_on_at (then_selectors (selectors_from most) (found ++ (s ∷ []))) (opening ∷ rest) rest false (brace_again opening rest is)
selectors_again (suc most) found (s ∷ next ∷ selectors) head rest opening are is few =
    let behind : List Lexeme = are.1 ++ (opening ∷ rest) in
    let whole : WholeRead are.0 (are.2 ∷ behind) s = whole_read are.0 (are.2 ∷ behind) s are.5 (stops_selector are.2 behind (inl are.4)) in
    ap (selectors_from (suc most) found) (ap (λ xs. xs ++ (opening ∷ rest)) are.3 ∙ append_assoc are.0 (are.2 ∷ are.1) (opening ∷ rest))
    ∙ turn_ok spaced_selector_at (behind_one most found) (are.0 ++ (are.2 ∷ behind)) (are.2 ∷ behind) s whole.reads
    ∙ turn_ok goes_on_at (then_selectors (selectors_from most) (found ++ (s ∷ []))) (are.2 ∷ behind) behind true (comma_again are.2 behind are.4)
    ∙ selectors_again most (found ++ (s ∷ [])) (next ∷ selectors) are.1 rest opening are.6 is (omega (arith, few))
    ∙ ap (λ all. Ok (all, rest)) (append_assoc found (s ∷ []) (next ∷ selectors))

selectors_begin : (selectors : List SelectorValue) (head rest : List Lexeme) (opening : Lexeme) → AreSelectors head selectors → opening.kind ≡ Mark 123 → first_is begins_compound (past_blanks (head ++ (opening ∷ rest))) ≡ true
selectors_begin [] head rest opening are is = absurd are
selectors_begin (s ∷ []) head rest opening are is = (whole_read head (opening ∷ rest) s are (stops_selector opening rest (inr is))).begins
selectors_begin (s ∷ next ∷ selectors) head rest opening are is =
    ap (λ xs. first_is begins_compound (past_blanks xs)) (ap (λ xs. xs ++ (opening ∷ rest)) are.3 ∙ append_assoc are.0 (are.2 ∷ are.1) (opening ∷ rest))
    ∙ (whole_read are.0 (are.2 ∷ (are.1 ++ (opening ∷ rest))) s are.5 (stops_selector are.2 (are.1 ++ (opening ∷ rest)) (inl are.4))).begins

-- ---- blanks before a rule

past_past : (ts : List Lexeme) → past_blanks (past_blanks ts) ≡ past_blanks ts
past_past ts = past_again [] (past_blanks ts) refl (past_first ts)

selector_past : (ts : List Lexeme) → spaced_selector_at (past_blanks ts) ≡ spaced_selector_at ts
unfolding spaced_selector_at
selector_past ts = ap (λ xs. as_selector (selector_at xs)) (past_past ts)

rule_past : (defined : Defined) (ts : List Lexeme) → rule_at defined (past_blanks ts) ≡ rule_at defined ts
unfolding rule_at selectors_at selectors_from
rule_past defined ts = ap (λ r. (r >>= (λ s. behind_one 63 [] s.0 s.1)) >>= (λ found. in_turn (body_at false defined) (λ body. give (rule_of found.0 body)) found.1)) (selector_past ts)

-- ---- rules

close_ends : (t : Lexeme) → t.kind ≡ Mark 125 → (is_mark 125 t.kind ≡ true) × ((is_mark 59 t.kind || is_mark 125 t.kind) ≡ true)
close_ends t is = (ap (is_mark 125) is, ap (λ k. is_mark 59 k || is_mark 125 k) is)

rule_again : (defined : Defined) (piece rest : List Lexeme) (rule : RuleValue) (written : ℕ) → IsRule defined piece rule written → rule_at defined (piece ++ rest) ≡ Ok ((rule, written), rest)
unfolding rule_at selectors_at
rule_again defined piece rest rule written is =
    let tail : List Lexeme = is.closing ∷ rest in
    let close : (is_mark 125 is.closing.kind ≡ true) × ((is_mark 59 is.closing.kind || is_mark 125 is.closing.kind) ≡ true) = close_ends is.closing is.is_close in
    let split : piece ++ rest ≡ is.head ++ (is.opening ∷ (is.block ++ tail)) =
    ap (λ xs. xs ++ rest) is.parts ∙ append_assoc is.head (is.opening ∷ (is.block ++ (is.closing ∷ []))) rest ∙ ap (λ xs. is.head ++ (is.opening ∷ xs)) (append_assoc is.block (is.closing ∷ []) rest) in
    ap (λ xs. in_turn (selectors_from 64 []) (λ selectors. in_turn (body_at false defined) (λ body. give (rule_of selectors body))) xs) split
    ∙ turn_ok (selectors_from 64 []) (λ selectors. in_turn (body_at false defined) (λ body. give (rule_of selectors body))) (is.head ++ (is.opening ∷ (is.block ++ tail))) (is.block ++ tail) rule.selectors
    (selectors_again 64 [] rule.selectors is.head (is.block ++ tail) is.opening is.selectors is.is_open is.few)
    ∙ turn_ok (body_at false defined) (λ body. give (rule_of rule.selectors body)) (is.block ++ tail) rest (record { declarations = rule.declarations; written = written })
    (body_again false defined is.block tail (record { declarations = rule.declarations; written = written }) is.body close.0 close.1)

rule_first : (defined : Defined) (piece rest : List Lexeme) (rule : RuleValue) (written : ℕ) → IsRule defined piece rule written → first_is begins_compound (past_blanks (piece ++ rest)) ≡ true
rule_first defined piece rest rule written is =
    ap (λ xs. first_is begins_compound (past_blanks xs)) (ap (λ xs. xs ++ rest) is.parts ∙ append_assoc is.head (is.opening ∷ (is.block ++ (is.closing ∷ []))) rest)
    ∙ selectors_begin rule.selectors is.head ((is.block ++ (is.closing ∷ [])) ++ rest) is.opening is.selectors is.is_open

-- ---- variables

definition_again : (defined : Defined) (gap values stand rest : List Lexeme) (colon end : Lexeme) → AreBlank gap → colon.kind ≡ Mark 58 → IsValues defined values stand → end.kind ≡ Mark 59
    → definition_at defined (gap ++ (colon ∷ (values ++ (end ∷ rest)))) ≡ Ok (stand, rest)
unfolding definition_at
definition_again defined gap values stand rest colon end blank is_colon are is_end =
    turn_ok (mark_at 58) (λ colon. in_turn (values_at defined) (λ stand. in_turn (mark_at 59) (λ end. give stand))) (gap ++ (colon ∷ (values ++ (end ∷ rest)))) (values ++ (end ∷ rest)) colon
    (mark_again 58 gap (values ++ (end ∷ rest)) colon blank is_colon)
    ∙ turn_ok (values_at defined) (λ stand. in_turn (mark_at 59) (λ end. give stand)) (values ++ (end ∷ rest)) (end ∷ rest) stand
    (values_again defined values stand (end ∷ rest) are (ap is_blank is_end) (ap is_value is_end))
    ∙ turn_ok (mark_at 59) (λ end. give stand) (end ∷ rest) rest end (mark_again 59 [] rest end refl is_end)

variable_again : (found : Found) (piece rest : List Lexeme) (name : List ℕ) (stand : List Lexeme) → IsVariable found.defined piece name stand
    → part_at found (piece ++ rest) ≡ Ok (with_variable name stand found, rest)
unfolding part_at variable_in_sheet
variable_again found piece rest name stand is =
    let ts : List Lexeme = is.gap ++ (is.colon ∷ (is.values ++ (is.end ∷ rest))) in
    let split : piece ++ rest ≡ is.token ∷ ts =
    ap (λ xs. xs ++ rest) is.parts ∙ ap (λ xs. is.token ∷ xs) (append_assoc is.gap (is.colon ∷ (is.values ++ (is.end ∷ []))) rest ∙ ap (λ xs. is.gap ++ (is.colon ∷ xs)) (append_assoc is.values (is.end ∷ []) rest)) in
    ap (part_at found) split
    ∙ ap (λ b. cond b (variable_in_sheet found (is.token ∷ ts)) (cond (begins_compound is.token.kind) (rule_in_sheet found (is.token ∷ ts)) (expected (is.token ∷ ts)))) (ap is_variable is.is_variable)
    ∙ ap (λ b. cond b (behind_variable found is.token ts) (expected (is.token ∷ ts))) (ap is_name is.named ∙ is.is_name)
    ∙ turn_ok (definition_at found.defined) (λ stand. give (with_variable (drop 1 is.token.bytes) stand found)) ts rest stand
    (definition_again found.defined is.gap is.values stand rest is.colon is.end is.blank is.is_colon is.are_values is.is_end)
    ∙ ap (λ n. Ok (with_variable n stand found, rest)) is.named

-- ---- parts

rule_part : (found : Found) (here : List Lexeme) (next : Found × List Lexeme) → first_is begins_compound here ≡ true → length found.rules < 10000 → behind_rules found here ≡ Ok next → part_at found here ≡ Ok next
unfolding part_at rule_in_sheet
rule_part found [] next begins few is = absurd (let clash : false ≡ true = begins in cc)
rule_part found (t ∷ ts) next begins few is =
    ap (λ b. cond b (variable_in_sheet found (t ∷ ts)) (cond (begins_compound t.kind) (rule_in_sheet found (t ∷ ts)) (expected (t ∷ ts)))) (compound_kind t.kind begins).1
    ∙ ap (λ b. cond b (rule_in_sheet found (t ∷ ts)) (expected (t ∷ ts))) begins
    ∙ ap (λ b. cond b (behind_rules found (t ∷ ts)) (met TooManyRules (t ∷ ts))) (enough (length found.rules) few)
    ∙ is
  where
    enough : (n : ℕ) → n < 10000 → nat_lt n 10000 ≡ true
    enough n less = grind (arith, less, nat_tests)

rules_again : (found : Found) (ts rest : List Lexeme) (rule : RuleValue) (written : ℕ) → rule_at found.defined ts ≡ Ok ((rule, written), rest) → behind_rules found (past_blanks ts) ≡ Ok (with_rule rule written found, rest)
rules_again found ts rest rule written is =
    turn_ok (rule_at found.defined) (λ rule. give (with_rule rule.0 rule.1 found)) (past_blanks ts) rest (rule, written) (rule_past found.defined ts ∙ is)

-- ---- sheets

-- the rules only get more
items_grow : (pieces : List (List Lexeme)) (here last : Found × List Lexeme) → Items IsPart here pieces last → length here.0.rules ≤ length last.0.rules
items_grow [] here last same = let equal : length here.0.rules ≡ length last.0.rules = ap (λ (p : Found × List Lexeme). length p.0.rules) same in omega (arith, equal)
items_grow (piece ∷ pieces) here last items =
    let more : length items.0.0.rules ≤ length last.0.rules = items_grow pieces items.0 last items.1.1 in
    of items.1.0.found more
  where
    of : ((name : List ℕ) × (stand : List Lexeme) × IsVariable here.0.defined items.1.0.part name stand × (items.0.0 ≡ with_variable name stand here.0))
        ⊎ ((rule : RuleValue) × (written : ℕ) × IsRule here.0.defined items.1.0.part rule written × (items.0.0 ≡ with_rule rule written here.0))
        → length items.0.0.rules ≤ length last.0.rules → length here.0.rules ≤ length last.0.rules
    of (inl is) more = let equal : length items.0.0.rules ≡ length here.0.rules = ap (λ (f : Found). length f.rules) is.3 in omega (arith, equal, more)
    of (inr is) more =
        let equal : length items.0.0.rules ≡ length (here.0.rules ++ (is.0 ∷ [])) = ap (λ (f : Found). length f.rules) is.3 in
        let longer : length (here.0.rules ++ (is.0 ∷ [])) ≡ length here.0.rules + 1 = length-append here.0.rules (is.0 ∷ []) in
        omega (arith, equal, longer, more)

-- a part behind blanks
record PartRead (found next : Found) (here rest : List Lexeme) : Type 0 where
  first : Lexeme
  others : List Lexeme
  some : past_blanks here ≡ first ∷ others
  reads : part_at found (past_blanks here) ≡ Ok (next, rest)

some_first : (test : TokenKind → Bool) (ts : List Lexeme) → first_is test ts ≡ true → (t : Lexeme) × (others : List Lexeme) × (ts ≡ t ∷ others)
some_first test [] is = absurd (let clash : false ≡ true = is in cc)
some_first test (t ∷ ts) is = (t, ts, refl)

blank_before : (before ts : List Lexeme) → AreBlank before → past_blanks (before ++ ts) ≡ past_blanks ts
blank_before [] ts all = refl
blank_before (t ∷ before) ts all = of (is_blank t.kind) all (blank_before before ts)
  where
    of : (b : Bool) → (b && list_all (λ t. is_blank t.kind) before) ≡ true → (AreBlank before → past_blanks (before ++ ts) ≡ past_blanks ts) → cond b (past_blanks (before ++ ts)) (t ∷ (before ++ ts)) ≡ past_blanks ts
    of true all more = more all
    of false all more = absurd (let clash : false ≡ true = all in cc)

variable_read : (found : Found) (part rest : List Lexeme) (name : List ℕ) (stand : List Lexeme) → IsVariable found.defined part name stand → PartRead found (with_variable name stand found) (part ++ rest) rest
variable_read found part rest name stand is =
    let more : List Lexeme = (is.gap ++ (is.colon ∷ (is.values ++ (is.end ∷ [])))) ++ rest in
    let split : part ++ rest ≡ is.token ∷ more = ap (λ xs. xs ++ rest) is.parts in
    let stays : past_blanks (is.token ∷ more) ≡ is.token ∷ more = ap (λ k. cond (is_blank k) (past_blanks more) (is.token ∷ more)) is.is_variable in
    record {
      first = is.token;
      others = more;
      some = ap past_blanks split ∙ stays;
      reads = ap (part_at found) (ap past_blanks split ∙ stays ∙ sym split) ∙ variable_again found part rest name stand is;
    }

rule_read : (found : Found) (part rest : List Lexeme) (rule : RuleValue) (written : ℕ) → IsRule found.defined part rule written → length found.rules < 10000 → PartRead found (with_rule rule written found) (part ++ rest) rest
rule_read found part rest rule written is few =
    let begins : first_is begins_compound (past_blanks (part ++ rest)) ≡ true = rule_first found.defined part rest rule written is in
    let first : (t : Lexeme) × (others : List Lexeme) × (past_blanks (part ++ rest) ≡ t ∷ others) = some_first begins_compound (past_blanks (part ++ rest)) begins in
    record {
      first = first.0;
      others = first.1;
      some = first.2;
      reads = rule_part found (past_blanks (part ++ rest)) (with_rule rule written found, rest) begins few (rules_again found (part ++ rest) rest rule written (rule_again found.defined part rest rule written is));
    }

part_read : (here next : Found × List Lexeme) (piece : List Lexeme) → IsPart here piece next → length next.0.rules ≤ 10000 → PartRead here.0 next.0 here.1 next.1
part_read here next piece is few = of is.found
  where
    front : here.1 ≡ is.before ++ (is.part ++ next.1)
    front = is.rest ∙ ap (λ xs. xs ++ next.1) is.parts ∙ append_assoc is.before is.part next.1

    at : past_blanks here.1 ≡ past_blanks (is.part ++ next.1)
    at = ap past_blanks front ∙ blank_before is.before (is.part ++ next.1) is.blank

    moved : (found : Found) → next.0 ≡ found → PartRead here.0 found (is.part ++ next.1) next.1 → PartRead here.0 next.0 here.1 next.1
    moved found same read = record {
      first = read.first;
      others = read.others;
      some = at ∙ read.some;
      reads = ap (part_at here.0) at ∙ read.reads ∙ ap (λ f. Ok (f, next.1)) (sym same);
    }

    fewer : (rule : RuleValue) (written : ℕ) → next.0 ≡ with_rule rule written here.0 → length here.0.rules < 10000
    fewer rule written same =
        let equal : length next.0.rules ≡ length (here.0.rules ++ (rule ∷ [])) = ap (λ (f : Found). length f.rules) same in
        let longer : length (here.0.rules ++ (rule ∷ [])) ≡ length here.0.rules + 1 = length-append here.0.rules (rule ∷ []) in
        omega (arith, equal, longer, few)

    of : ((name : List ℕ) × (stand : List Lexeme) × IsVariable here.0.defined is.part name stand × (next.0 ≡ with_variable name stand here.0))
        ⊎ ((rule : RuleValue) × (written : ℕ) × IsRule here.0.defined is.part rule written × (next.0 ≡ with_rule rule written here.0)) → PartRead here.0 next.0 here.1 next.1
    of (inl has) = moved (with_variable has.0 has.1 here.0) has.3 (variable_read here.0 is.part next.1 has.0 has.1 has.2)
    of (inr has) = moved (with_rule has.0 has.1 here.0) has.3 (rule_read here.0 is.part next.1 has.0 has.1 has.2 (fewer has.0 has.1 has.3))

next_part : (more : Found → Reads Found) (found next : Found) (here rest others : List Lexeme) (first : Lexeme) → here ≡ first ∷ others → part_at found here ≡ Ok (next, rest) → next_in_sheet more found here ≡ more next rest
next_part more found next here rest others first some reads =
    ap (next_in_sheet more found) some ∙ turn_ok (part_at found) more (first ∷ others) rest next (ap (part_at found) (sym some) ∙ reads)

items_again : (pieces : List (List Lexeme)) (here last : Found × List Lexeme) (n : ℕ) → Items IsPart here pieces last → AreBlank last.1 → length last.0.rules ≤ 10000 → length here.1 < n → sheet_from n here.0 here.1 ≡ Ok (last.0, [])
unfolding sheet_from
items_again pieces here last zero items blank few less = absurd (omega (arith, less))
items_again [] here last (suc n) items blank few less =
    ap (λ (p : Found × List Lexeme). next_in_sheet (sheet_from n) p.0 (past_blanks p.1)) items
    ∙ ap (next_in_sheet (sheet_from n) last.0) (ap past_blanks (sym (append-nil last.1)) ∙ past_again last.1 [] blank refl)
items_again (piece ∷ pieces) here last (suc n) items blank few less =
    let grown : length items.0.0.rules ≤ length last.0.rules = items_grow pieces items.0 last items.1.1 in
    let read : PartRead here.0 items.0.0 here.1 items.0.1 = part_read here items.0 piece items.1.0 (omega (arith, grown, few)) in
    let shorter : length items.0.1 < length (past_blanks here.1) = part_shorter here.0 items.0.0 (past_blanks here.1) items.0.1 read.reads in
    let past : length (past_blanks here.1) ≤ length here.1 = past_shorter here.1 in
    next_part (sheet_from n) here.0 items.0.0 (past_blanks here.1) items.0.1 read.others read.first read.some read.reads
    ∙ items_again pieces items.0 last n items.1.1 blank few (omega (arith, less, shorter, past))

pub sheet_again : (ts : List Lexeme) (found : Found) → IsSheet ts found → sheet_at ts ≡ Ok (found, [])
unfolding sheet_at
sheet_again ts found is = items_again is.pieces (nothing_found, ts) (found, is.behind) (suc (length ts)) is.parts is.blank is.few (omega arith)
