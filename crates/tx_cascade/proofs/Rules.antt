-- Rules one after another, and inline texts.
use Rattle.std.proofs.Common.{◌≡◌, ℕ, suc, ◌+◌, ◌<◌, ◌≤◌, nat_lt, length, drop, get_or, false, List, [], ◌∷◌, ◌++◌, Result, Ok, Err, Vec, refl, sym, ap, subst, ◌∙◌, add-one, append_assoc, arith}
use Rattle.std.specs.List.{enumerate_from, flat_map}
use Rattle.std.specs.declared.alloc.Global.{Global}
use Rattle.std.proofs.Math.Seq.{drop-cons}
use Rattle.std.proofs.lemmas.Bool.{lt-ltb}
use Rattle.std.proofs.lemmas.Bool.Decides.{nat_tests}
use Rattle.std.proofs.lemmas.List.Sums.{sum_by-cons}
use Rattle.tx_read.specs.Answer.{Gives}
use Rattle.tx_parse.specs.Grammar.{Body}
use Rattle.tx_parse.specs.Texts.{Report, inline_of, located, told}
use Rattle.tx_parse.specs.Values.{DeclarationValue, RuleValue, SheetValue}
use Rattle.tx_parse.specs.declared.fault.SheetFault.{SheetFault}
use Rattle.tx_parse.specs.declared.fault.SheetFault.TheVariants.{Text}
use Rattle.tx_parse.specs.declared.fault.SheetKind.{SheetKind}
use Rattle.tx_cascade.specs.Matchers.{Matcher}
use Rattle.tx_cascade.specs.Reaching.{selectors_of, no_weight, all_reached, of_rules, declared_in, inline_declarations, reaching}
use Rattle.tx_cascade.specs.declared.key.Origin.TheVariants.{Default, Sheet, Inline}
use Rattle.tx_cascade.specs.declared.reaching.Reached.{Reached}

-- the selectors of the rules that are left are those of the next one and of the rest
pub selectors-step : (rules : List RuleValue) (i : ℕ) (rule : RuleValue) → i < length rules → rule ≡ get_or rules i rule
    → length rule.selectors + selectors_of (drop (i + 1) rules) ≡ selectors_of (drop i rules)
selectors-step rules i rule within is =
    let e : drop i rules ≡ get_or rules i rule ∷ drop (suc i) rules = drop-cons rules i rule within in
    rw (add-one i)
    (sym (ap selectors_of (e ∙ ap (λ (r : RuleValue). r ∷ drop (suc i) rules) (sym is)) ∙ sum_by-cons (λ (r : RuleValue). length r.selectors) rule (drop (suc i) rules)))

-- what the rules that are left add, the next one first
pub rules-step : (f : ℕ × RuleValue → List Reached) (rules : List RuleValue) (i : ℕ) (rule : RuleValue) (old new all : List Reached) → i < length rules → rule ≡ get_or rules i rule
    → new ≡ old ++ f (i, rule) → old ++ flat_map f (enumerate_from i (drop i rules)) ≡ all → new ++ flat_map f (enumerate_from (i + 1) (drop (i + 1) rules)) ≡ all
rules-step f rules i rule old new all within is next so_far =
    let e : drop i rules ≡ rule ∷ drop (i + 1) rules = rw (add-one i) (drop-cons rules i rule within ∙ ap (λ (r : RuleValue). r ∷ drop (suc i) rules) (sym is)) in
    ap (λ (l : List Reached). l ++ flat_map f (enumerate_from (i + 1) (drop (i + 1) rules))) next
    ∙ (append_assoc old (f (i, rule)) (flat_map f (enumerate_from (i + 1) (drop (i + 1) rules)))
    ∙ (sym (ap (λ (rs : List RuleValue). old ++ flat_map f (enumerate_from i rs)) e) ∙ so_far))

-- ---- inline texts

pub long-text : (text : List ℕ) → 4294967296 ≤ length text → inline_declarations text ≡ []
unfolding inline_declarations
long-text text long = let matcher : nat_lt (length text) 4294967296 ≡ false = grind (arith, nat_tests) in rw matcher refl

pub short-text : (text : List ℕ) → length text < 4294967296 → inline_declarations text ≡ declared_in (inline_of text)
unfolding inline_declarations
short-text text short = rw (lt-ltb (length text) 4294967296 short) refl

pub given-text : (text : List ℕ) (read : Result Body Report) (declarations : Vec DeclarationValue Global)
    → Gives (λ (ds : Vec DeclarationValue Global). ds.items) told (Ok declarations) (located (λ (body : Body). body.declarations) text read) → declarations.items ≡ declared_in read
given-text text (Ok body) declarations gives = cc
given-text text (Err report) declarations gives = cc

faulty : (text : List ℕ) (read : Result Body Report) (line column : ℕ) (kind : SheetKind)
    → Gives (λ (ds : Vec DeclarationValue Global). ds.items) told (Err (Text line column kind)) (located (λ (body : Body). body.declarations) text read) → [] ≡ declared_in read
faulty text (Ok body) line column kind gives = cc
faulty text (Err report) line column kind gives = refl

pub faulty-text : (text : List ℕ) (read : Result Body Report) (fault : SheetFault) (line column : ℕ) (kind : SheetKind) → fault ≡ Text line column kind
    → Gives (λ (ds : Vec DeclarationValue Global). ds.items) told (Err fault) (located (λ (body : Body). body.declarations) text read) → [] ≡ declared_in read
faulty-text text read fault line column kind is gives =
    faulty text read line column kind
    (subst (λ (f : SheetFault). Gives (λ (ds : Vec DeclarationValue Global). ds.items) told (Err f) (located (λ (body : Body). body.declarations) text read)) is gives)

-- ---- all

pub all-reaching : (matcher : Matcher) (sheet : SheetValue) (inline text : List ℕ) (defaults rules : List RuleValue) (none first second all : List Reached)
    → defaults ≡ sheet.defaults → rules ≡ sheet.rules → text ≡ inline → none ≡ [] → first ≡ none ++ of_rules matcher Default defaults → second ≡ first ++ of_rules matcher Sheet rules
    → all ≡ second ++ all_reached Inline no_weight 0 (inline_declarations text) → all ≡ reaching matcher sheet inline
unfolding reaching
all-reaching matcher sheet inline text defaults rules none first second all d r t n f s a =
    let own : second ≡ of_rules matcher Default sheet.defaults ++ of_rules matcher Sheet sheet.rules =
    s ∙ (ap (λ (l : List Reached). l ++ of_rules matcher Sheet rules) (f ∙ ap (λ (l : List Reached). l ++ of_rules matcher Default defaults) n)
    ∙ (ap (λ (rs : List RuleValue). of_rules matcher Default rs ++ of_rules matcher Sheet rules) d ∙ ap (λ (rs : List RuleValue). of_rules matcher Default sheet.defaults ++ of_rules matcher Sheet rs) r)) in
    a ∙ (ap (λ (l : List Reached). l ++ all_reached Inline no_weight 0 (inline_declarations text)) own
    ∙ (append_assoc (of_rules matcher Default sheet.defaults) (of_rules matcher Sheet sheet.rules) (all_reached Inline no_weight 0 (inline_declarations text))
    ∙ ap (λ (t : List ℕ). of_rules matcher Default sheet.defaults ++ (of_rules matcher Sheet sheet.rules ++ all_reached Inline no_weight 0 (inline_declarations t))) t))
