-- What the cascade takes of ordinary sheets and inline texts is ordinary.
use Rattle.std.proofs.Common.{◌≡◌, ℕ, zero, suc, ◌+◌, ◌*◌, ◌≤◌, Bool, true, false, cond, ◌&&◌, List, [], ◌∷◌, ◌++◌, map, get_or, Option, Some, None, refl, sym, subst, arith, eqb-true, leb-true}
use Rattle.std.proofs.lemmas.Bool.{and_parts}
use Rattle.std.proofs.lemmas.List.Elements.{All-append, All-cons, All-filter, All-head, All-nil, All-tail}
use Rattle.std.specs.List.{enumerate_from, find, flat_map, list_all}
use Rattle.std.specs.Option.{option_map_or}
use Rattle.std.specs.Prelude.{All, IfSome, filter, option_and_then, option_map, unwrap_or, nat_le, ◌==◌, ℤ, pos, negsuc}
use Rattle.tx_cascade.specs.Cascade.{counts, declared, given, is_initial, or_default, styled, style_below, unless_initial, value_below, valued, winner}
use Rattle.tx_cascade.specs.Key.{is_greatest, key_parts}
use Rattle.tx_cascade.specs.Matchers.{Matcher, matchers_of}
use Rattle.tx_cascade.specs.Reaching.{all_reached, inline_declarations, no_weight, of_rule, of_rules, reached, reaching, weight_at}
use Rattle.tx_cascade.specs.Styles.{all_styles}
use Rattle.tx_cascade.specs.declared.key.Origin.{Origin}
use Rattle.tx_cascade.specs.declared.key.Origin.TheVariants.{Default, Sheet, Inline}
use Rattle.tx_cascade.specs.declared.key.Weight.{Weight}
use Rattle.tx_cascade.specs.declared.reaching.Reached.{Reached}
use Rattle.tx_frac.specs.Laws.{OneForm}
use Rattle.tx_box.specs.Ordinary.{IsShortDecimal}
use Rattle.tx_frac.specs.Ratio.{Ratio, IsRatio, whole_of}
use Rattle.tx_frac.specs.declared.scalars.Scalar.{Scalar}
use Rattle.tx_look.specs.Ordinary.{IsOrdinaryScalar, IsOrdinaryValue}
use Rattle.tx_map.specs.OrdinarySheets.{AreOrdinaryDeclarations, AreOrdinaryRules, IsOrdinarySheet}
use Rattle.tx_parse.specs.DefaultRules.{default_rules}
use Rattle.tx_parse.specs.Values.{DeclarationValue, RuleValue, SheetValue}
use Rattle.tx_select.specs.declared.value.Pseudo.{Pseudo as State}
use Rattle.tx_tree.specs.Row.{has_number, number as number_of}
use Rattle.tx_tree.specs.Rows.{ancestors_of, ancestors_within, before_of, depth_of, last_above, parent_of, row_at}
use Rattle.tx_tree.specs.declared.row.Row.{Row}
use Rattle.tx_value.specs.Inheritance.{inheritance_of}
use Rattle.tx_value.specs.Initial.{initial, initial_of_sort}
use Rattle.tx_value.specs.PropertyTable.{Sort, Keyword, Size, Limit, Whole, Border, Colour, Marks, GridSize, Tracks, Gutter, Layers, Layer, Offset, sort_of}
use Rattle.tx_value.specs.Style.{every_property, initial_style, number, style_value}
use Rattle.tx_value.specs.declared.inheritance.Inheritance.{Inheritance}
use Rattle.tx_value.specs.declared.inheritance.Inheritance.TheVariants.{NotInherited, Inherited, Added}
use Rattle.tx_value.specs.declared.property.Property.{Property}
use Rattle.tx_value.specs.declared.value.Value.{Value}
use Rattle.tx_value.specs.declared.value.Value.TheVariants as value

-- ---- initial values

sort_ordinary : OneForm → (s : Sort) → IsOrdinaryValue (initial_of_sort s)
sort_ordinary forms (Keyword choices first) = tt
sort_ordinary forms Size = record { thousandths = 100000; digits = omega arith; value = forms.whole (pos 100) 1000 }
sort_ordinary forms Limit = tt
sort_ordinary forms (Whole least most) = tt
sort_ordinary forms Border = tt
sort_ordinary forms (Colour first) = tt
sort_ordinary forms Marks = tt
sort_ordinary forms GridSize = tt
sort_ordinary forms Tracks = All-nil IsOrdinaryScalar
sort_ordinary forms Gutter = tt
sort_ordinary forms Layers = tt
sort_ordinary forms Layer = tt
sort_ordinary forms Offset = tt

initial_ordinary : OneForm → (p : Property) → IsOrdinaryValue (initial p)
unfolding initial
initial_ordinary forms p = sort_ordinary forms (sort_of p)

mapped : (f : Property → Value) → ((p : Property) → IsOrdinaryValue (f p)) → (ps : List Property) → All IsOrdinaryValue (map f ps)
mapped f h [] = All-nil IsOrdinaryValue
mapped f h (p ∷ ps) = All-cons IsOrdinaryValue (f p) (map f ps) (h p) (mapped f h ps)

pub initial_style_ordinary : OneForm → All IsOrdinaryValue initial_style
initial_style_ordinary forms = mapped initial (initial_ordinary forms) every_property

value_in : (values : List Value) (n : ℕ) → All IsOrdinaryValue values → IsOrdinaryValue (get_or values n value.Initial)
value_in [] n h = tt
value_in (v ∷ values) zero h = All-head IsOrdinaryValue v values h
value_in (v ∷ values) (suc n) h = value_in values n (All-tail IsOrdinaryValue v values h)

-- ---- declarations

abbrev IsOrdinaryOne : Reached → Type 0
IsOrdinaryOne one = IsOrdinaryValue one.value

found_if : {A : Type 0} (P : A → Type 0) (b : Bool) (x : A) (o : Option A) → P x → IfSome o P → IfSome (cond b (Some x) o) P
found_if P true x o h g = h
found_if P false x o h g = g

found_among : {A : Type 0} (P : A → Type 0) (test : A → Bool) (xs : List A) → All P xs → IfSome (find test xs) P
found_among P test [] h = tt
found_among P test (x ∷ xs) h = found_if P (test x) x (find test xs) (All-head P x xs h) (found_among P test xs (All-tail P x xs h))

winner_ordinary : (p : Property) (only : Bool) (all : List Reached) → All IsOrdinaryOne all → IfSome (winner p only all) IsOrdinaryOne
unfolding winner
winner_ordinary p only all h =
    let some = filter (counts p only) all in
    found_among IsOrdinaryOne (is_greatest (λ one. key_parts one.key) some) some (All-filter (counts p only) IsOrdinaryOne all h)

unless_ordinary : (v : Value) (b : Bool) → IsOrdinaryValue v → IfSome (unless_initial v b) IsOrdinaryValue
unless_ordinary v false h = h
unless_ordinary v true h = tt

given_ordinary : (o : Option Reached) → IfSome o IsOrdinaryOne → IfSome (given o) IsOrdinaryValue
given_ordinary None h = tt
given_ordinary (Some one) h = unless_ordinary one.value (is_initial one.value) h

instead : (a b : Option Value) → IfSome a IsOrdinaryValue → IfSome b IsOrdinaryValue → IfSome (option_map_or (λ v. Some v) a b) IsOrdinaryValue
instead None b h g = g
instead (Some v) b h g = h

or_default_ordinary : (o below : Option Reached) → IfSome o IsOrdinaryOne → IfSome below IsOrdinaryOne → IfSome (or_default o below) IsOrdinaryValue
or_default_ordinary None below h g = tt
or_default_ordinary (Some one) below h g = instead (given (Some one)) (given below) (given_ordinary (Some one) h) (given_ordinary below g)

declared_ordinary : (p : Property) (all : List Reached) → All IsOrdinaryOne all → IfSome (declared p all) IsOrdinaryValue
declared_ordinary p all h = or_default_ordinary (winner p false all) (winner p true all) (winner_ordinary p false all h) (winner_ordinary p true all h)

or_other : (o : Option Value) (other : Value) → IfSome o IsOrdinaryValue → IsOrdinaryValue other → IsOrdinaryValue (unwrap_or o other)
or_other None other h g = g
or_other (Some v) other h g = h

valued_ordinary : OneForm → (i : Inheritance) (p : Property) (above : Value) (o : Option Value) → IsOrdinaryValue above → IfSome o IsOrdinaryValue → IsOrdinaryValue (valued i p above o)
valued_ordinary forms NotInherited p above o h g = or_other o (initial p) g (initial_ordinary forms p)
valued_ordinary forms Inherited p above o h g = or_other o above g h
valued_ordinary forms Added p above o h g = tt

below_ordinary : OneForm → (above : List Value) (all : List Reached) → All IsOrdinaryValue above → All IsOrdinaryOne all → All IsOrdinaryValue (style_below above all)
unfolding style_below
below_ordinary forms above all h g =
    mapped (value_below above all) (λ p. valued_ordinary forms (inheritance_of p) p (style_value above p) (declared p all) (value_in above (number p) h) (declared_ordinary p all g)) every_property

-- ---- what reaches a row

numbered_ordinary : (origin : Origin) (weight : Weight) (rule n : ℕ) (ds : List DeclarationValue) → AreOrdinaryDeclarations ds → All IsOrdinaryOne (map (reached origin weight rule) (enumerate_from n ds))
numbered_ordinary origin weight rule n [] h = All-nil IsOrdinaryOne
numbered_ordinary origin weight rule n (d ∷ ds) h =
    All-cons IsOrdinaryOne (reached origin weight rule (n, d)) (map (reached origin weight rule) (enumerate_from (n + 1) ds)) (All-head (λ declaration. IsOrdinaryValue declaration.value) d ds h)
    (numbered_ordinary origin weight rule (n + 1) ds (All-tail (λ declaration. IsOrdinaryValue declaration.value) d ds h))

rule_by : (origin : Origin) (n : ℕ) (rule : RuleValue) (o : Option Weight) → AreOrdinaryDeclarations rule.declarations → All IsOrdinaryOne (option_map_or (λ weight. all_reached origin weight n rule.declarations) o [])
rule_by origin n rule None h = All-nil IsOrdinaryOne
rule_by origin n rule (Some weight) h = numbered_ordinary origin weight n 0 rule.declarations h

rules_from : (matcher : Matcher) (origin : Origin) (n : ℕ) (rules : List RuleValue) → AreOrdinaryRules rules → All IsOrdinaryOne (flat_map (of_rule matcher origin) (enumerate_from n rules))
rules_from matcher origin n [] h = All-nil IsOrdinaryOne
rules_from matcher origin n (rule ∷ rules) h =
    All-append IsOrdinaryOne (of_rule matcher origin (n, rule)) (flat_map (of_rule matcher origin) (enumerate_from (n + 1) rules))
    (rule_by origin n rule (weight_at matcher rule.selectors) (All-head (λ rule. AreOrdinaryDeclarations rule.declarations) rule rules h))
    (rules_from matcher origin (n + 1) rules (All-tail (λ rule. AreOrdinaryDeclarations rule.declarations) rule rules h))

rules_ordinary : (matcher : Matcher) (origin : Origin) (rules : List RuleValue) → AreOrdinaryRules rules → All IsOrdinaryOne (of_rules matcher origin rules)
unfolding of_rules
rules_ordinary matcher origin rules h = rules_from matcher origin 0 rules h

reaching_ordinary : (matcher : Matcher) (sheet : SheetValue) (inline : List ℕ) → AreOrdinaryRules sheet.defaults → AreOrdinaryRules sheet.rules → AreOrdinaryDeclarations (inline_declarations inline)
    → All IsOrdinaryOne (reaching matcher sheet inline)
unfolding reaching
reaching_ordinary matcher sheet inline d r i =
    let own = all_reached Inline no_weight 0 (inline_declarations inline) in
    All-append IsOrdinaryOne (of_rules matcher Default sheet.defaults) (of_rules matcher Sheet sheet.rules ++ own) (rules_ordinary matcher Default sheet.defaults d)
    (All-append IsOrdinaryOne (of_rules matcher Sheet sheet.rules) own (rules_ordinary matcher Sheet sheet.rules r) (numbered_ordinary Inline no_weight 0 0 (inline_declarations inline) i))

-- ---- the default sheet

is_few : ℤ → Bool
is_few (pos n) = nat_le n 100
is_few (negsuc n) = false

-- a whole number of at most 100
abbrev is_plain_scalar : Scalar → Bool
is_plain_scalar s = is_few s.value.num && (s.value.den == 1)

-- such a size, or none
abbrev is_plain : Value → Bool
is_plain (value.Size s) = is_plain_scalar s
is_plain (value.Sizes ss) = false
is_plain _ = true

few_ordinary : OneForm → (z : ℤ) → is_few z ≡ true → (x : Ratio) → x ≡ whole_of z → IsShortDecimal x
unfolding is_few
few_ordinary forms (pos n) is x e =
    let most : n ≤ 100 = leb-true n 100 is in
    record { thousandths = n * 1000; digits = omega (arith, most); value = subst (IsRatio (pos (n * 1000)) 1000) (sym e) (forms.whole (pos n) 1000) }
few_ordinary forms (negsuc n) is x e = absurd (let clash : ⊥ = cc in clash)

plain_scalar : OneForm → (s : Scalar) → is_plain_scalar s ≡ true → IsOrdinaryScalar s
plain_scalar forms s is =
    let parts = and_parts (is_few s.value.num) (s.value.den == 1) is in
    few_ordinary forms s.value.num parts.0 s.value (same_ratio s.value.num s.value.den (eqb-true s.value.den 1 parts.1))
  where
    same_ratio : (n : ℤ) (d : ℕ) → d ≡ 1 → (let x : Ratio = record { num = n; den = d } in x) ≡ whole_of n
    same_ratio n d e = cc

plain_ordinary : OneForm → (v : Value) → is_plain v ≡ true → IsOrdinaryValue v
plain_ordinary forms (value.Size s) is = plain_scalar forms s is
plain_ordinary forms (value.Sizes ss) is = absurd (let clash : ⊥ = cc in clash)
plain_ordinary forms _ is = tt

plain_declarations : OneForm → (ds : List DeclarationValue) → list_all (λ (d : DeclarationValue). is_plain d.value) ds ≡ true → AreOrdinaryDeclarations ds
plain_declarations forms [] is = All-nil (λ declaration. IsOrdinaryValue declaration.value)
plain_declarations forms (d ∷ ds) is =
    let parts = and_parts (is_plain d.value) (list_all (λ (d : DeclarationValue). is_plain d.value) ds) is in
    All-cons (λ declaration. IsOrdinaryValue declaration.value) d ds (plain_ordinary forms d.value parts.0) (plain_declarations forms ds parts.1)

abbrev is_plain_rule : RuleValue → Bool
is_plain_rule rule = list_all (λ (d : DeclarationValue). is_plain d.value) rule.declarations

plain_rules : OneForm → (rules : List RuleValue) → list_all is_plain_rule rules ≡ true → AreOrdinaryRules rules
plain_rules forms [] is = All-nil (λ rule. AreOrdinaryDeclarations rule.declarations)
plain_rules forms (rule ∷ rules) is =
    let parts = and_parts (is_plain_rule rule) (list_all is_plain_rule rules) is in
    All-cons (λ rule. AreOrdinaryDeclarations rule.declarations) rule rules (plain_declarations forms rule.declarations parts.0) (plain_rules forms rules parts.1)

all_plain : list_all is_plain_rule default_rules ≡ true
unfolding default_rules is_few
all_plain = refl

defaults_ordinary : OneForm → (sheet : SheetValue) → sheet.defaults ≡ default_rules → AreOrdinaryRules sheet.defaults
defaults_ordinary forms sheet is = subst AreOrdinaryRules (sym is) (plain_rules forms default_rules all_plain)

-- ---- rows

abbrev HasOrdinaryText : Row → Type 0
HasOrdinaryText row = AreOrdinaryDeclarations (inline_declarations row.inline)

pub styled_ordinary : OneForm → (matchers : ℕ → Matcher) (sheet : SheetValue) → IsOrdinarySheet sheet → (rows : List Row) → All HasOrdinaryText rows → All IsOrdinaryValue (styled matchers sheet rows)
styled_ordinary forms matchers sheet o [] h = initial_style_ordinary forms
styled_ordinary forms matchers sheet o (row ∷ above) h =
    below_ordinary forms (styled matchers sheet above) (reaching (matchers (number_of row)) sheet row.inline) (styled_ordinary forms matchers sheet o above (All-tail HasOrdinaryText row above h))
    (reaching_ordinary (matchers (number_of row)) sheet row.inline (defaults_ordinary forms sheet o.defaults) o.rules (All-head HasOrdinaryText row above h))

-- ---- the styles of a tree

before_all : (P : Row → Type 0) (n : ℕ) (rows : List Row) → All P rows → All P (before_of n rows)
before_all P n [] h = h
before_all P n (row ∷ rows) h = by (has_number n row) (All-cons P row (before_of n rows) (All-head P row rows h) (before_all P n rows (All-tail P row rows h)))
  where
    by : (b : Bool) → All P (row ∷ before_of n rows) → All P (cond b [] (row ∷ before_of n rows))
    by true later = All-nil P
    by false later = later

last_if : (P : Row → Type 0) (b : Bool) (row : Row) (found : Option Row) → P row → IfSome found P → IfSome (cond b (Some row) found) P
last_if P true row found h g = h
last_if P false row found h g = g

last_all : (P : Row → Type 0) (depth : ℕ) (found : Option Row) (rows : List Row) → IfSome found P → All P rows → IfSome (last_above depth found rows) P
last_all P depth found [] g h = g
last_all P depth found (row ∷ rows) g h =
    last_all P depth (cond (row.depth + 1 == depth) (Some row) found) rows (last_if P (row.depth + 1 == depth) row found (All-head P row rows h) g) (All-tail P row rows h)

parent_all : (P : Row → Type 0) (n : ℕ) (rows : List Row) → All P rows → IfSome (parent_of n rows) P
parent_all P n rows h = by (row_at n rows)
  where
    by : (o : Option Row) → IfSome (option_and_then (λ row. last_above row.depth None (before_of n rows)) o) P
    by None = tt
    by (Some row) = last_all P row.depth None (before_of n rows) tt (before_all P n rows h)

ancestors_all : (P : Row → Type 0) (count n : ℕ) (rows : List Row) → All P rows → All P (ancestors_within count n rows)
ancestors_all P zero n rows h = All-nil P
ancestors_all P (suc count) n rows h = by (parent_of n rows) (parent_all P n rows h) (λ m. ancestors_all P count m rows h)
  where
    by : (o : Option Row) → IfSome o P → ((m : ℕ) → All P (ancestors_within count m rows)) → All P (option_map_or (λ row. row ∷ ancestors_within count row.node.0 rows) o [])
    by None g later = All-nil P
    by (Some row) g later = All-cons P row (ancestors_within count row.node.0 rows) g (later row.node.0)

style_by : OneForm → (sheet : SheetValue) (state : State) (rows : List Row) (n : ℕ) → IsOrdinarySheet sheet → All HasOrdinaryText rows → (o : Option Row) → IfSome o HasOrdinaryText
    → All IsOrdinaryValue (unwrap_or (option_map (λ row. styled (matchers_of state rows) sheet (row ∷ ancestors_of n rows)) o) initial_style)
style_by forms sheet state rows n o h None g = initial_style_ordinary forms
style_by forms sheet state rows n o h (Some row) g =
    styled_ordinary forms (matchers_of state rows) sheet o (row ∷ ancestors_of n rows) (All-cons HasOrdinaryText row (ancestors_of n rows) g (ancestors_all HasOrdinaryText (depth_of n rows) n rows h))

pub own_style : OneForm → (sheet : SheetValue) (state : State) (rows : List Row) (n : ℕ) → IsOrdinarySheet sheet → All HasOrdinaryText rows → All IsOrdinaryValue (unwrap_or (all_styles sheet state rows n) initial_style)
unfolding all_styles
own_style forms sheet state rows n o h = style_by forms sheet state rows n o h (row_at n rows) (found_among HasOrdinaryText (has_number n) rows h)
