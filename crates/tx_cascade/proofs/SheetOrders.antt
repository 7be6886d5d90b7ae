-- Rules of a sheet at a row: which of their declarations reach it, and which of two beats the other.
use Rattle.std.proofs.Common.{◌≡◌, ◌⊎◌, ℕ, ◌+◌, ◌<◌, ◌==◌, nat_lt, Bool, true, false, List, [], ◌∷◌, ◌++◌, map, filter, Option, Some, None, slice_get, refl, sym, ap, subst, ◌∙◌, inl, inr, arith}
use Rattle.std.specs.List.{enumerate_from}
use Rattle.std.specs.Option.{option_map_or}
use Rattle.std.specs.Prelude.{if◌then◌else◌}
use Rattle.std.proofs.lemmas.Bool.{cases_Bool, eqb-true, false≢true}
use Rattle.std.proofs.lemmas.Bool.Decides.{nat_tests}
use Rattle.tx_tree.specs.declared.row.Row.{Row}
use Rattle.tx_select.specs.Match.{IsMatch}
use Rattle.tx_select.specs.SelectorValue.{SelectorValue}
use Rattle.tx_select.specs.declared.value.Pseudo.{Pseudo as State}
use Rattle.tx_parse.specs.Values.{DeclarationValue, RuleValue, SheetValue}
use Rattle.tx_cascade.specs.Key.{rank, weight_parts, exceeds}
use Rattle.tx_cascade.specs.Laws.{IsIn, IsMoreSpecific}
use Rattle.tx_cascade.specs.Matchers.{Matcher, AreMatchers}
use Rattle.tx_cascade.specs.Reaching.{weight, weight_at, reached, all_reached, of_rule, of_rules, no_weight, inline_declarations, reaching}
use Rattle.tx_cascade.specs.SheetOrder.{CountsAs, Reaches, SheetReaches, SheetReachesRows, SheetsAreOrdered}
use Rattle.tx_cascade.specs.declared.key.Origin.{Origin}
use Rattle.tx_cascade.specs.declared.key.Origin.TheVariants.{Default, Sheet, Inline}
use Rattle.tx_cascade.specs.declared.key.Weight.{Weight}
use Rattle.tx_cascade.specs.declared.reaching.Reached.{Reached}
use Rattle.tx_cascade.proofs.Lists.{in-left, in-right, in-append, in-map, of-map, in-filter, of-filter, in-numbered, of-numbered, in-flat, of-flat, the-greatest, greatest-of}
use Rattle.tx_cascade.proofs.OneKey.{placed-from, from-rules}
use Rattle.tx_cascade.proofs.Orders.{first-decides, rest-decides, important-wins, specific-wins, later-wins}

-- ---- more specific

of-step : (x y : ℕ) (rest : Bool) → (if x == y then rest else nat_lt y x) ≡ true → (y < x) ⊎ ((x ≡ y) × (rest ≡ true))
of-step x y rest is = elim (cases_Bool (x == y)) [
  | inl same ↦ inr (eqb-true x y same, rw same at is)
  | inr other ↦ let less : nat_lt y x ≡ true = rw other at is in inl (grind (arith, nat_tests))
]

of-more : (a b : Weight) → exceeds (weight_parts a) (weight_parts b) ≡ true → IsMoreSpecific a b
of-more a b is = elim (of-step a.ids b.ids (exceeds (a.classes ∷ a.types ∷ []) (b.classes ∷ b.types ∷ [])) is) [
  | inl ids ↦ inl ids
  | inr r ↦ elim (of-step a.classes b.classes (exceeds (a.types ∷ []) (b.types ∷ [])) r.1) [
    | inl classes ↦ inr (inl (r.0, classes))
    | inr s ↦ elim (of-step a.types b.types (exceeds [] []) s.1) [
      | inl types ↦ inr (inr (r.0, s.0, types))
      | inr t ↦ absurd (false≢true t.1)
    ]
  ]
]

to-more : (a b : Weight) → IsMoreSpecific a b → exceeds (weight_parts a) (weight_parts b) ≡ true
to-more a b more = elim more [
  | inl ids ↦ first-decides a.ids b.ids (a.classes ∷ a.types ∷ []) (b.classes ∷ b.types ∷ []) ids
  | inr rest ↦ elim rest [
    | inl classes ↦ rest-decides a.ids b.ids (a.classes ∷ a.types ∷ []) (b.classes ∷ b.types ∷ []) classes.0 (first-decides a.classes b.classes (a.types ∷ []) (b.types ∷ []) classes.1)
    | inr types ↦ rest-decides a.ids b.ids (a.classes ∷ a.types ∷ []) (b.classes ∷ b.types ∷ []) types.0
        (rest-decides a.classes b.classes (a.types ∷ []) (b.types ∷ []) types.1 (first-decides a.types b.types [] [] types.2))
  ]
]

same-weight : (a b : Weight) → weight_parts a ≡ weight_parts b → a ≡ b
same-weight a b is =
    let ids : a.ids ≡ b.ids = cc in
    let classes : a.classes ≡ b.classes = cc in
    let types : a.types ≡ b.types = cc in
    ap (λ (i : ℕ). record a { ids = i }) ids ∙ (ap (λ (i : ℕ). record a { ids = b.ids; classes = i }) classes ∙ ap (λ (i : ℕ). record b { types = i }) types)

-- ---- a rule at a row

module _ (state : State) (rows : List Row) (n : ℕ) (matchers : ℕ → Matcher) (agree : AreMatchers state rows matchers) where
  abbrev fits : SelectorValue → Bool
  fits selector = matchers n selector.compounds

  abbrev weights : RuleValue → List Weight
  weights rule = map weight (filter fits rule.selectors)

  in-weights : (rule : RuleValue) (selector : SelectorValue) → IsIn selector rule.selectors → IsMatch state rows n selector.compounds → IsIn (weight selector) (weights rule)
  in-weights rule selector own matches = in-map weight selector (filter fits rule.selectors) (in-filter fits selector rule.selectors own (agree.whole n selector.compounds matches))

  pub counts-so : (rule : RuleValue) (so : Weight) → CountsAs state rows n rule so → weight_at (matchers n) rule.selectors ≡ Some so
  counts-so rule so counts =
      the-greatest weight_parts (weights rule) so
      (subst (λ (w : Weight). IsIn w (weights rule)) counts.specific (in-weights rule counts.selector counts.own counts.matches))
      top (λ b _. same-weight so b)
    where
      top : (b : Weight) → IsIn b (weights rule) → exceeds (weight_parts b) (weight_parts so) ≡ false
      top b is =
          let found = of-map weight b (filter fits rule.selectors) is in
          let own = of-filter fits found.0 rule.selectors found.1 in
          elim (cases_Bool (exceeds (weight_parts b) (weight_parts so))) [
            | inl over ↦ absurd (counts.most found.0 own.0 (agree.sound n found.0.compounds own.1) (subst (λ (w : Weight). IsMoreSpecific w so) (sym found.2) (of-more b so over)))
            | inr under ↦ under
          ]

  pub so-counts : (rule : RuleValue) (so : Weight) → weight_at (matchers n) rule.selectors ≡ Some so → CountsAs state rows n rule so
  so-counts rule so is =
      let top = greatest-of weight_parts (weights rule) so is in
      let found = of-map weight so (filter fits rule.selectors) top.0 in
      let own = of-filter fits found.0 rule.selectors found.1 in
      record {
        selector = found.0;
        own = own.0;
        matches = agree.sound n found.0.compounds own.1;
        specific = found.2;
        most = λ other in_it matches more. false≢true (sym (top.1 (weight other) (in-weights rule other in_it matches)) ∙ to-more (weight other) so more);
      }

  -- ---- the sheet at a row

  module _ (sheet : SheetValue) (inline : List ℕ) where
    abbrev low : List Reached
    low = of_rules (matchers n) Default sheet.defaults

    abbrev high : List Reached
    high = all_reached Inline no_weight 0 (inline_declarations inline)

    in-rule : (number place : ℕ) (rule : RuleValue) (declaration : DeclarationValue) (so : Weight) → weight_at (matchers n) rule.selectors ≡ Some so → slice_get rule.declarations place ≡ Some declaration
        → IsIn (reached Sheet so number (place, declaration)) (of_rule (matchers n) Sheet (number, rule))
    in-rule number place rule declaration so is placed =
        subst (λ (w : Option Weight). IsIn (reached Sheet so number (place, declaration)) (option_map_or (λ w. all_reached Sheet w number rule.declarations) w [])) (sym is)
        (in-map (reached Sheet so number) (place, declaration) (enumerate_from 0 rule.declarations)
        (subst (λ (i : ℕ). IsIn {A = ℕ × DeclarationValue} (i, declaration) (enumerate_from 0 rule.declarations)) (zero-more place) (in-numbered declaration rule.declarations 0 place placed)))
      where
        zero-more : (i : ℕ) → 0 + i ≡ i
        zero-more i = omega arith

    found-in : (number place : ℕ) (declaration : DeclarationValue) (so : Weight) → Reaches sheet state rows n number place declaration so
        → IsIn (reached Sheet so number (place, declaration)) (reaching (matchers n) sheet inline)
    unfolding reaching of_rules
    found-in number place declaration so reaches =
        let one = reached Sheet so number (place, declaration) in
        let none : 0 + number ≡ number = omega arith in
        in-right one low (of_rules (matchers n) Sheet sheet.rules ++ high)
        (in-left one (of_rules (matchers n) Sheet sheet.rules) high
        (in-flat (of_rule (matchers n) Sheet) (number, reaches.rule) one (enumerate_from 0 sheet.rules)
        (subst (λ (i : ℕ). IsIn {A = ℕ × RuleValue} (i, reaches.rule) (enumerate_from 0 sheet.rules)) none (in-numbered reaches.rule sheet.rules 0 number reaches.numbered))
        (in-rule number place reaches.rule declaration so (counts-so reaches.rule so reaches.counts) reaches.placed)))

    abbrev told : Reached → DeclarationValue
    told one = record { property = one.property; value = one.value; important = one.key.important }

    of-rule : (number : ℕ) (rule : RuleValue) (at : Option Weight) (one : Reached) → weight_at (matchers n) rule.selectors ≡ at → slice_get sheet.rules number ≡ Some rule
        → IsIn one (option_map_or (λ w. all_reached Sheet w number rule.declarations) at [])
        → Reaches sheet state rows n one.key.rule one.key.place (told one) one.key.weight
    of-rule number rule None one is numbered in_it = absurd in_it
    of-rule number rule (Some so) one is numbered in_it =
        let found = of-map (reached Sheet so number) one (enumerate_from 0 rule.declarations) in_it in
        let at = of-numbered found.0 rule.declarations 0 found.1 in
        let own : number ≡ one.key.rule = ap (λ (r : Reached). r.key.rule) found.2 in
        let place : at.0 ≡ one.key.place = omega (arith, at.2) ∙ ap (λ (r : Reached). r.key.place) found.2 in
        let is_so : so ≡ one.key.weight = ap (λ (r : Reached). r.key.weight) found.2 in
        let same : found.0.1 ≡ told one = ap told found.2 in
        record {
          rule = rule;
          numbered = subst (λ (i : ℕ). slice_get sheet.rules i ≡ Some rule) own numbered;
          placed = subst (λ (i : ℕ). slice_get rule.declarations i ≡ Some (told one)) place (at.1 ∙ ap (λ (d : DeclarationValue). Some d) same);
          counts = so-counts rule one.key.weight (is ∙ ap (λ (w : Weight). Some w) is_so);
        }

    other-origin : (one : Reached) (origin : Origin) → one.key.origin ≡ origin → one.key.origin ≡ Sheet → rank origin ≡ 1
    other-origin one origin is sheets = sym (ap rank is) ∙ ap rank sheets

    only-these : (one : Reached) → IsIn one (reaching (matchers n) sheet inline) → one.key.origin ≡ Sheet
        → Reaches sheet state rows n one.key.rule one.key.place (told one) one.key.weight
    unfolding reaching of_rules
    only-these one in_it sheets = elim (in-append one low (of_rules (matchers n) Sheet sheet.rules ++ high) in_it) [
      | inl default ↦ absurd (let e = other-origin one Default (from-rules (matchers n) Default sheet.defaults one default) sheets in omega (arith, e))
      | inr rest ↦ elim (in-append one (of_rules (matchers n) Sheet sheet.rules) high rest) [
        | inl own ↦
            let found = of-flat (of_rule (matchers n) Sheet) one (enumerate_from 0 sheet.rules) own in
            let at = of-numbered found.0 sheet.rules 0 found.1 in
            let number : at.0 ≡ found.0.0 = omega (arith, at.2) in
            of-rule found.0.0 found.0.1 (weight_at (matchers n) found.0.1.selectors) one refl
            (subst (λ (i : ℕ). slice_get sheet.rules i ≡ Some found.0.1) number at.1) found.2
        | inr inlined ↦ absurd (let e = other-origin one Inline (placed-from Inline no_weight 0 0 (inline_declarations inline) one inlined).2 sheets in omega (arith, e))
      ]
    ]

    pub all-these : SheetReaches sheet state rows n (matchers n) inline
    all-these = record { found = found-in; only = only-these }

pub sheet-reaches : SheetReachesRows
sheet-reaches sheet state rows n matchers inline agree = all-these state rows n matchers agree sheet inline

pub sheets-are-ordered : SheetsAreOrdered
sheets-are-ordered sheet state rows n = record {
  specific = λ number place other_number other_place one other so than first second plain plain_too more.
      specific-wins (reached Sheet so number (place, one)).key (reached Sheet than other_number (other_place, other)).key (refl, plain) (refl, plain_too) more;
  later = λ number place other_number other_place one other so than first second plain plain_too same later.
      later-wins (reached Sheet so number (place, one)).key (reached Sheet than other_number (other_place, other)).key (refl, plain) (refl, plain_too) same later;
  important = λ number place other_number other_place one other so than first second is isnt.
      important-wins (reached Sheet so number (place, one)).key (reached Sheet than other_number (other_place, other)).key is isnt;
}
