-- No two declarations that reach a row have one key.
use Rattle.std.proofs.Common.{◌≡◌, ℕ, ◌+◌, ◌≤◌, List, [], ◌∷◌, ◌++◌, map, Option, Some, None, sym, ap, ◌∙◌, arith, inl, inr}
use Rattle.std.specs.List.{enumerate_from, flat_map}
use Rattle.std.specs.Option.{option_map_or}
use Rattle.tx_parse.specs.Values.{DeclarationValue, RuleValue, SheetValue}
use Rattle.tx_cascade.specs.Key.{rank, key_parts}
use Rattle.tx_cascade.specs.Laws.{IsIn, AtMostOneGreatest}
use Rattle.tx_cascade.specs.Matchers.{Matcher}
use Rattle.tx_cascade.specs.Reaching.{weight_at, reached, all_reached, of_rule, of_rules, no_weight, inline_declarations, reaching}
use Rattle.tx_cascade.specs.declared.key.Origin.{Origin}
use Rattle.tx_cascade.specs.declared.key.Origin.TheVariants.{Default, Sheet, Inline}
use Rattle.tx_cascade.specs.declared.key.Weight.{Weight}
use Rattle.tx_cascade.specs.declared.reaching.Reached.{Reached}
use Rattle.tx_cascade.proofs.Lists.{in-append}
use Rattle.tx_cascade.proofs.Orders.{same-parts}

-- ---- the declarations of a rule

module _ (origin : Origin) (weight : Weight) (rule : ℕ) where
  pub placed-from : (k : ℕ) (ds : List DeclarationValue) (a : Reached) → IsIn a (map (reached origin weight rule) (enumerate_from k ds)) → (k ≤ a.key.place) × (a.key.rule ≡ rule) × (a.key.origin ≡ origin)
  placed-from k [] a is = absurd is
  placed-from k (d ∷ ds) a is = elim is [
    | inl e ↦
        let place : k ≡ a.key.place = ap (λ (r : Reached). r.key.place) e in
        (omega (arith, place), sym (ap (λ (r : Reached). r.key.rule) e), sym (ap (λ (r : Reached). r.key.origin) e))
    | inr more ↦ let rest = placed-from (k + 1) ds a more in (omega (arith, rest.0), rest.1, rest.2)
  ]

  one-placed : (k : ℕ) (ds : List DeclarationValue) (a b : Reached) → IsIn a (map (reached origin weight rule) (enumerate_from k ds)) → IsIn b (map (reached origin weight rule) (enumerate_from k ds))
      → a.key.place ≡ b.key.place → a ≡ b
  one-placed k [] a b first second same = absurd first
  one-placed k (d ∷ ds) a b first second same = elim first [
    | inl e ↦ elim second [
      | inl f ↦ sym e ∙ f
      | inr more ↦
          let place : k ≡ a.key.place = ap (λ (r : Reached). r.key.place) e in
          let rest = placed-from (k + 1) ds b more in
          absurd (omega (arith, place, same, rest.0))
    ]
    | inr others ↦ elim second [
      | inl f ↦
          let place : k ≡ b.key.place = ap (λ (r : Reached). r.key.place) f in
          let rest = placed-from (k + 1) ds a others in
          absurd (omega (arith, place, same, rest.0))
      | inr more ↦ one-placed (k + 1) ds a b others more same
    ]
  ]

-- ---- those of rules

abbrev held-at : Origin → ℕ → List DeclarationValue → Option Weight → List Reached
held-at origin k ds weight = option_map_or (λ w. all_reached origin w k ds) weight []

in-rule : (origin : Origin) (k : ℕ) (ds : List DeclarationValue) (weight : Option Weight) (a : Reached) → IsIn a (held-at origin k ds weight) → (a.key.rule ≡ k) × (a.key.origin ≡ origin)
in-rule origin k ds None a is = absurd is
in-rule origin k ds (Some weight) a is = let all = placed-from origin weight k 0 ds a is in (all.1, all.2)

one-in-rule : (origin : Origin) (k : ℕ) (ds : List DeclarationValue) (weight : Option Weight) (a b : Reached) → IsIn a (held-at origin k ds weight) → IsIn b (held-at origin k ds weight) → a.key.place ≡ b.key.place → a ≡ b
one-in-rule origin k ds None a b first second same = absurd first
one-in-rule origin k ds (Some weight) a b first second same = one-placed origin weight k 0 ds a b first second same

module _ (matcher : Matcher) (origin : Origin) where
  ruled-from : (k : ℕ) (rules : List RuleValue) (a : Reached) → IsIn a (flat_map (of_rule matcher origin) (enumerate_from k rules)) → (k ≤ a.key.rule) × (a.key.origin ≡ origin)
  ruled-from k [] a is = absurd is
  ruled-from k (rule ∷ rules) a is = elim (in-append a (of_rule matcher origin (k, rule)) (flat_map (of_rule matcher origin) (enumerate_from (k + 1) rules)) is) [
    | inl here ↦ let own = in-rule origin k rule.declarations (weight_at matcher rule.selectors) a here in (omega (arith, own.0), own.1)
    | inr more ↦ let rest = ruled-from (k + 1) rules a more in (omega (arith, rest.0), rest.1)
  ]

  one-ruled : (k : ℕ) (rules : List RuleValue) (a b : Reached) → IsIn a (flat_map (of_rule matcher origin) (enumerate_from k rules)) → IsIn b (flat_map (of_rule matcher origin) (enumerate_from k rules))
      → a.key.rule ≡ b.key.rule → a.key.place ≡ b.key.place → a ≡ b
  one-ruled k [] a b first second rule place = absurd first
  one-ruled k (r ∷ rules) a b first second rule place = elim (in-append a (of_rule matcher origin (k, r)) (flat_map (of_rule matcher origin) (enumerate_from (k + 1) rules)) first) [
    | inl here ↦ elim (in-append b (of_rule matcher origin (k, r)) (flat_map (of_rule matcher origin) (enumerate_from (k + 1) rules)) second) [
      | inl there ↦ one-in-rule origin k r.declarations (weight_at matcher r.selectors) a b here there place
      | inr more ↦
          let own = in-rule origin k r.declarations (weight_at matcher r.selectors) a here in
          let rest = ruled-from (k + 1) rules b more in
          absurd (omega (arith, own.0, rest.0, rule))
    ]
    | inr others ↦ elim (in-append b (of_rule matcher origin (k, r)) (flat_map (of_rule matcher origin) (enumerate_from (k + 1) rules)) second) [
      | inl there ↦
          let own = in-rule origin k r.declarations (weight_at matcher r.selectors) b there in
          let rest = ruled-from (k + 1) rules a others in
          absurd (omega (arith, own.0, rest.0, rule))
      | inr more ↦ one-ruled (k + 1) rules a b others more rule place
    ]
  ]

  pub from-rules : (rules : List RuleValue) (a : Reached) → IsIn a (of_rules matcher origin rules) → a.key.origin ≡ origin
  unfolding of_rules
  from-rules rules a is = (ruled-from 0 rules a is).1

  one-of-rules : (rules : List RuleValue) (a b : Reached) → IsIn a (of_rules matcher origin rules) → IsIn b (of_rules matcher origin rules) → a.key.rule ≡ b.key.rule → a.key.place ≡ b.key.place → a ≡ b
  unfolding of_rules
  one-of-rules rules a b first second rule place = one-ruled 0 rules a b first second rule place

-- ---- all

apart : (a b : Reached) (x y : Origin) → a.key.origin ≡ x → b.key.origin ≡ y → rank a.key.origin ≡ rank b.key.origin → rank x ≡ rank y
apart a b x y first second same = sym (ap rank first) ∙ (same ∙ ap rank second)

one-of-all : (matcher : Matcher) (sheet : SheetValue) (inline : List ℕ) (a b : Reached) → IsIn a (reaching matcher sheet inline) → IsIn b (reaching matcher sheet inline)
    → rank a.key.origin ≡ rank b.key.origin → a.key.rule ≡ b.key.rule → a.key.place ≡ b.key.place → a ≡ b
unfolding reaching
one-of-all matcher sheet inline a b first second same rule place = elim (in-append a low (middle ++ high) first) [
  | inl a0 ↦ elim (in-append b low (middle ++ high) second) [
    | inl b0 ↦ one-of-rules matcher Default sheet.defaults a b a0 b0 rule place
    | inr b1 ↦ elim (in-append b middle high b1) [
      | inl b2 ↦ let e = apart a b Default Sheet (from-rules matcher Default sheet.defaults a a0) (from-rules matcher Sheet sheet.rules b b2) same in absurd (omega (arith, e))
      | inr b3 ↦ let e = apart a b Default Inline (from-rules matcher Default sheet.defaults a a0) (own b b3) same in absurd (omega (arith, e))
    ]
  ]
  | inr a1 ↦ elim (in-append a middle high a1) [
    | inl a2 ↦ elim (in-append b low (middle ++ high) second) [
      | inl b0 ↦ let e = apart a b Sheet Default (from-rules matcher Sheet sheet.rules a a2) (from-rules matcher Default sheet.defaults b b0) same in absurd (omega (arith, e))
      | inr b1 ↦ elim (in-append b middle high b1) [
        | inl b2 ↦ one-of-rules matcher Sheet sheet.rules a b a2 b2 rule place
        | inr b3 ↦ let e = apart a b Sheet Inline (from-rules matcher Sheet sheet.rules a a2) (own b b3) same in absurd (omega (arith, e))
      ]
    ]
    | inr a3 ↦ elim (in-append b low (middle ++ high) second) [
      | inl b0 ↦ let e = apart a b Inline Default (own a a3) (from-rules matcher Default sheet.defaults b b0) same in absurd (omega (arith, e))
      | inr b1 ↦ elim (in-append b middle high b1) [
        | inl b2 ↦ let e = apart a b Inline Sheet (own a a3) (from-rules matcher Sheet sheet.rules b b2) same in absurd (omega (arith, e))
        | inr b3 ↦ one-placed Inline no_weight 0 0 (inline_declarations inline) a b a3 b3 place
      ]
    ]
  ]
]
  where
    low : List Reached
    low = of_rules matcher Default sheet.defaults

    middle : List Reached
    middle = of_rules matcher Sheet sheet.rules

    high : List Reached
    high = all_reached Inline no_weight 0 (inline_declarations inline)

    own : (r : Reached) → IsIn r (all_reached Inline no_weight 0 (inline_declarations inline)) → r.key.origin ≡ Inline
    own r is = (placed-from Inline no_weight 0 0 (inline_declarations inline) r is).2

pub at-most-one : AtMostOneGreatest
at-most-one matcher sheet inline one other first second under over =
    let same = same-parts (key_parts one.key) (key_parts other.key) under over in
    let origin : rank one.key.origin ≡ rank other.key.origin = cc in
    let rule : one.key.rule ≡ other.key.rule = cc in
    let place : one.key.place ≡ other.key.place = cc in
    one-of-all matcher sheet inline one other first second origin rule place
