-- What the order of keys is.
use Rattle.std.proofs.Common.{◌≡◌, ◌⊎◌, ℕ, ◌<◌, ◌==◌, nat_lt, Bool, true, false, List, [], ◌∷◌, refl, sym, ap, ◌∙◌, arith, inl, inr}
use Rattle.std.proofs.lemmas.Bool.{cases_Bool, eq-eqb, eqb-true, lt-ltb, false≢true}
use Rattle.std.proofs.lemmas.Bool.Decides.{nat_tests}
use Rattle.std.specs.Prelude.{if◌then◌else◌}
use Rattle.tx_cascade.specs.Key.{rank, importance, key_parts, exceeds}
use Rattle.tx_cascade.specs.Laws.{ImportantWins, SpecificWins, LaterWins, NearerWins}
use Rattle.tx_cascade.specs.declared.key.Key.{Key}
use Rattle.tx_cascade.specs.declared.key.Origin.TheVariants.{Default, Sheet, Inline}
use Rattle.tx_cascade.specs.declared.key.Weight.{Weight}

-- a greater first part decides
pub first-decides : (x y : ℕ) (xs ys : List ℕ) → y < x → exceeds (x ∷ xs) (y ∷ ys) ≡ true
first-decides x y xs ys less = let other : (x == y) ≡ false = grind (arith, nat_tests) in rw (other, lt-ltb y x less) refl

-- equal ones leave it to the rest
pub rest-decides : (x y : ℕ) (xs ys : List ℕ) → x ≡ y → exceeds xs ys ≡ true → exceeds (x ∷ xs) (y ∷ ys) ≡ true
rest-decides x y xs ys same rest = rw (eq-eqb x y same) rest

-- the parts of a key behind its first ones
abbrev from-place : Key → List ℕ
from-place key = key.place ∷ []

abbrev from-rule : Key → List ℕ
from-rule key = key.rule ∷ from-place key

abbrev from-types : Key → List ℕ
from-types key = key.weight.types ∷ from-rule key

abbrev from-classes : Key → List ℕ
from-classes key = key.weight.classes ∷ from-types key

abbrev from-ids : Key → List ℕ
from-ids key = key.weight.ids ∷ from-classes key

abbrev from-origin : Key → List ℕ
from-origin key = rank key.origin ∷ from-ids key

pub important-wins : ImportantWins
important-wins one other is isnt =
    first-decides (importance one.important) (importance other.important) (from-origin one) (from-origin other) (rw (is, isnt) (omega arith))

same-head : (one other : Key) → one.important ≡ other.important → one.origin ≡ other.origin
    → exceeds (from-ids one) (from-ids other) ≡ true
    → exceeds (key_parts one) (key_parts other) ≡ true
same-head one other important origin rest =
    rest-decides (importance one.important) (importance other.important) (from-origin one) (from-origin other) (ap importance important) (rest-decides (rank one.origin) (rank other.origin) (from-ids one) (from-ids other) (ap rank origin) rest)

pub specific-wins : SpecificWins
specific-wins one other first second more =
    same-head one other (first.1 ∙ sym second.1) (first.0 ∙ sym second.0)
    (elim more [
      | inl ids ↦ first-decides one.weight.ids other.weight.ids (from-classes one) (from-classes other) ids
      | inr rest ↦ rest-decides one.weight.ids other.weight.ids (from-classes one) (from-classes other) (same-ids rest)
          (elim rest [
            | inl classes ↦ first-decides one.weight.classes other.weight.classes (from-types one) (from-types other) classes.1
            | inr types ↦ rest-decides one.weight.classes other.weight.classes (from-types one) (from-types other) types.1 (first-decides one.weight.types other.weight.types (from-rule one) (from-rule other) types.2)
          ])
    ])
  where
    same-ids : ((one.weight.ids ≡ other.weight.ids) × (other.weight.classes < one.weight.classes))
        ⊎ ((one.weight.ids ≡ other.weight.ids) × (one.weight.classes ≡ other.weight.classes) × (other.weight.types < one.weight.types)) → one.weight.ids ≡ other.weight.ids
    same-ids (inl classes) = classes.0
    same-ids (inr types) = types.0

pub later-wins : LaterWins
later-wins one other first second weight later =
    same-head one other (first.1 ∙ sym second.1) (first.0 ∙ sym second.0)
    (rest-decides one.weight.ids other.weight.ids (from-classes one) (from-classes other) (ap (λ (w : Weight). w.ids) weight)
    (rest-decides one.weight.classes other.weight.classes (from-types one) (from-types other) (ap (λ (w : Weight). w.classes) weight)
    (rest-decides one.weight.types other.weight.types (from-rule one) (from-rule other) (ap (λ (w : Weight). w.types) weight)
    (elim later [
      | inl rule ↦ first-decides one.rule other.rule (from-place one) (from-place other) rule
      | inr place ↦ rest-decides one.rule other.rule (from-place one) (from-place other) place.0 (first-decides one.place other.place [] [] place.1)
    ]))))

pub nearer-wins : NearerWins
nearer-wins one other important nearer =
    rest-decides (importance one.important) (importance other.important) (from-origin one) (from-origin other) (ap importance important) (first-decides (rank one.origin) (rank other.origin) (from-ids one) (from-ids other) (lower nearer))
  where
    lower : ((one.origin ≡ Inline) × (other.origin ≡ Sheet)) ⊎ (((one.origin ≡ Inline) × (other.origin ≡ Default)) ⊎ ((one.origin ≡ Sheet) × (other.origin ≡ Default))) → rank other.origin < rank one.origin
    lower (inl sheet) = rw (sheet.0, sheet.1) (omega arith)
    lower (inr (inl default)) = rw (default.0, default.1) (omega arith)
    lower (inr (inr default)) = rw (default.0, default.1) (omega arith)

same-step : (x y : ℕ) (p q : Bool) → (if x == y then p else nat_lt y x) ≡ false → (if y == x then q else nat_lt x y) ≡ false → (x ≡ y) × (p ≡ false) × (q ≡ false)
same-step x y p q under over = elim (cases_Bool (x == y)) [
  | inl is ↦
      let e : x ≡ y = eqb-true x y is in
      (e, rw is at under, rw (eq-eqb y x (sym e)) at over)
  | inr other ↦ absurd (grind (arith, nat_tests))
]

pub same-parts : (xs ys : List ℕ) → exceeds xs ys ≡ false → exceeds ys xs ≡ false → xs ≡ ys
same-parts [] [] under over = refl
same-parts [] (y ∷ ys) under over = absurd (false≢true (sym over))
same-parts (x ∷ xs) [] under over = absurd (false≢true (sym under))
same-parts (x ∷ xs) (y ∷ ys) under over =
    let step = same-step x y (exceeds xs ys) (exceeds ys xs) under over in
    ap (λ (z : ℕ). z ∷ xs) step.0 ∙ ap (λ (zs : List ℕ). y ∷ zs) (same-parts xs ys step.1 step.2)
