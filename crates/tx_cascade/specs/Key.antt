-- The order of declarations: by the parts of their keys.
use Rattle.std.specs.Prelude.{ℕ, ◌==◌, nat_lt, Bool, true, false, not, List, [], ◌∷◌, Option, Some, None, if◌then◌else◌}
use Rattle.std.specs.List.{find, list_any}
use Rattle.tx_cascade.specs.declared.key.Key.{Key}
use Rattle.tx_cascade.specs.declared.key.Origin.{Origin}
use Rattle.tx_cascade.specs.declared.key.Origin.TheVariants.{Default, Sheet, Inline}
use Rattle.tx_cascade.specs.declared.key.Weight.{Weight}

-- the default sheet stands lowest, and a row's own declarations highest
abbrev pub rank : Origin → ℕ
rank Default = 0
rank Sheet = 1
rank Inline = 2

abbrev pub importance : Bool → ℕ
importance false = 0
importance true = 1

-- the parts of a selector's specificity, the weightiest one first
abbrev pub weight_parts : Weight → List ℕ
weight_parts weight = weight.ids ∷ weight.classes ∷ weight.types ∷ []

-- the parts of a declaration's key, the weightiest one first
abbrev pub key_parts : Key → List ℕ
key_parts key =
    importance key.important
    ∷ rank key.origin
    ∷ key.weight.ids
    ∷ key.weight.classes
    ∷ key.weight.types
    ∷ key.rule
    ∷ key.place
    ∷ []

-- Parts are compared one by one: the first in which they differ decides.
abbrev pub exceeds : List ℕ → List ℕ → Bool
exceeds [] ys = false
exceeds (x ∷ xs) [] = true
exceeds (x ∷ xs) (y ∷ ys) = if x == y then exceeds xs ys else nat_lt y x

-- none of some things exceeds this one
abbrev pub is_greatest : {A : Type 0} → (A → List ℕ) → List A → A → Bool
is_greatest parts all a = not (list_any (λ b. exceeds (parts b) (parts a)) all)

-- the greatest of some things, if there are any: the first that none of them exceeds
abbrev pub greatest : {A : Type 0} → (A → List ℕ) → List A → Option A
greatest parts all = find (is_greatest parts all) all

-- of the greatest of some things, if there is one, and of one thing more the greater: the first of equal ones
abbrev pub greater : {A : Type 0} → (A → List ℕ) → Option A → A → Option A
greater parts None a = Some a
greater parts (Some held) a = if exceeds (parts a) (parts held) then Some a else Some held
