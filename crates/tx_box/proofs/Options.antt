-- What an answer of a chain of steps that may fail tells of each step.
use Rattle.std.proofs.Common.{ap, ◌≡◌, ◌⊎◌, inl, inr, refl, Bool, true, false, Option, Some, None}
use Rattle.std.specs.Option.{option_and_then, option_map}

pub and_then_some : {A B : Type 0} (f : A → Option B) (o : Option A) (y : B) → option_and_then f o ≡ Some y → (x : A) × (o ≡ Some x) × (f x ≡ Some y)
and_then_some f None y e = absurd cc
and_then_some f (Some x) y e = (x, refl, e)

pub map_some : {A B : Type 0} (f : A → B) (o : Option A) (y : B) → option_map f o ≡ Some y → (x : A) × (o ≡ Some x) × (f x ≡ y)
map_some f None y e = absurd cc
map_some f (Some x) y e = (x, refl, let g : f x ≡ y = cc in g)

pub bool_cases : (b : Bool) → (b ≡ true) ⊎ (b ≡ false)
bool_cases true = inl refl
bool_cases false = inr refl

pub same_some : {A : Type 0} (x y : A) → Some x ≡ Some y → x ≡ y
same_some x y e = cc

abbrev pub pair : {A B : Type 0} → A → B → A × B
pair a b = (a, b)

pub same_first : {A B : Type 0} (a c : A) (b d : B) → Some (pair a b) ≡ Some (pair c d) → a ≡ c
same_first a c b d e = ap (λ x. x.0) (same_some (pair a b) (pair c d) e)

pub same_second : {A B : Type 0} (a c : A) (b d : B) → Some (pair a b) ≡ Some (pair c d) → b ≡ d
same_second a c b d e = ap (λ x. x.1) (same_some (pair a b) (pair c d) e)
