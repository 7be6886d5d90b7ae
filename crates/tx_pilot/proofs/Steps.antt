-- One step behind another, taken apart and put together.
use Rattle.std.proofs.Common.{◌≡◌, ◌⊎◌, inl, inr, ℕ, List, [], ◌∷◌, Option, Some, None, Result, Ok, Err, refl, ap, sym}
use Rattle.tx_read.specs.Answer.{or_refused}
use Rattle.tx_read.specs.Reading.{◌>>=◌}
use Rattle.tx_pilot.specs.declared.fault.LineKind.{LineKind}
use Rattle.tx_pilot.specs.declared.fault.LineKind.TheVariants.{Expected}
use Rattle.tx_pilot.specs.LineReading.{ended}

pub ok-same : {K A : Type 0} {x y : A} → ◌≡◌ {A = Result A K} (Ok x) (Ok y) → x ≡ y
ok-same h = cc

pub err-same : {K A : Type 0} {x y : K} → ◌≡◌ {A = Result A K} (Err x) (Err y) → x ≡ y
err-same h = cc

pub ok-err : {K A B : Type 0} {x : A} {y : K} → ◌≡◌ {A = Result A K} (Ok x) (Err y) → B
ok-err h = absurd cc

pub err-ok : {K A B : Type 0} {x : K} {y : A} → ◌≡◌ {A = Result A K} (Err x) (Ok y) → B
err-ok h = absurd cc

-- ---- two steps

pub bind-ok : {K A B : Type 0} (r : Result A K) (f : A → Result B K) (b : B) → (r >>= f) ≡ Ok b → (a : A) × (r ≡ Ok a) × (f a ≡ Ok b)
bind-ok (Ok a) f b h = (a, refl, h)
bind-ok (Err kind) f b h = err-ok h

pub bind-err : {K A B : Type 0} (r : Result A K) (f : A → Result B K) (kind : K) → (r >>= f) ≡ Err kind → (r ≡ Err kind) ⊎ ((a : A) × (r ≡ Ok a) × (f a ≡ Err kind))
bind-err (Ok a) f kind h = inr (a, refl, h)
bind-err {A = A} (Err k) f kind h = inl (ap (λ z. Err z) (err-same h))

pub refused-ok : {K A : Type 0} (kind : K) (o : Option A) (a : A) → or_refused kind o ≡ Ok a → o ≡ Some a
refused-ok kind (Some x) a h = ap Some (ok-same h)
refused-ok kind None a h = err-ok h

pub refused-err : {K A : Type 0} (kind k : K) (o : Option A) → or_refused kind o ≡ Err k → (o ≡ None) × (k ≡ kind)
refused-err kind k (Some x) h = ok-err h
refused-err kind k None h = (refl, sym (err-same h))

-- ---- the end

pub ended-ok : {A : Type 0} (a b : A) (rest : List ℕ) → ended a rest ≡ Ok b → (rest ≡ []) × (a ≡ b)
ended-ok a b [] h = (refl, ok-same h)
ended-ok a b (byte ∷ bytes) h = err-ok h

pub ended-err : {A : Type 0} (a : A) (kind : LineKind) (rest : List ℕ) → ended a rest ≡ Err kind → kind ≡ Expected
ended-err a kind [] h = ok-err h
ended-err a kind (byte ∷ bytes) h = sym (err-same h)
