-- The parts of an answer of a reader.
use Rattle.std.proofs.Common.{◌≡◌, List, Result, Ok, Err, refl, ap}
use Rattle.tx_read.specs.Reading.{◌>>=◌}

abbrev pub Gave : {T F A : Type 0} → Result (A × List T) (F × List T) → A → List T → Type 0
Gave read a rest = read ≡ Ok (a, rest)

pub given : {T F A : Type 0} (a b : A) (s t : List T) → Gave {F = F} (Ok (a, s)) b t → (a ≡ b) × (s ≡ t)
given {T = T} {F = F} {A = A} a b s t is = let pair : ◌≡◌ {A = A × List T} (a, s) (b, t) = cc in (ap (λ (p : A × List T). p.0) pair, ap (λ (p : A × List T). p.1) pair)

pub refused : {T F A : Type 0} (fault : F × List T) (b : A) (t : List T) → Gave (Err fault) b t → ⊥
refused fault b t is = cc

abbrev pub Failed : {T F A : Type 0} → Result (A × List T) (F × List T) → F → List T → Type 0
Failed read kind rest = read ≡ Err (kind, rest)

pub wrong : {T F A : Type 0} (k l : F) (s t : List T) → Failed {A = A} (Err (k, s)) l t → (k ≡ l) × (s ≡ t)
wrong {T = T} {F = F} {A = A} k l s t is = let pair : ◌≡◌ {A = F × List T} (k, s) (l, t) = cc in (ap (λ (p : F × List T). p.0) pair, ap (λ (p : F × List T). p.1) pair)

pub granted : {T F A : Type 0} (found : A × List T) (kind : F) (t : List T) → Failed (Ok found) kind t → ⊥
granted found kind t is = cc

-- both parts of one that was read behind another
pub both : {T F A B : Type 0} (first : Result (A × List T) (F × List T)) (next : A × List T → Result (B × List T) (F × List T)) (b : B) (rest : List T) → Gave (first >>= next) b rest
    → (a : A × List T) × (first ≡ Ok a) × (next a ≡ Ok (b, rest))
both (Ok a) next b rest is = (a, refl, is)
both (Err fault) next b rest is = absurd (refused fault b rest is)
