-- Readers that go by the first element, and those that are made of readers that look no further than where they stop.
use Rattle.std.proofs.Common.{◌≡◌, List, [], ◌∷◌, ◌++◌, Result, Ok, Err, refl, ap, sym, ◌∙◌}
use Rattle.std.proofs.lemmas.List.{append_cancel_right}
use Rattle.tx_read.specs.Reading.{Reader, in_turn, IsLocal, Leaves}
use Rattle.tx_read.proofs.lemmas.Cases.{Gave, given, refused, Failed, wrong, granted}
use Rattle.tx_read.proofs.lemmas.Locality.{in_turn-local, in_turn-leaves}

-- a reader of which both hold
pub record Plain {T F A : Type 0} (reader : Reader (List T) (F × List T) A) : Type 0 where
  pub local : IsLocal reader
  pub leaves : Leaves reader

pub turn : {T F A B : Type 0} (first : Reader (List T) (F × List T) A) (second : A → Reader (List T) (F × List T) B) → Plain first → ((a : A) → Plain (second a)) → Plain (in_turn first second)
turn first second p q = record {
  local = in_turn-local first second p.local p.leaves (λ a. (q a).local) (λ a. (q a).leaves);
  leaves = in_turn-leaves first second p.leaves (λ a. (q a).leaves);
}

pub same : {T F A : Type 0} (one two : Reader (List T) (F × List T) A) → ((ts : List T) → one ts ≡ two ts) → Plain two → Plain one
same one two e p = record {
  local = record {
    value = λ front more other t a is. e (front ++ (t ∷ other)) ∙ p.local.value front more other t a (sym (e (front ++ (t ∷ more))) ∙ is);
    fault = λ front more other t kind is. e (front ++ (t ∷ other)) ∙ p.local.fault front more other t kind (sym (e (front ++ (t ∷ more))) ∙ is);
  };
  leaves = record {
    value = λ xs rest a is. p.leaves.value xs rest a (sym (e xs) ∙ is);
    fault = λ xs rest kind is. p.leaves.fault xs rest kind (sym (e xs) ∙ is);
  };
}

-- ---- readers that go by the first token

pub data Step (F A : Type 0) : Type 0 where
  Take : A → Step F A
  Leave : A → Step F A
  Refuse : F → Step F A

abbrev pub stepped : {T F A : Type 0} → T → List T → Step F A → Result (A × List T) (F × List T)
stepped t ts (Take a) = Ok (a, ts)
stepped t ts (Leave a) = Ok (a, t ∷ ts)
stepped t ts (Refuse kind) = Err (kind, t ∷ ts)

abbrev pub at_end : {T F A : Type 0} → Result A F → Result (A × List T) (F × List T)
at_end (Ok a) = Ok (a, [])
at_end (Err kind) = Err (kind, [])

abbrev pub by_first : {T F A : Type 0} → Result A F → (T → Step F A) → Reader (List T) (F × List T) A
by_first end step [] = at_end end
by_first end step (t ∷ ts) = stepped t ts (step t)

-- a list isn't one that is longer
pub no_longer : {T : Type 0} (front xs : List T) (t : T) → (t ∷ front) ++ xs ≡ xs → ⊥
no_longer {T = T} front xs t is =
    let clash : t ∷ front ≡ [] = append_cancel_right (t ∷ front) [] xs is in cc

here-value : {T F A : Type 0} (t : T) (more other : List T) (a : A) (step : Step F A) → Gave (stepped t more step) a (t ∷ more) → Gave (stepped t other step) a (t ∷ other)
here-value t more other a (Take b) is = absurd (no_longer [] more t (sym (given b a more (t ∷ more) is).1))
here-value t more other a (Leave b) is = ap (λ x. Ok (x, t ∷ other)) (given b a (t ∷ more) (t ∷ more) is).0
here-value t more other a (Refuse kind) is = absurd (refused (kind, t ∷ more) a (t ∷ more) is)

here-fault : {T F A : Type 0} (t : T) (more other : List T) (kind : F) (step : Step F A) → Failed (stepped t more step) kind (t ∷ more) → Failed (stepped t other step) kind (t ∷ other)
here-fault t more other kind (Take b) is = absurd (granted (b, more) kind (t ∷ more) is)
here-fault t more other kind (Leave b) is = absurd (granted (b, t ∷ more) kind (t ∷ more) is)
here-fault {A = A} t more other kind (Refuse one) is = ap (λ k. Err (k, t ∷ other)) (wrong {A = A} one kind (t ∷ more) (t ∷ more) is).0

there-value : {T F A : Type 0} (x t : T) (front more other : List T) (a : A) (step : Step F A) → Gave (stepped x (front ++ (t ∷ more)) step) a (t ∷ more) → Gave (stepped x (front ++ (t ∷ other)) step) a (t ∷ other)
there-value x t front more other a (Take b) is =
    let parts : (b ≡ a) × (front ++ (t ∷ more) ≡ t ∷ more) = given b a (front ++ (t ∷ more)) (t ∷ more) is in
    let none : front ≡ [] = append_cancel_right front [] (t ∷ more) parts.1 in
    ap (λ f. Ok (b, f ++ (t ∷ other))) none ∙ ap (λ v. Ok (v, t ∷ other)) parts.0
there-value x t front more other a (Leave b) is = absurd (no_longer front (t ∷ more) x (given b a (x ∷ (front ++ (t ∷ more))) (t ∷ more) is).1)
there-value x t front more other a (Refuse kind) is = absurd (refused (kind, x ∷ (front ++ (t ∷ more))) a (t ∷ more) is)

there-fault : {T F A : Type 0} (x t : T) (front more other : List T) (kind : F) (step : Step F A) → Failed (stepped x (front ++ (t ∷ more)) step) kind (t ∷ more) → Failed (stepped x (front ++ (t ∷ other)) step) kind (t ∷ other)
there-fault x t front more other kind (Take b) is = absurd (granted (b, front ++ (t ∷ more)) kind (t ∷ more) is)
there-fault x t front more other kind (Leave b) is = absurd (granted (b, x ∷ (front ++ (t ∷ more))) kind (t ∷ more) is)
there-fault {A = A} x t front more other kind (Refuse one) is = absurd (no_longer front (t ∷ more) x (wrong {A = A} one kind (x ∷ (front ++ (t ∷ more))) (t ∷ more) is).1)

stepped-value : {T F A : Type 0} (t : T) (ts rest : List T) (a : A) (step : Step F A) → Gave (stepped t ts step) a rest → (piece : List T) × (t ∷ ts ≡ piece ++ rest)
stepped-value t ts rest a (Take b) is = (t ∷ [], ap (λ xs. t ∷ xs) (given b a ts rest is).1)
stepped-value t ts rest a (Leave b) is = ([], (given b a (t ∷ ts) rest is).1)
stepped-value t ts rest a (Refuse kind) is = absurd (refused (kind, t ∷ ts) a rest is)

stepped-fault : {T F A : Type 0} (t : T) (ts rest : List T) (kind : F) (step : Step F A) → Failed (stepped t ts step) kind rest → (piece : List T) × (t ∷ ts ≡ piece ++ rest)
stepped-fault t ts rest kind (Take b) is = absurd (granted (b, ts) kind rest is)
stepped-fault t ts rest kind (Leave b) is = absurd (granted (b, t ∷ ts) kind rest is)
stepped-fault {A = A} t ts rest kind (Refuse one) is = ([], (wrong {A = A} one kind (t ∷ ts) rest is).1)

end-value : {T F A : Type 0} (end : Result A F) (a : A) (rest : List T) → Gave (at_end end) a rest → [] ≡ rest
end-value (Ok b) a rest is = (given b a [] rest is).1
end-value (Err kind) a rest is = absurd (refused (kind, []) a rest is)

end-fault : {T F A : Type 0} (end : Result A F) (kind : F) (rest : List T) → Failed (at_end end) kind rest → [] ≡ rest
end-fault (Ok b) kind rest is = absurd (granted (b, []) kind rest is)
end-fault {A = A} (Err one) kind rest is = (wrong {A = A} one kind [] rest is).1

pub first-plain : {T F A : Type 0} (end : Result A F) (step : T → Step F A) → Plain (by_first end step)
first-plain {T = T} {F = F} {A = A} end step = record {
  local = record { value = value; fault = fault };
  leaves = record { value = left; fault = left_fault };
}
  where
    value : (front more other : List T) (t : T) (a : A) → by_first end step (front ++ (t ∷ more)) ≡ Ok (a, t ∷ more) → by_first end step (front ++ (t ∷ other)) ≡ Ok (a, t ∷ other)
    value [] more other t a is = here-value t more other a (step t) is
    value (x ∷ front) more other t a is = there-value x t front more other a (step x) is

    fault : (front more other : List T) (t : T) (kind : F) → by_first end step (front ++ (t ∷ more)) ≡ Err (kind, t ∷ more) → by_first end step (front ++ (t ∷ other)) ≡ Err (kind, t ∷ other)
    fault [] more other t kind is = here-fault t more other kind (step t) is
    fault (x ∷ front) more other t kind is = there-fault x t front more other kind (step x) is

    left : (xs rest : List T) (a : A) → by_first end step xs ≡ Ok (a, rest) → (piece : List T) × (xs ≡ piece ++ rest)
    left [] rest a is = ([], end-value end a rest is)
    left (t ∷ ts) rest a is = stepped-value t ts rest a (step t) is

    left_fault : (xs rest : List T) (kind : F) → by_first end step xs ≡ Err (kind, rest) → (piece : List T) × (xs ≡ piece ++ rest)
    left_fault [] rest kind is = ([], end-fault end kind rest is)
    left_fault (t ∷ ts) rest kind is = stepped-fault t ts rest kind (step t) is

-- this, without reading on
abbrev pub give : {T F A : Type 0} → A → Reader (List T) (F × List T) A
give a xs = Ok (a, xs)

-- a reader that takes nothing
pub give-plain : {T F A : Type 0} (a : A) → Plain {T = T} {F = F} (give a)
give-plain {T = T} {F = F} a = same (give a) (by_first (Ok a) (λ t. Leave a)) of (first-plain (Ok a) (λ t. Leave a))
  where
    of : (ts : List T) → give {F = F} a ts ≡ by_first (Ok a) (λ t. Leave a) ts
    of [] = refl
    of (t ∷ ts) = refl
