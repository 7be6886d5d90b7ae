-- Readers that go on over some tokens, and those whose answers are seen otherwise.
use Rattle.std.proofs.Common.{◌≡◌, ◌+◌, ◌≤◌, List, [], ◌∷◌, ◌++◌, length, Result, Ok, Err, refl, ap, ◌∙◌, arith, length-append}
use Rattle.tx_read.specs.Reading.{Reader}
use Rattle.tx_read.proofs.lemmas.Cases.{given, refused, wrong, granted}
use Rattle.tx_read.proofs.lemmas.LocalReaders.{Plain, no_longer}

-- ---- what a list is an end of

pub end_shorter : {T : Type 0} (xs rest : List T) → (piece : List T) × (xs ≡ piece ++ rest) → length rest ≤ length xs
end_shorter xs rest piece = let sized : length xs ≡ length piece.0 + length rest = ap length piece.1 ∙ length-append piece.0 rest in omega (arith, sized)

-- an end isn't longer
pub no_end : {T : Type 0} (t : T) (more : List T) → (piece : List T) × (more ≡ piece ++ (t ∷ more)) → ⊥
no_end t more piece = let sized : length more ≡ length piece.0 + length (t ∷ more) = ap length piece.1 ∙ length-append piece.0 (t ∷ more) in omega (arith, sized)

pub plain_shorter : {T F A : Type 0} (reader : Reader (List T) (F × List T) A) → Plain reader → (xs rest : List T) (a : A) → reader xs ≡ Ok (a, rest) → length rest ≤ length xs
plain_shorter reader plain xs rest a is = end_shorter xs rest (plain.leaves.value xs rest a is)

-- ---- going on over some tokens

pub data Go (S F : Type 0) : Type 0 where
  On : S → Go S F
  Off : Go S F
  Bad : F → Go S F

-- what is read, by what the first one tells
abbrev pub gone : {T S F : Type 0} → (S → Result (S × List T) (F × List T)) → S → T → List T → Go S F → Result (S × List T) (F × List T)
gone more s t ts (On next) = more next
gone more s t ts Off = Ok (s, t ∷ ts)
gone more s t ts (Bad kind) = Err (kind, t ∷ ts)

abbrev pub scanned : {T S F : Type 0} → (S → T → Go S F) → S → Reader (List T) (F × List T) S
scanned step s [] = Ok (s, [])
scanned step s (t ∷ ts) = gone (λ next. scanned step next ts) s t ts (step s t)

module _ {T S F : Type 0} (step : S → T → Go S F) where
  one_before : (t : T) (ts rest : List T) → (piece : List T) × (ts ≡ piece ++ rest) → (piece : List T) × (t ∷ ts ≡ piece ++ rest)
  one_before t ts rest piece = (t ∷ piece.0, ap (λ xs. t ∷ xs) piece.1)

  scan-leaves : (s : S) (xs rest : List T) (a : S) → scanned step s xs ≡ Ok (a, rest) → (piece : List T) × (xs ≡ piece ++ rest)
  scan-leaves s [] rest a is = ([], (given {F = F} s a [] rest is).1)
  scan-leaves s (t ∷ ts) rest a is = of (step s t) is (λ next. scan-leaves next ts rest a)
    where
      of : (go : Go S F) → gone (λ next. scanned step next ts) s t ts go ≡ Ok (a, rest) → ((next : S) → scanned step next ts ≡ Ok (a, rest) → (piece : List T) × (ts ≡ piece ++ rest)) → (piece : List T) × (t ∷ ts ≡ piece ++ rest)
      of (On next) is more = one_before t ts rest (more next is)
      of Off is more = ([], (given {F = F} s a (t ∷ ts) rest is).1)
      of (Bad kind) is more = absurd (refused (kind, t ∷ ts) a rest is)

  scan-leaves_fault : (s : S) (xs rest : List T) (kind : F) → scanned step s xs ≡ Err (kind, rest) → (piece : List T) × (xs ≡ piece ++ rest)
  scan-leaves_fault s [] rest kind is = absurd (granted (s, []) kind rest is)
  scan-leaves_fault s (t ∷ ts) rest kind is = of (step s t) is (λ next. scan-leaves_fault next ts rest kind)
    where
      of : (go : Go S F) → gone (λ next. scanned step next ts) s t ts go ≡ Err (kind, rest) → ((next : S) → scanned step next ts ≡ Err (kind, rest) → (piece : List T) × (ts ≡ piece ++ rest)) → (piece : List T) × (t ∷ ts ≡ piece ++ rest)
      of (On next) is more = one_before t ts rest (more next is)
      of Off is more = absurd (granted (s, t ∷ ts) kind rest is)
      of (Bad one) is more = ([], (wrong {A = S} one kind (t ∷ ts) rest is).1)

  scan-value : (s : S) (front more other : List T) (t : T) (a : S) → scanned step s (front ++ (t ∷ more)) ≡ Ok (a, t ∷ more) → scanned step s (front ++ (t ∷ other)) ≡ Ok (a, t ∷ other)
  scan-value s [] more other t a is = of (step s t) is
    where
      of : (go : Go S F) → gone (λ next. scanned step next more) s t more go ≡ Ok (a, t ∷ more) → gone (λ next. scanned step next other) s t other go ≡ Ok (a, t ∷ other)
      of (On next) is = absurd (no_end t more (scan-leaves next more (t ∷ more) a is))
      of Off is = ap (λ x. Ok (x, t ∷ other)) (given {F = F} s a (t ∷ more) (t ∷ more) is).0
      of (Bad kind) is = absurd (refused (kind, t ∷ more) a (t ∷ more) is)
  scan-value s (x ∷ front) more other t a is = of (step s x) is (λ next. scan-value next front more other t a)
    where
      of : (go : Go S F) → gone (λ next. scanned step next (front ++ (t ∷ more))) s x (front ++ (t ∷ more)) go ≡ Ok (a, t ∷ more)
          → ((next : S) → scanned step next (front ++ (t ∷ more)) ≡ Ok (a, t ∷ more) → scanned step next (front ++ (t ∷ other)) ≡ Ok (a, t ∷ other))
          → gone (λ next. scanned step next (front ++ (t ∷ other))) s x (front ++ (t ∷ other)) go ≡ Ok (a, t ∷ other)
      of (On next) is again = again next is
      of Off is again = absurd (no_longer front (t ∷ more) x (given {F = F} s a (x ∷ (front ++ (t ∷ more))) (t ∷ more) is).1)
      of (Bad kind) is again = absurd (refused (kind, x ∷ (front ++ (t ∷ more))) a (t ∷ more) is)

  scan-fault : (s : S) (front more other : List T) (t : T) (kind : F) → scanned step s (front ++ (t ∷ more)) ≡ Err (kind, t ∷ more) → scanned step s (front ++ (t ∷ other)) ≡ Err (kind, t ∷ other)
  scan-fault s [] more other t kind is = of (step s t) is
    where
      of : (go : Go S F) → gone (λ next. scanned step next more) s t more go ≡ Err (kind, t ∷ more) → gone (λ next. scanned step next other) s t other go ≡ Err (kind, t ∷ other)
      of (On next) is = absurd (no_end t more (scan-leaves_fault next more (t ∷ more) kind is))
      of Off is = absurd (granted (s, t ∷ more) kind (t ∷ more) is)
      of (Bad one) is = ap (λ k. Err (k, t ∷ other)) (wrong {A = S} one kind (t ∷ more) (t ∷ more) is).0
  scan-fault s (x ∷ front) more other t kind is = of (step s x) is (λ next. scan-fault next front more other t kind)
    where
      of : (go : Go S F) → gone (λ next. scanned step next (front ++ (t ∷ more))) s x (front ++ (t ∷ more)) go ≡ Err (kind, t ∷ more)
          → ((next : S) → scanned step next (front ++ (t ∷ more)) ≡ Err (kind, t ∷ more) → scanned step next (front ++ (t ∷ other)) ≡ Err (kind, t ∷ other))
          → gone (λ next. scanned step next (front ++ (t ∷ other))) s x (front ++ (t ∷ other)) go ≡ Err (kind, t ∷ other)
      of (On next) is again = again next is
      of Off is again = absurd (granted (s, x ∷ (front ++ (t ∷ more))) kind (t ∷ more) is)
      of (Bad one) is again = absurd (no_longer front (t ∷ more) x (wrong {A = S} one kind (x ∷ (front ++ (t ∷ more))) (t ∷ more) is).1)

  pub scanned-plain : (s : S) → Plain (scanned step s)
  scanned-plain s = record {
    local = record { value = scan-value s; fault = scan-fault s };
    leaves = record { value = scan-leaves s; fault = scan-leaves_fault s };
  }

-- ---- the same reading, seen otherwise

abbrev pub mapped : {T F G A B : Type 0} → (A → B) → (F → G) → Result (A × List T) (F × List T) → Result (B × List T) (G × List T)
mapped value kind (Ok found) = Ok (value found.0, found.1)
mapped value kind (Err fault) = Err (kind fault.0, fault.1)

module _ {T F G A B : Type 0} (value : A → B) (kind : F → G) (reader : Reader (List T) (F × List T) A) (plain : Plain reader) where
  map-value : (xs rest : List T) (b : B) (read : Result (A × List T) (F × List T)) → reader xs ≡ read → mapped value kind read ≡ Ok (b, rest) → (a : A) × (reader xs ≡ Ok (a, rest)) × (value a ≡ b)
  map-value xs rest b (Ok found) was is =
      let parts : (value found.0 ≡ b) × (found.1 ≡ rest) = given {F = G} (value found.0) b found.1 rest is in
      (found.0, was ∙ ap (λ r. Ok (found.0, r)) parts.1, parts.0)
  map-value xs rest b (Err fault) was is = absurd (refused (kind fault.0, fault.1) b rest is)

  map-fault : (xs rest : List T) (g : G) (read : Result (A × List T) (F × List T)) → reader xs ≡ read → mapped value kind read ≡ Err (g, rest) → (f : F) × (reader xs ≡ Err (f, rest)) × (kind f ≡ g)
  map-fault xs rest g (Ok found) was is = absurd (granted (value found.0, found.1) g rest is)
  map-fault xs rest g (Err fault) was is =
      let parts : (kind fault.0 ≡ g) × (fault.1 ≡ rest) = wrong {A = B} (kind fault.0) g fault.1 rest is in
      (fault.0, was ∙ ap (λ r. Err (fault.0, r)) parts.1, parts.0)

  pub mapped-plain : Plain (λ xs. mapped value kind (reader xs))
  mapped-plain = record {
    local = record {
      value = λ front more other t b is.
          let was : (a : A) × (reader (front ++ (t ∷ more)) ≡ Ok (a, t ∷ more)) × (value a ≡ b) = map-value (front ++ (t ∷ more)) (t ∷ more) b (reader (front ++ (t ∷ more))) refl is in
          ap (mapped value kind) (plain.local.value front more other t was.0 was.1) ∙ ap (λ v. Ok (v, t ∷ other)) was.2;
      fault = λ front more other t g is.
          let was : (f : F) × (reader (front ++ (t ∷ more)) ≡ Err (f, t ∷ more)) × (kind f ≡ g) = map-fault (front ++ (t ∷ more)) (t ∷ more) g (reader (front ++ (t ∷ more))) refl is in
          ap (mapped value kind) (plain.local.fault front more other t was.0 was.1) ∙ ap (λ v. Err (v, t ∷ other)) was.2;
    };
    leaves = record {
      value = λ xs rest b is. let was : (a : A) × (reader xs ≡ Ok (a, rest)) × (value a ≡ b) = map-value xs rest b (reader xs) refl is in plain.leaves.value xs rest was.0 was.1;
      fault = λ xs rest g is. let was : (f : F) × (reader xs ≡ Err (f, rest)) × (kind f ≡ g) = map-fault xs rest g (reader xs) refl is in plain.leaves.fault xs rest was.0 was.1;
    };
  }
