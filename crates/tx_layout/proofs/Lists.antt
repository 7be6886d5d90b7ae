-- Loops over lists that stop at the first refusal.
use Rattle.std.proofs.Common.{◌≡◌, ℕ, ◌+◌, ◌<◌, ◌∙◌, refl, sym, ap, List, [], ◌∷◌, ◌++◌, length, take, drop, get_or, arith, Option, Some, None, Result, Ok, Err, append_assoc, append-nil, add-one, drop-cons, length-append}
use Rattle.std.proofs.Math.ListN.{set}
use Rattle.std.proofs.lemmas.List.{take_more_set, drop-set-lt}
use Rattle.tx_read.specs.Answer.{Tells}
use Rattle.tx_read.specs.Reading.{◌>>=◌}
use Rattle.tx_layout.specs.Steps.{each_of}

-- a list in front of what is given
abbrev pub prefixed : {B F : Type 0} → List B → Result (List B) F → Result (List B) F
prefixed xs (Ok ys) = Ok (xs ++ ys)
prefixed xs (Err fault) = Err fault

pub prefixed-nil : {B F : Type 0} (r : Result (List B) F) → prefixed [] r ≡ r
prefixed-nil (Ok ys) = refl
prefixed-nil (Err fault) = refl

prefixed_over : {B F : Type 0} (xs : List B) (y : B) (r : Result (List B) F) → prefixed xs (r >>= (λ ys. Ok (y ∷ ys))) ≡ prefixed (xs ++ y ∷ []) r
prefixed_over xs y (Ok ys) = ap (λ l. Ok l) (sym (append_assoc xs (y ∷ []) ys))
prefixed_over xs y (Err fault) = refl

pub drop_next : {A : Type 0} (xs : List A) (i : ℕ) (d : A) → i < length xs → drop i xs ≡ get_or xs i d ∷ drop (i + 1) xs
drop_next xs i d h = rw (add-one i) (drop-cons xs i d h)

-- the element at i stands in front of the rest
pub rest_is : {A : Type 0} (xs : List A) (i : ℕ) (x : A) → i < length xs → x ≡ get_or xs i x → drop i xs ≡ x ∷ drop (i + 1) xs
rest_is xs i x h is = drop_next xs i x h ∙ ap (λ y. y ∷ drop (i + 1) xs) (sym is)

stepped : {A B F : Type 0} (f : A → Result B F) (x : A) (xs : List A) (y : B) (done : List B) → f x ≡ Ok y → prefixed done (each_of f (x ∷ xs)) ≡ prefixed (done ++ y ∷ []) (each_of f xs)
stepped f x xs y done is = ap (λ r. prefixed done (r >>= (λ y. each_of f xs >>= (λ ys. Ok (y ∷ ys))))) is ∙ prefixed_over done y (each_of f xs)

-- a loop's step: the next element has an answer
pub each_next : {A B F : Type 0} (f : A → Result B F) (xs : List A) (i : ℕ) (x : A) (y : B) (done : List B) → i < length xs → x ≡ get_or xs i x → f x ≡ Ok y → prefixed done (each_of f (drop i xs)) ≡ prefixed (done ++ y ∷ []) (each_of f (drop (i + 1) xs))
each_next f xs i x y done h at is = ap (λ l. prefixed done (each_of f l)) (rest_is xs i x h at) ∙ stepped f x (drop (i + 1) xs) y done is

-- the next element is refused
pub each_refused : {A B F : Type 0} (f : A → Result B F) (xs : List A) (i : ℕ) (x : A) (fault : F) (done : List B) → i < length xs → x ≡ get_or xs i x → f x ≡ Err fault → prefixed done (each_of f (drop i xs)) ≡ Err fault
each_refused f xs i x fault done h at is =
    ap (λ l. prefixed done (each_of f l)) (rest_is xs i x h at) ∙ ap (λ r. prefixed done (r >>= (λ y. each_of f (drop (i + 1) xs) >>= (λ ys. Ok (y ∷ ys))))) is

-- what is behind an element that was written
pub drop_written : {A : Type 0} (xs : List A) (i : ℕ) (y : A) → drop (i + 1) (set xs i y) ≡ drop (i + 1) xs
drop_written xs i y = drop-set-lt (i + 1) xs i y (omega arith)

-- a loop's step that writes the answer in its place
pub written_next : {A F : Type 0} (f : A → Result A F) (xs : List A) (i : ℕ) (x y : A) → i < length xs → x ≡ get_or xs i x → f x ≡ Ok y
    → prefixed (take i xs) (each_of f (drop i xs)) ≡ prefixed (take (i + 1) (set xs i y)) (each_of f (drop (i + 1) (set xs i y)))
written_next f xs i x y h at is = rw (take_more_set xs i y h, drop_written xs i y) (each_next f xs i x y (take i xs) h at is)

pub pushed_length : {A : Type 0} (xs : List A) (y : A) (n : ℕ) → length xs ≡ n → length (xs ++ y ∷ []) ≡ n + 1
pushed_length xs y n is = length-append xs (y ∷ []) ∙ ap (λ k. k + 1) is

-- ---- steps over a list, each with an answer, of which something is made

-- the steps that are made so far, and what they come to
pub record Reached {A B F S : Type 0} (f : A → Result B F) (whole : List B → S) (all rest : List A) (now : S) : Type 0 where
  pub done : List B
  pub is : now ≡ whole done
  pub steps : each_of f all ≡ prefixed done (each_of f rest)

pub reached_none : {A B F S : Type 0} (f : A → Result B F) (whole : List B → S) (all : List A) (now : S) → now ≡ whole [] → Reached f whole all all now
reached_none f whole all now is = record { done = []; is = is; steps = sym (prefixed-nil (each_of f all)) }

-- an answer of which something is made
pub record Answered {B F S : Type 0} (r : Result B F) (g : B → S) (now : S) : Type 0 where
  pub value : B
  pub answer : r ≡ Ok value
  pub is : now ≡ g value

pub answered : {B F S : Type 0} (r : Result B F) (g : B → S) (now : S) → (r >>= (λ y. Ok (g y))) ≡ Ok now → Answered r g now
answered (Ok y) g now e = record { value = y; answer = refl; is = let h : now ≡ g y = cc in h }
answered (Err fault) g now e = absurd (let h : ⊥ = cc in h)

pub refused : {B F S : Type 0} (r : Result B F) (g : B → S) (fault : F) → (let x : Result S F = r >>= (λ y. Ok (g y)) in x) ≡ Err fault → r ≡ Err fault
refused (Ok y) g fault e = absurd (let h : ⊥ = cc in h)
refused (Err other) g fault e = let h : other ≡ fault = cc in ap (λ x. Err x) h

pub reached_next : {A B F S : Type 0} (f : A → Result B F) (whole : List B → S) (all rest more : List A) (x : A) (now next : S) → (reached : Reached f whole all rest now) → rest ≡ x ∷ more
    → Answered (f x) (λ y. whole (reached.done ++ y ∷ [])) next → Reached f whole all more next
reached_next f whole all rest more x now next reached at a =
    record {
      done = reached.done ++ a.value ∷ [];
      is = a.is;
      steps = reached.steps ∙ (ap (λ l. prefixed reached.done (each_of f l)) at ∙ stepped f x more a.value reached.done a.answer);
    }

pub reached_refused : {A B F S : Type 0} (f : A → Result B F) (whole : List B → S) (all rest more : List A) (x : A) (now : S) (fault : F) → Reached f whole all rest now → rest ≡ x ∷ more
    → f x ≡ Err fault → each_of f all >>= (λ ys. Ok (whole ys)) ≡ Err fault
reached_refused f whole all rest more x now fault reached at is =
    let e : each_of f all ≡ Err fault = reached.steps ∙ (ap (λ l. prefixed reached.done (each_of f l)) at ∙ ap (λ r. prefixed reached.done (r >>= (λ y. each_of f more >>= (λ ys. Ok (y ∷ ys))))) is) in
    ap (λ r. r >>= (λ ys. Ok (whole ys))) e

pub reached_told : {A B F S : Type 0} (f : A → Result B F) (whole : List B → S) (h : B → S) (all rest more : List A) (x : A) (now : S) (o : Option F) → Reached f whole all rest now → rest ≡ x ∷ more
    → Tells o (f x >>= (λ y. Ok (h y))) → Tells o (each_of f all >>= (λ ys. Ok (whole ys)))
reached_told f whole h all rest more x now None reached at told = tt
reached_told f whole h all rest more x now (Some fault) reached at told = reached_refused f whole all rest more x now fault reached at (refused (f x) h fault told)

pub reached_stops : {A B F S : Type 0} (f : A → Result B F) (whole : List B → S) (all rest more : List A) (x : A) (now : S) (o : Option F) → Reached f whole all rest now → rest ≡ x ∷ more
    → Tells o (f x) → Tells o (each_of f all >>= (λ ys. Ok (whole ys)))
reached_stops f whole all rest more x now None reached at told = tt
reached_stops f whole all rest more x now (Some fault) reached at told = reached_refused f whole all rest more x now fault reached at told

pub reached_all : {A B F S : Type 0} (f : A → Result B F) (whole : List B → S) (all : List A) (now : S) → Reached f whole all [] now → each_of f all >>= (λ ys. Ok (whole ys)) ≡ Ok now
reached_all f whole all now reached =
    let e : each_of f all ≡ Ok reached.done = reached.steps ∙ ap (λ l. Ok l) (append-nil reached.done) in
    ap (λ r. r >>= (λ ys. Ok (whole ys))) e ∙ ap (λ s. Ok s) (sym reached.is)
