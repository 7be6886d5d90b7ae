-- Searches and filters.
use Rattle.std.proofs.Common.{◌≡◌, ◌∙◌, sym, ap, refl, Bool, true, false, not, ◌&&◌, ◌||◌, cond, List, [], ◌∷◌, map, ⊎_elim}
use Rattle.std.specs.Prelude.{Option, Some, None, option_map}
use Rattle.std.specs.List.{AllByRecursion, filter, find, list_any}
use Rattle.std.proofs.lemmas.Bool.{cases_Bool, false≢true}

abbrev pub head : {A : Type 0} → List A → Option A
head [] = None
head (x ∷ xs) = Some x

-- what is found first is the first that passes
pub find-head : {A : Type 0} (p : A → Bool) (xs : List A) → find p xs ≡ head (filter p xs)
find-head p [] = refl
find-head p (x ∷ xs) = ⊎_elim (λ is. rw is refl) (λ is. rw is (find-head p xs)) (cases_Bool (p x))

pub filter-both : {A : Type 0} (p q : A → Bool) (xs : List A) → filter p (filter q xs) ≡ filter (λ x. q x && p x) xs
filter-both p q [] = refl
filter-both p q (x ∷ xs) = ⊎_elim
    (λ is. rw is (⊎_elim (λ so. rw so (ap (λ l. x ∷ l) (filter-both p q xs))) (λ so. rw so (filter-both p q xs)) (cases_Bool (p x))))
    (λ is. rw is (filter-both p q xs))
    (cases_Bool (q x))

pub any-both : {A : Type 0} (p q : A → Bool) (xs : List A) → list_any p (filter q xs) ≡ list_any (λ x. q x && p x) xs
any-both p q [] = refl
any-both p q (x ∷ xs) = ⊎_elim (λ is. rw is (ap (λ b. p x || b) (any-both p q xs))) (λ is. rw is (any-both p q xs)) (cases_Bool (q x))

pub find-same : {A : Type 0} (p q : A → Bool) (xs : List A) → ((x : A) → p x ≡ q x) → find p xs ≡ find q xs
find-same p q [] same = refl
find-same p q (x ∷ xs) same = rw (same x) (ap (λ rest. cond (q x) (Some x) rest) (find-same p q xs same))

pub any-same : {A : Type 0} (p q : A → Bool) (xs : List A) → ((x : A) → p x ≡ q x) → list_any p xs ≡ list_any q xs
any-same p q [] same = refl
any-same p q (x ∷ xs) same = rw (same x) (ap (λ rest. q x || rest) (any-same p q xs same))

pub find-mapped : {A B : Type 0} (f : A → B) (p : B → Bool) (xs : List A) → find p (map f xs) ≡ option_map f (find (λ x. p (f x)) xs)
find-mapped f p [] = refl
find-mapped f p (x ∷ xs) = ⊎_elim (λ is. rw is refl) (λ is. rw is (find-mapped f p xs)) (cases_Bool (p (f x)))

pub any-mapped : {A B : Type 0} (f : A → B) (p : B → Bool) (xs : List A) → list_any p (map f xs) ≡ list_any (λ x. p (f x)) xs
any-mapped f p [] = refl
any-mapped f p (x ∷ xs) = ap (λ rest. p (f x) || rest) (any-mapped f p xs)

-- none passes
pub any-none : {A : Type 0} (p : A → Bool) (xs : List A) → list_any p xs ≡ false → AllByRecursion (λ x. p x ≡ false) xs
any-none p [] none = tt
any-none p (x ∷ xs) none = ⊎_elim (λ is. absurd (false≢true (sym (rw is at none)))) (λ is. (is, any-none p xs (rw is at none))) (cases_Bool (p x))

pub filter-none : {A : Type 0} (p : A → Bool) (xs : List A) → list_any p xs ≡ false → filter p xs ≡ []
filter-none p [] none = refl
filter-none p (x ∷ xs) none = ⊎_elim (λ is. absurd (false≢true (sym (rw is at none)))) (λ is. rw is (filter-none p xs (rw is at none))) (cases_Bool (p x))

-- a filter by what those that pass another one pass too
pub filter-within : {A : Type 0} (p q : A → Bool) (xs : List A) → AllByRecursion (λ x. p x ≡ true → q x ≡ true) xs → filter p (filter q xs) ≡ filter p xs
filter-within p q [] so = refl
filter-within p q (x ∷ xs) so = ⊎_elim
    (λ is. rw (so.0 is) (rw is (ap (λ l. x ∷ l) (filter-within p q xs so.1))))
    (λ is. rw is (⊎_elim (λ kept. rw kept (rw is (filter-within p q xs so.1))) (λ gone. rw gone (filter-within p q xs so.1)) (cases_Bool (q x))))
    (cases_Bool (p x))
