-- What stands in lists, and the greatest of what stands there.
use Rattle.std.proofs.Common.{◌≡◌, ◌⊎◌, ℕ, zero, suc, ◌+◌, Bool, true, false, not, ◌||◌, List, [], ◌∷◌, ◌++◌, map, filter, Some, None, slice_get, refl, sym, ap, subst, ◌∙◌, inl, inr, arith}
use Rattle.std.specs.List.{find, list_any, enumerate_from, flat_map}
use Rattle.std.proofs.lemmas.Bool.{cases_Bool, false≢true}
use Rattle.tx_cascade.specs.Key.{exceeds, is_greatest, greatest}
use Rattle.tx_cascade.specs.Laws.{IsIn}
use Rattle.tx_cascade.proofs.Orders.{same-parts}

pub in-left : {A : Type 0} (a : A) (xs ys : List A) → IsIn a xs → IsIn a (xs ++ ys)
in-left a [] ys is = absurd is
in-left a (x ∷ xs) ys is = elim is [
  | inl e ↦ inl e
  | inr more ↦ inr (in-left a xs ys more)
]

pub in-right : {A : Type 0} (a : A) (xs ys : List A) → IsIn a ys → IsIn a (xs ++ ys)
in-right a [] ys is = is
in-right a (x ∷ xs) ys is = inr (in-right a xs ys is)

pub in-append : {A : Type 0} (a : A) (xs ys : List A) → IsIn a (xs ++ ys) → IsIn a xs ⊎ IsIn a ys
in-append a [] ys is = inr is
in-append a (x ∷ xs) ys is = elim is [
  | inl e ↦ inl (inl e)
  | inr more ↦ elim (in-append a xs ys more) [
    | inl first ↦ inl (inr first)
    | inr second ↦ inr second
  ]
]

pub in-map : {A B : Type 0} (f : A → B) (a : A) (xs : List A) → IsIn a xs → IsIn (f a) (map f xs)
in-map f a [] is = absurd is
in-map f a (x ∷ xs) is = elim is [
  | inl e ↦ inl (ap f e)
  | inr more ↦ inr (in-map f a xs more)
]

pub of-map : {A B : Type 0} (f : A → B) (b : B) (xs : List A) → IsIn b (map f xs) → (a : A) × IsIn a xs × (f a ≡ b)
of-map f b [] is = absurd is
of-map f b (x ∷ xs) is = elim is [
  | inl e ↦ (x, inl refl, e)
  | inr more ↦ let found = of-map f b xs more in (found.0, inr found.1, found.2)
]

pub in-filter : {A : Type 0} (p : A → Bool) (a : A) (xs : List A) → IsIn a xs → p a ≡ true → IsIn a (filter p xs)
in-filter p a [] is passes = absurd is
in-filter {A} p a (x ∷ xs) is passes = elim is [
  | inl e ↦ let here : p x ≡ true = ap p e ∙ passes in rw here (inl e)
  | inr more ↦ elim (cases_Bool (p x)) [
    | inl yes_so ↦ rw yes_so (inr (in-filter p a xs more passes))
    | inr not_so ↦ rw not_so (in-filter p a xs more passes)
  ]
]

pub of-filter : {A : Type 0} (p : A → Bool) (a : A) (xs : List A) → IsIn a (filter p xs) → IsIn a xs × (p a ≡ true)
of-filter p a [] is = absurd is
of-filter p a (x ∷ xs) is = elim (cases_Bool (p x)) [
  | inl yes_so ↦
      let was = rw yes_so at is in
      elim was [
        | inl e ↦ (inl e, sym (ap p e) ∙ yes_so)
        | inr more ↦ let found = of-filter p a xs more in (inr found.0, found.1)
      ]
  | inr not_so ↦ let was = rw not_so at is in let found = of-filter p a xs was in (inr found.0, found.1)
]

-- ---- numbered things

pub in-numbered : {A : Type 0} (a : A) (xs : List A) (k i : ℕ) → slice_get xs i ≡ Some a → IsIn (k + i, a) (enumerate_from k xs)
in-numbered a [] k i is = absurd (let clash : None ≡ Some a = is in cc)
in-numbered a (x ∷ xs) k zero is = inl (let e : x ≡ a = cc in let n : k ≡ k + 0 = omega arith in ap (λ m. (m, x)) n ∙ ap (λ y. (k + 0, y)) e)
in-numbered {A} a (x ∷ xs) k (suc i) is =
    let n : (k + 1) + i ≡ k + suc i = omega arith in
    inr (subst (λ (m : ℕ). IsIn {A = ℕ × A} (m, a) (enumerate_from (k + 1) xs)) n (in-numbered a xs (k + 1) i is))

-- what stands in such a list is a thing with its number
pub of-numbered : {A : Type 0} (one : ℕ × A) (xs : List A) (k : ℕ) → IsIn one (enumerate_from k xs) → (i : ℕ) × (slice_get xs i ≡ Some one.1) × (one.0 ≡ k + i)
of-numbered one [] k is = absurd is
of-numbered {A} one (x ∷ xs) k is = elim is [
  | inl e ↦ (0, ap (λ (p : ℕ × A). Some p.1) e, sym (ap (λ (p : ℕ × A). p.0) e) ∙ omega arith)
  | inr more ↦ let found = of-numbered one xs (k + 1) more in (suc found.0, found.1, omega (arith, found.2))
]

pub in-flat : {A B : Type 0} (f : A → List B) (a : A) (b : B) (xs : List A) → IsIn a xs → IsIn b (f a) → IsIn b (flat_map f xs)
in-flat f a b [] is own = absurd is
in-flat {A} f a b (x ∷ xs) is own = elim is [
  | inl e ↦ in-left b (f x) (flat_map f xs) (subst (λ (y : A). IsIn b (f y)) (sym e) own)
  | inr more ↦ in-right b (f x) (flat_map f xs) (in-flat f a b xs more own)
]

pub of-flat : {A B : Type 0} (f : A → List B) (b : B) (xs : List A) → IsIn b (flat_map f xs) → (a : A) × IsIn a xs × IsIn b (f a)
of-flat f b [] is = absurd is
of-flat f b (x ∷ xs) is = elim (in-append b (f x) (flat_map f xs) is) [
  | inl here ↦ (x, inl refl, here)
  | inr more ↦ let found = of-flat f b xs more in (found.0, inr found.1, found.2)
]

-- ---- the greatest

of-not : (b : Bool) → not b ≡ true → b ≡ false
of-not false is = refl
of-not true is = sym is

none-passes : {A : Type 0} (p : A → Bool) (xs : List A) → list_any p xs ≡ false → (a : A) → IsIn a xs → p a ≡ false
none-passes p [] is a in_it = absurd in_it
none-passes p (x ∷ xs) is a in_it = elim (cases_Bool (p x)) [
  | inl passes ↦ absurd (false≢true (sym is ∙ ap (λ b. b || list_any p xs) passes))
  | inr fails ↦ elim in_it [
    | inl e ↦ sym (ap p e) ∙ fails
    | inr more ↦ none-passes p xs (rw fails at is) a more
  ]
]

passes-none : {A : Type 0} (p : A → Bool) (xs : List A) → ((a : A) → IsIn a xs → p a ≡ false) → list_any p xs ≡ false
passes-none p [] all = refl
passes-none p (x ∷ xs) all = rw (all x (inl refl)) (passes-none p xs (λ a more. all a (inr more)))

module _ {A : Type 0} (parts : A → List ℕ) (xs : List A) where
  -- none exceeds it
  abbrev pub IsTop : A → Type 0
  IsTop a = (b : A) → IsIn b xs → exceeds (parts b) (parts a) ≡ false

  pub top-is : (a : A) → is_greatest parts xs a ≡ true → IsTop a
  top-is a is b in_it = none-passes (λ c. exceeds (parts c) (parts a)) xs (of-not _ is) b in_it

  pub is-top : (a : A) → IsTop a → is_greatest parts xs a ≡ true
  is-top a top = ap not (passes-none (λ c. exceeds (parts c) (parts a)) xs top)

  found-in : (a : A) (ys : List A) → ((b : A) → IsIn b ys → IsIn b xs) → ((b : A) → IsIn b ys → IsTop b → a ≡ b) → IsTop a → IsIn a ys → find (is_greatest parts xs) ys ≡ Some a
  found-in a [] among one top is = absurd is
  found-in a (y ∷ ys) among one top is = elim (cases_Bool (is_greatest parts xs y)) [
    | inl greatest_too ↦ rw greatest_too (ap (λ (b : A). Some b) (sym (one y (inl refl) (top-is y greatest_too))))
    | inr less ↦ rw less (found-in a ys (λ b more. among b (inr more)) (λ b more. one b (inr more)) top (rest less is))
  ]
    where
      rest : is_greatest parts xs y ≡ false → IsIn a (y ∷ ys) → IsIn a ys
      rest less (inl e) = absurd (false≢true (sym less ∙ (ap (is_greatest parts xs) e ∙ is-top a top)))
      rest less (inr more) = more

  -- the one that none exceeds is the greatest, where no other has its parts
  pub the-greatest : (a : A) → IsIn a xs → IsTop a → ((b : A) → IsIn b xs → parts a ≡ parts b → a ≡ b) → greatest parts xs ≡ Some a
  the-greatest a is top one = found-in a xs (λ b in_it. in_it) (λ b in_it other. one b in_it (same-parts (parts a) (parts b) (other a is) (top b in_it))) top is

  found-of : (a : A) (ys : List A) → find (is_greatest parts xs) ys ≡ Some a → IsIn a ys × (is_greatest parts xs a ≡ true)
  found-of a [] is = absurd (let clash : None ≡ Some a = is in cc)
  found-of a (y ∷ ys) is = elim (cases_Bool (is_greatest parts xs y)) [
    | inl greatest_too ↦ let was = rw greatest_too at is in let e : y ≡ a = cc in (inl e, sym (ap (is_greatest parts xs) e) ∙ greatest_too)
    | inr less ↦ let was = rw less at is in let found = found-of a ys was in (inr found.0, found.1)
  ]

  -- and the greatest is one of them that none exceeds
  pub greatest-of : (a : A) → greatest parts xs ≡ Some a → IsIn a xs × IsTop a
  greatest-of a is = let found = found-of a xs is in (found.0, top-is a found.1)
