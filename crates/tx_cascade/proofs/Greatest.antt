-- The greatest is found by keeping the greater of two.
use Rattle.std.proofs.Common.{◌≡◌, ℕ, suc, ◌+◌, ◌<◌, ◌≤◌, ◌==◌, length, drop, get_or, add-one, nat_lt, Bool, true, false, not, ◌||◌, cond, List, [], ◌∷◌, map, filter, Option, Some, None, refl, sym, ap, ◌∙◌, arith, inl, inr}
use Rattle.std.specs.List.{find, list_any, fold}
use Rattle.std.proofs.lemmas.Bool.{cases_Bool, eq-eqb, false≢true}
use Rattle.std.proofs.lemmas.Bool.Decides.{nat_tests}
use Rattle.std.specs.Prelude.{if◌then◌else◌}
use Rattle.std.proofs.lemmas.List.{drop_all}
use Rattle.std.proofs.Math.Seq.{drop-cons}
use Rattle.tx_select.specs.SelectorValue.{SelectorValue}
use Rattle.tx_cascade.specs.Key.{weight_parts, exceeds, is_greatest, greatest, greater}
use Rattle.tx_cascade.specs.Matchers.{Matcher}
use Rattle.tx_cascade.specs.Reaching.{weight}
use Rattle.tx_cascade.specs.declared.key.Weight.{Weight}

-- the greatest so far, with one thing more where it counts
abbrev pub greater_where : {A : Type 0} → (A → Bool) → (A → List ℕ) → Option A → A → Option A
greater_where counts parts best a = if counts a then greater parts best a else best

-- the most specific selector so far, with one more where it matches
abbrev pub weighed : Matcher → Option Weight → SelectorValue → Option Weight
weighed matcher best selector = if matcher selector.compounds then greater weight_parts best (weight selector) else best

-- ---- the order

pub itself : (xs : List ℕ) → exceeds xs xs ≡ false
itself [] = refl
itself (x ∷ xs) = rw (eq-eqb x x refl) (itself xs)

turned-step : (x y : ℕ) (p q : Bool) → (if x == y then p else nat_lt y x) ≡ true → (p ≡ true → q ≡ false) → (if y == x then q else nat_lt x y) ≡ false
turned-step x y p q over rest = grind (arith, nat_tests)

-- of two only one exceeds the other
pub turned : (xs ys : List ℕ) → exceeds xs ys ≡ true → exceeds ys xs ≡ false
turned [] ys over = absurd (false≢true over)
turned (x ∷ xs) [] over = refl
turned (x ∷ xs) (y ∷ ys) over = turned-step x y (exceeds xs ys) (exceeds ys xs) over (turned xs ys)

between-step : (x y z : ℕ) (p q r : Bool) → (if x == z then p else nat_lt z x) ≡ true → (if x == y then q else nat_lt y x) ≡ false → (p ≡ true → q ≡ false → r ≡ true) → (if y == z then r else nat_lt z y) ≡ true
between-step x y z p q r over under rest = grind (arith, nat_tests)

-- what isn't exceeded by one that exceeds a third, exceeds the third
pub between : (xs ys zs : List ℕ) → exceeds xs zs ≡ true → exceeds xs ys ≡ false → exceeds ys zs ≡ true
between [] ys zs over under = absurd (false≢true over)
between (x ∷ xs) [] zs over under = absurd (false≢true (sym under))
between (x ∷ xs) (y ∷ ys) [] over under = refl
between (x ∷ xs) (y ∷ ys) (z ∷ zs) over under = between-step x y z (exceeds xs zs) (exceeds xs ys) (exceeds ys zs) over under (between xs ys zs)

pub onwards : (xs ys zs : List ℕ) → exceeds xs ys ≡ true → exceeds ys zs ≡ true → exceeds xs zs ≡ true
onwards xs ys zs first second = between ys xs zs second (turned xs ys first)

-- ---- lists

find-same : {A : Type 0} (p q : A → Bool) (xs : List A) → ((x : A) → p x ≡ q x) → find p xs ≡ find q xs
find-same p q [] same = refl
find-same p q (x ∷ xs) same = rw (same x) (ap (λ rest. cond (q x) (Some x) rest) (find-same p q xs same))

any-more : {A : Type 0} (p q : A → Bool) (xs : List A) → ((x : A) → p x ≡ true → q x ≡ true) → list_any p xs ≡ true → list_any q xs ≡ true
any-more p q [] more some = some
any-more p q (x ∷ xs) more some = elim (cases_Bool (p x)) [
  | inl passes ↦ rw (more x passes) refl
  | inr fails ↦ let rest : list_any p xs ≡ true = rw fails at some in by (q x) (any-more p q xs more rest)
]
  where
    by : (b : Bool) → list_any q xs ≡ true → (b || list_any q xs) ≡ true
    by true is = refl
    by false is = is

or-first : (p q r : Bool) → (p ≡ true → q ≡ true) → (p || (q || r)) ≡ (q || r)
or-first false q r so = refl
or-first true q r so = rw (so refl) refl

or-second : (p q r : Bool) → (q ≡ true → p ≡ true) → (p || (q || r)) ≡ (p || r)
or-second true q r so = refl
or-second false true r so = absurd (false≢true (so refl))
or-second false false r so = refl

module _ {A : Type 0} (parts : A → List ℕ) where
  abbrev above : A → A → Bool
  above a b = exceeds (parts a) (parts b)

  -- who is exceeded by another counts no more
  without-first : (w x : A) (ys : List A) → above x w ≡ true → greatest parts (w ∷ x ∷ ys) ≡ greatest parts (x ∷ ys)
  without-first w x ys over =
      rw (itself (parts w), over)
      (find-same (is_greatest parts (w ∷ x ∷ ys)) (is_greatest parts (x ∷ ys)) (x ∷ ys)
      (λ d. ap not (or-first (above w d) (above x d) (list_any (λ b. above b d) ys) (onwards (parts x) (parts w) (parts d) over))))

  -- nor who doesn't exceed the first
  without-second : (w x : A) (ys : List A) → above x w ≡ false → greatest parts (w ∷ x ∷ ys) ≡ greatest parts (w ∷ ys)
  without-second w x ys under =
      find-same (is_greatest parts (w ∷ x ∷ ys)) (is_greatest parts (w ∷ ys)) (w ∷ x ∷ ys)
      (λ d. ap not (or-second (above w d) (above x d) (list_any (λ b. above b d) ys) (λ over. between (parts x) (parts w) (parts d) over under)))
      ∙ by (is_greatest parts (w ∷ ys) w) refl
    where
      other : (y : A) → above y w ≡ true → above y x ≡ true
      other y over = elim (cases_Bool (above y x)) [
        | inl is ↦ is
        | inr less ↦ absurd (false≢true (sym under ∙ between (parts y) (parts x) (parts w) over less))
      ]

      of_false : (b : Bool) → not b ≡ false → b ≡ true
      of_false true is = refl
      of_false false is = sym is

      any_over : is_greatest parts (w ∷ ys) w ≡ false → list_any (λ b. above b w) ys ≡ true
      any_over is = of_false (list_any (λ b. above b w) ys) (rw (itself (parts w)) at is)

      over_second : (p : Bool) → list_any (λ b. above b x) ys ≡ true → not (p || list_any (λ b. above b x) ys) ≡ false
      over_second true is = refl
      over_second false is = ap not is

      by : (b : Bool) → is_greatest parts (w ∷ ys) w ≡ b → find (is_greatest parts (w ∷ ys)) (w ∷ x ∷ ys) ≡ greatest parts (w ∷ ys)
      by true is = rw is refl
      by false is =
          let second : is_greatest parts (w ∷ ys) x ≡ false = over_second (above w x) (any-more (λ b. above b w) (λ b. above b x) ys other (any_over is)) in
          rw (is, second) refl

  fold-greater : (w : A) (xs : List A) → fold (greater parts) (Some w) xs ≡ greatest parts (w ∷ xs)
  fold-greater w [] = rw (itself (parts w)) refl
  fold-greater w (x ∷ xs) = by (above x w) refl (fold-greater x xs) (fold-greater w xs)
    where
      by : (b : Bool) → above x w ≡ b → fold (greater parts) (Some x) xs ≡ greatest parts (x ∷ xs) → fold (greater parts) (Some w) xs ≡ greatest parts (w ∷ xs)
          → fold (greater parts) (if b then Some x else Some w) xs ≡ greatest parts (w ∷ x ∷ xs)
      by true over first second = first ∙ sym (without-first w x xs over)
      by false under first second = second ∙ sym (without-second w x xs under)

  pub fold-greatest : (xs : List A) → fold (greater parts) None xs ≡ greatest parts xs
  fold-greatest [] = refl
  fold-greatest (x ∷ xs) = fold-greater x xs

  -- of those that count
  pub fold-where : (counts : A → Bool) (best : Option A) (xs : List A) → fold (greater_where counts parts) best xs ≡ fold (greater parts) best (filter counts xs)
  fold-where counts best [] = refl
  fold-where counts best (x ∷ xs) = elim (cases_Bool (counts x)) [
    | inl is ↦ rw is (fold-where counts (greater parts best x) xs)
    | inr not_so ↦ rw not_so (fold-where counts best xs)
  ]

-- of those selectors that match
pub fold-weighed : (matcher : Matcher) (best : Option Weight) (xs : List SelectorValue)
    → fold (weighed matcher) best xs ≡ fold (greater weight_parts) best (map weight (filter (λ selector. matcher selector.compounds) xs))
fold-weighed matcher best [] = refl
fold-weighed matcher best (x ∷ xs) = elim (cases_Bool (matcher x.compounds)) [
  | inl is ↦ rw is (fold-weighed matcher (greater weight_parts best (weight x)) xs)
  | inr not_so ↦ rw not_so (fold-weighed matcher best xs)
]

-- ---- loops

-- one step of a fold over what is left of a list
pub fold-step : {A B : Type 0} (f : B → A → B) (xs : List A) (i : ℕ) (x : A) (old new all : B) → i < length xs → x ≡ get_or xs i x → f old x ≡ new → fold f old (drop i xs) ≡ all
    → fold f new (drop (i + 1) xs) ≡ all
fold-step {A} f xs i x old new all within is next so_far =
    let e : drop i xs ≡ get_or xs i x ∷ drop (suc i) xs = drop-cons xs i x within in
    rw (add-one i, ← next) (ap (λ (a : A). fold f (f old a) (drop (suc i) xs)) is ∙ (sym (ap (fold f old) e) ∙ so_far))

pub fold-at : {A B : Type 0} (f : B → A → B) (xs : List A) (i : ℕ) (d : A) (old new all : B) → i < length xs → f old (get_or xs i d) ≡ new → fold f old (drop i xs) ≡ all
    → fold f new (drop (i + 1) xs) ≡ all
fold-at {A} f xs i d old new all within next so_far =
    let e : drop i xs ≡ get_or xs i d ∷ drop (suc i) xs = drop-cons xs i d within in
    rw (add-one i, ← next) (sym (ap (fold f old) e) ∙ so_far)

-- and its end
pub fold-end : {A B : Type 0} (f : B → A → B) (xs : List A) (i : ℕ) (last all : B) → length xs ≤ i → fold f last (drop i xs) ≡ all → last ≡ all
fold-end f xs i last all over so_far = sym (ap (fold f last) (drop_all i xs over)) ∙ so_far

pub weighed-match : (matcher : Matcher) (best : Option Weight) (s : SelectorValue) → matcher s.compounds ≡ true → weighed matcher best s ≡ greater weight_parts best (weight s)
weighed-match matcher best s is = rw is refl

pub weighed-other : (matcher : Matcher) (best : Option Weight) (s : SelectorValue) → matcher s.compounds ≡ false → weighed matcher best s ≡ best
weighed-other matcher best s is = rw is refl
