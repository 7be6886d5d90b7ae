-- Lists that have one value for each of so many numbers.
use Rattle.std.proofs.Common.{◌≡◌, ℕ, zero, suc, ◌+◌, ◌<◌, ◌≤◌, ◌∙◌, sym, ap, refl, List, [], ◌∷◌, ◌++◌, arith, length, get_or, map, ext_get_or}
use Rattle.std.specs.Prelude.{Some, slice_get}
use Rattle.std.specs.List.{range_with_len}
use Rattle.std.proofs.lemmas.Option.{slice_get-get_or}
use Rattle.std.proofs.lemmas.List.FromFn.{get_or-map-range_with_len, length-map-range_with_len, map-range_with_len_more}

-- a list whose items are those of a function
pub from_places : {A : Type 0} (d : A) (f : ℕ → A) (n : ℕ) (xs : List A) → length xs ≡ n → ((i : ℕ) → i < n → get_or xs i d ≡ f i) → xs ≡ map f (range_with_len 0 n)
from_places d f n xs count same =
    ext_get_or d xs (map f (range_with_len 0 n)) (count ∙ sym (length-map-range_with_len f 0 n))
    (λ i within. same i (omega (arith, count)) ∙ sym (get_or-map-range_with_len f 0 n i i d (omega (arith, count)) (omega arith)))

-- the value for the next number
pub next_place : {A : Type 0} (f : ℕ → A) (n : ℕ) (done : List A) (x : A) → done ≡ map f (range_with_len 0 n) → x ≡ f n → done ++ x ∷ [] ≡ map f (range_with_len 0 (n + 1))
next_place f n done x is at =
    ap (λ l. l ++ x ∷ []) is ∙ (ap (λ y. map f (range_with_len 0 n) ++ y ∷ []) at ∙ sym (map-range_with_len_more f 0 n n (omega arith)))

pub ranged : (n : ℕ) → map (λ x. x) (range_with_len 0 n) ≡ range_with_len 0 n
ranged n = by 0 n
  where
    by : (a n : ℕ) → map (λ x. x) (range_with_len a n) ≡ range_with_len a n
    by a zero = refl
    by a (suc n) = ap (λ l. a ∷ l) (by (a + 1) n)

pub next_number : (n : ℕ) (done : List ℕ) → done ≡ range_with_len 0 n → done ++ n ∷ [] ≡ range_with_len 0 (n + 1)
next_number n done is = next_place (λ x. x) n done n (is ∙ sym (ranged n)) refl ∙ ranged (n + 1)

-- two functions that agree on the numbers
pub same_places : {A : Type 0} (f g : ℕ → A) (n : ℕ) → ((i : ℕ) → i < n → f i ≡ g i) → map f (range_with_len 0 n) ≡ map g (range_with_len 0 n)
same_places {A} f g n same = by 0 n (λ i from to. same i (omega (arith, to)))
  where
    by : (a m : ℕ) → ((i : ℕ) → a ≤ i → i < a + m → f i ≡ g i) → map f (range_with_len a m) ≡ map g (range_with_len a m)
    by a zero so = refl
    by a (suc m) so = ap (λ (x : A). x ∷ map f (range_with_len (a + 1) m)) (so a (omega arith) (omega arith)) ∙ ap (λ l. g a ∷ l) (by (a + 1) m (λ i from to. so i (omega (arith, from)) (omega (arith, to))))

-- what stands at one of them
pub at_place : {A : Type 0} (f : ℕ → A) (n i : ℕ) → i < n → slice_get (map f (range_with_len 0 n)) i ≡ Some (f i)
at_place f n i within =
    let long = length-map-range_with_len f 0 n in
    slice_get-get_or (map f (range_with_len 0 n)) i (f i) (omega (arith, long)) ∙ ap (λ x. Some x) (get_or-map-range_with_len f 0 n i i (f i) within (omega arith))
