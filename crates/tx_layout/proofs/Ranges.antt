-- Loops that make one value for each of so many numbers.
use Rattle.std.proofs.Common.{◌≡◌, ℕ, zero, suc, ◌+◌, ◌∙◌, sym, ap, List, [], ◌∷◌, ◌++◌, arith}
use Rattle.std.specs.Prelude.{map}
use Rattle.std.specs.List.{range_with_len}

range_more : {A : Type 0} (f : ℕ → A) (a n : ℕ) → map f (range_with_len a (suc n)) ≡ map f (range_with_len a n) ++ f (a + n) ∷ []
range_more f a zero = ap (λ m. f m ∷ []) (let e : a ≡ a + 0 = omega arith in e)
range_more f a (suc n) =
    ap (λ l. f a ∷ l) (range_more f (a + 1) n ∙ ap (λ m. map f (range_with_len (a + 1) n) ++ f m ∷ []) (let e : a + 1 + n ≡ a + suc n = omega arith in e))

-- the value for the next number
pub range_push : {A : Type 0} (f : ℕ → A) (n : ℕ) (done : List A) (x : A) → done ≡ map f (range_with_len 0 n) → x ≡ f n → done ++ x ∷ [] ≡ map f (range_with_len 0 (n + 1))
range_push f n done x is at =
    ap (λ l. l ++ x ∷ []) is
    ∙ (ap (λ y. map f (range_with_len 0 n) ++ y ∷ []) at
    ∙ (ap (λ m. map f (range_with_len 0 n) ++ f m ∷ []) (let e : n ≡ 0 + n = omega arith in e)
    ∙ (sym (range_more f 0 n) ∙ ap (λ m. map f (range_with_len 0 m)) (let e : suc n ≡ n + 1 = omega arith in e))))
