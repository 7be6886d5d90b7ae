-- The greatest of numbers, as loops find it.
use Rattle.std.proofs.Common.{◌≡◌, ℕ, ◌∙◌, refl, sym, ap, List, [], ◌∷◌, ◌++◌, arith, Some, None}
use Rattle.std.specs.Prelude.{max, unwrap_or, map}
use Rattle.std.specs.List.{last_or}
use Rattle.tx_geom.specs.declared.places.Size.{Size}
use Rattle.tx_layout.specs.Room.{greatest}
use Rattle.tx_layout.specs.Arrangement.{Layer, over_all}

-- the greatest of a number and the others
abbrev pub greatest_from : ℕ → List ℕ → ℕ
greatest_from n [] = n
greatest_from n (m ∷ ms) = greatest_from (max n m) ms

greatest_more : (n : ℕ) (ms : List ℕ) → greatest_from n ms ≡ max n (greatest ms)
greatest_more n [] = omega arith
greatest_more n (m ∷ ms) = let ih = greatest_more (max n m) ms in omega arith

pub greatest_found : (ms : List ℕ) → greatest_from 0 ms ≡ greatest ms
greatest_found ms = let all = greatest_more 0 ms in omega arith

pub greatest_push : (ms : List ℕ) (n : ℕ) → greatest (ms ++ n ∷ []) ≡ max (greatest ms) n
greatest_push [] n = omega arith
greatest_push (m ∷ ms) n = let ih = greatest_push ms n in omega arith

-- the last of numbers, and 0 where there are none
pub last_found : (ms : List ℕ) → unwrap_or (last_or None ms) 0 ≡ unwrap_or (last_or (Some 0) ms) 0
last_found [] = refl
last_found (m ∷ ms) = refl

map_push : {A B : Type 0} (f : A → B) (xs : List A) (x : A) → map f (xs ++ x ∷ []) ≡ map f xs ++ f x ∷ []
map_push f [] x = refl
map_push f (y ∷ xs) x = ap (λ l. f y ∷ l) (map_push f xs x)

pub greatest_with : {A : Type 0} (f : A → ℕ) (xs : List A) (x : A) (n : ℕ) → n ≡ greatest (map f xs) → max n (f x) ≡ greatest (map f (xs ++ x ∷ []))
greatest_with f xs x n is = ap (λ m. max m (f x)) is ∙ (sym (greatest_push (map f xs) (f x)) ∙ ap greatest (sym (map_push f xs x)))

size_same : (w h v g : ℕ) → w ≡ v → h ≡ g → (let a : Size = record { width = w; height = h } in a) ≡ (let b : Size = record { width = v; height = g } in b)
size_same w h v g e f = cc

-- a layer beside others
pub over_push : (done : List Layer) (l : Layer) (over : Size) (w h : ℕ) → over ≡ over_all done → l.over ≡ record { width = w; height = h } → record { width = max over.width w; height = max over.height h } ≡ over_all (done ++ l ∷ [])
unfolding over_all
over_push done l over w h is at =
    size_same (max over.width w) (max over.height h) _ _
    (ap (λ (o : Size). max over.width o.width) (sym at) ∙ greatest_with (λ (l : Layer). l.over.width) done l over.width (ap (λ (o : Size). o.width) is))
    (ap (λ (o : Size). max over.height o.height) (sym at) ∙ greatest_with (λ (l : Layer). l.over.height) done l over.height (ap (λ (o : Size). o.height) is))
