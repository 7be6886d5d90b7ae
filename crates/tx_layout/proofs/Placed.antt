-- Regions that are written at the places of their children.
use Rattle.std.proofs.Common.{◌≡◌, ℕ, zero, suc, ◌+◌, ◌<◌, ◌≤◌, ◌==◌, ◌∙◌, refl, sym, ap, Bool, true, false, List, [], ◌∷◌, ◌++◌, length, take, get_or, Option, Some, None, if◌then◌else◌, arith, subst, append_assoc, append-nil, replicate}
use Rattle.std.specs.Prelude.{map, slice_set}
use Rattle.std.specs.List.{range_with_len}
use Rattle.std.specs.Option.{option_or}
use Rattle.std.proofs.lemmas.Bool.{eq-eqb, ne_eqb}
use Rattle.tx_geom.specs.declared.places.Region.{Region}
use Rattle.tx_layout.specs.declared.children.Child.{Child}
use Rattle.tx_layout.specs.Arrangement.{Layer, region_of, placed_by, regions_of}

later : {A : Type 0} (f g : ℕ → A) (a n : ℕ) → ((i : ℕ) → a ≤ i → g i ≡ f i) → map f (range_with_len a n) ≡ map g (range_with_len a n)
later f g a zero h = refl
later f g a (suc n) h =
    ap (λ x. x ∷ map f (range_with_len (a + 1) n)) (sym (h a (omega arith)))
    ∙ ap (λ l. g a ∷ l) (later f g (a + 1) n (λ i low. h i (omega arith)))

-- one value is written in the list of a function's values
set_map : {A : Type 0} (f g : ℕ → A) (a n k : ℕ) (v : A) → k < n → g (a + k) ≡ v → ((i : ℕ) → (i ≡ a + k → ⊥) → g i ≡ f i) → slice_set (map f (range_with_len a n)) k v ≡ map g (range_with_len a n)
set_map f g a zero k v within at other = absurd (omega arith)
set_map f g a (suc n) zero v within at other =
    let here : g a ≡ v = subst (λ i. g i ≡ v) (let e : a + 0 ≡ a = omega arith in e) at in
    ap (λ x. x ∷ map f (range_with_len (a + 1) n)) (sym here)
    ∙ ap (λ l. g a ∷ l) (later f g (a + 1) n (λ i low. other i (λ e. omega arith)))
set_map f g a (suc n) (suc k) v within at other =
    let here : g (a + 1 + k) ≡ v = subst (λ i. g i ≡ v) (let e : a + suc k ≡ a + 1 + k = omega arith in e) at in
    ap (λ x. x ∷ slice_set (map f (range_with_len (a + 1) n)) k v) (sym (other a (λ e. omega arith)))
    ∙ ap (λ l. g a ∷ l) (set_map f g (a + 1) n k v (omega arith) here (λ i e. other i (λ h. e (omega arith))))

or_if : (b : Bool) (r : Region) (x y : Option Region) → option_or (if b then Some r else x) y ≡ (if b then Some r else option_or x y)
or_if true r x y = refl
or_if false r x y = refl

region_push : (rs : List (ℕ × Region)) (r : ℕ × Region) (n : ℕ) → region_of (rs ++ r ∷ []) n ≡ (if r.0 == n then Some r.1 else region_of rs n)
region_push [] r n = refl
region_push (q ∷ rs) r n =
    ap (λ o. option_or o (if q.0 == n then Some q.1 else None)) (region_push rs r n) ∙ or_if (r.0 == n) r.1 (region_of rs n) (if q.0 == n then Some q.1 else None)

placed_push : (count : ℕ) (rs : List (ℕ × Region)) (r : ℕ × Region) → r.0 < count → slice_set (placed_by count rs) r.0 (Some r.1) ≡ placed_by count (rs ++ r ∷ [])
unfolding placed_by
placed_push count rs r within =
    set_map (region_of rs) (region_of (rs ++ r ∷ [])) 0 count r.0 (Some r.1) within
    (subst (λ i. region_of (rs ++ r ∷ []) i ≡ Some r.1) (let e : r.0 ≡ 0 + r.0 = omega arith in e) (region_push rs r r.0 ∙ ap (λ b. if b then Some r.1 else region_of rs r.0) (eq-eqb r.0 r.0 refl)))
    (λ i e. region_push rs r i ∙ ap (λ b. if b then Some r.1 else region_of rs i) (ne_eqb r.0 i (λ h. e (omega arith))))

take_next : {A : Type 0} (xs : List A) (i : ℕ) (x : A) → i < length xs → x ≡ get_or xs i x → take (i + 1) xs ≡ take i xs ++ x ∷ []
take_next [] i x h is = absurd (omega arith)
take_next (y ∷ xs) zero x h is = ap (λ z. z ∷ []) (sym is)
take_next (y ∷ xs) (suc i) x h is = ap (λ n. take n (y ∷ xs)) (let e : suc i + 1 ≡ suc (i + 1) = omega arith in e) ∙ ap (λ l. y ∷ l) (take_next xs i x (omega arith) is)

map_take : (f : Child → ℕ × Region) (done : List (ℕ × Region)) (cs : List Child) (i : ℕ) (c : Child) → i < length cs → c ≡ get_or cs i c → (done ++ map f (take i cs)) ++ f c ∷ [] ≡ done ++ map f (take (i + 1) cs)
map_take f done cs i c h is =
    append_assoc done (map f (take i cs)) (f c ∷ [])
    ∙ ap (λ l. done ++ l) (sym (ap (map f) (take_next cs i c h is) ∙ push (take i cs) c))
  where
    push : (xs : List Child) (x : Child) → map f (xs ++ x ∷ []) ≡ map f xs ++ f x ∷ []
    push [] x = refl
    push (y ∷ xs) x = ap (λ l. f y ∷ l) (push xs x)

-- the next child's region is written
pub put_next : (count : ℕ) (f : Child → ℕ × Region) (cs : List Child) (i : ℕ) (c : Child) (done : List (ℕ × Region)) (placed : List (Option Region)) → i < length cs → c ≡ get_or cs i c → (f c).0 < count
    → placed ≡ placed_by count (done ++ map f (take i cs)) → slice_set placed (f c).0 (Some (f c).1) ≡ placed_by count (done ++ map f (take (i + 1) cs))
put_next count f cs i c done placed h is within so =
    ap (λ l. slice_set l (f c).0 (Some (f c).1)) so
    ∙ (placed_push count (done ++ map f (take i cs)) (f c) within ∙ ap (placed_by count) (map_take f done cs i c h is))

none_placed : (a n : ℕ) → replicate n (let o : Option Region = None in o) ≡ map (λ (i : ℕ). (let o : Option Region = None in o)) (range_with_len a n)
none_placed a zero = refl
none_placed a (suc n) = ap (λ l. None ∷ l) (none_placed (a + 1) n)

pub nothing_placed : (count : ℕ) → replicate count (let o : Option Region = None in o) ≡ placed_by count []
unfolding placed_by
nothing_placed count = none_placed 0 count

regions_push : (done : List Layer) (l : Layer) → regions_of (done ++ l ∷ []) ≡ regions_of done ++ l.regions
regions_push [] l = append-nil l.regions
regions_push (d ∷ done) l = ap (λ rs. d.regions ++ rs) (regions_push done l) ∙ sym (append_assoc d.regions (regions_of done) l.regions)

-- the regions of a layer in two parts are written behind those of others
pub layer_placed : (count : ℕ) (done : List Layer) (l : Layer) (xs ys : List (ℕ × Region)) (placed : List (Option Region)) → l.regions ≡ xs ++ ys
    → placed ≡ placed_by count ((regions_of done ++ xs) ++ ys) → placed ≡ placed_by count (regions_of (done ++ l ∷ []))
layer_placed count done l xs ys placed is so =
    so ∙ ap (placed_by count) (append_assoc (regions_of done) xs ys ∙ (ap (λ rs. regions_of done ++ rs) (sym is) ∙ sym (regions_push done l)))
