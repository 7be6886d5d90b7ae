-- The layers of children are the runs of the same children in the order of their layers.
use Rattle.std.proofs.Common.{◌≡◌, ℕ, suc, ◌<◌, ◌≤◌, ◌==◌, ◌∙◌, ◌⊎◌, inl, inr, refl, sym, ap, Bool, true, false, List, [], ◌∷◌, length, if◌then◌else◌, arith, subst, add-one}
use Rattle.std.specs.Prelude.{⊤, ◌||◌, nat_lt, map, not, ◌&&◌}
use Rattle.std.specs.List.{filter, list_any}
use Rattle.std.specs.List.Sorted.{IsPermutation, IsSortedByKey, IsStableByKey, ties}
use Rattle.std.specs.Ordering.{nat_cmp, is_lt}
use Rattle.std.specs.declared.cmp.Ordering.TheVariants.{Less, Equal, Greater}
use Rattle.std.proofs.lemmas.Bool.{eq-eqb, ne_eqb, lt-ltb, le-ltb, ltb-false, false≢true}
use Rattle.std.proofs.lemmas.List.Sorted.{length_permutation}
use Rattle.tx_layout.specs.declared.children.Child.{Child}
use Rattle.tx_layout.specs.Children.{with_number, layer_numbers, is_in_layer, layer_of, layers, runs, in_first}
use Rattle.tx_layout.proofs.Runs.{front_if, join_if}

less_if : (b t : Bool) → is_lt (if b then Less else if t then Equal else Greater) ≡ b
less_if true t = refl
less_if false true = refl
less_if false false = refl

nat_cmp-ltb : (a b : ℕ) → is_lt (nat_cmp a b) ≡ nat_lt a b
nat_cmp-ltb a b = less_if (nat_lt a b) (a == b)

tri : (a b : ℕ) → (a ≡ b) ⊎ ((a < b) ⊎ (b < a))
tri a b = grind arith

-- ---- a list of ascending numbers with one more

with-same : (n m : ℕ) (ms : List ℕ) → n ≡ m → with_number n (m ∷ ms) ≡ m ∷ ms
with-same n m ms h = rw (eq-eqb n m h) refl

with-less : (n m : ℕ) (ms : List ℕ) → n < m → with_number n (m ∷ ms) ≡ n ∷ (m ∷ ms)
with-less n m ms h = rw (ne_eqb n m (λ e. omega arith), lt-ltb n m h) refl

with-more : (n m : ℕ) (ms : List ℕ) → m < n → with_number n (m ∷ ms) ≡ m ∷ with_number n ms
with-more n m ms h = rw (ne_eqb n m (λ e. omega arith), le-ltb n m (omega arith)) refl

-- each number is greater than the one before it
abbrev Rises : ℕ → List ℕ → Type 0
Rises low [] = ⊤
Rises low (m ∷ ms) = (low < m) × Rises m ms

abbrev Ascends : List ℕ → Type 0
Ascends [] = ⊤
Ascends (m ∷ ms) = Rises m ms

rises_with : (low n : ℕ) (ms : List ℕ) → low < n → Rises low ms → Rises low (with_number n ms)
rises_with low n [] h r = (h, tt)
rises_with low n (m ∷ ms) h r =
    elim (tri n m) [
      | inl same ↦ subst (λ l. Rises low l) (sym (with-same n m ms same)) r
      | inr other ↦
          elim other [
            | inl less ↦ subst (λ l. Rises low l) (sym (with-less n m ms less)) (h, (less, r.1))
            | inr more ↦ subst (λ l. Rises low l) (sym (with-more n m ms more)) (r.0, rises_with m n ms more r.1)
          ]
    ]

ascends_with : (n : ℕ) (ms : List ℕ) → Ascends ms → Ascends (with_number n ms)
ascends_with n [] a = tt
ascends_with n (m ∷ ms) a =
    elim (tri n m) [
      | inl same ↦ subst Ascends (sym (with-same n m ms same)) a
      | inr other ↦
          elim other [
            | inl less ↦ subst Ascends (sym (with-less n m ms less)) (less, a)
            | inr more ↦ subst Ascends (sym (with-more n m ms more)) (rises_with m n ms more a)
          ]
    ]

ascends : (cs : List Child) → Ascends (layer_numbers cs)
ascends [] = tt
ascends (c ∷ cs) = ascends_with (layer_of c) (layer_numbers cs) (ascends cs)

-- ---- a number stands in a list

abbrev stands : ℕ → List ℕ → Bool
stands k [] = false
stands k (m ∷ ms) = (m == k) || stands k ms

or_same : (a b : Bool) → a || (a || b) ≡ a || b
or_same true b = refl
or_same false b = refl

or_swap : (a b c : Bool) → a || (b || c) ≡ b || (a || c)
or_swap true true c = refl
or_swap true false c = refl
or_swap false true c = refl
or_swap false false c = refl

stands_with : (k n : ℕ) (ms : List ℕ) → stands k (with_number n ms) ≡ (n == k) || stands k ms
stands_with k n [] = refl
stands_with k n (m ∷ ms) =
    elim (tri n m) [
      | inl same ↦ ap (stands k) (with-same n m ms same) ∙ (sym (or_same (m == k) (stands k ms)) ∙ ap (λ x. (x == k) || ((m == k) || stands k ms)) (sym same))
      | inr other ↦
          elim other [
            | inl less ↦ ap (stands k) (with-less n m ms less)
            | inr more ↦ ap (stands k) (with-more n m ms more) ∙ (ap (λ b. (m == k) || b) (stands_with k n ms) ∙ or_swap (m == k) (n == k) (stands k ms))
          ]
    ]

stands_where : (k : ℕ) (cs : List Child) → stands k (layer_numbers cs) ≡ list_any (is_in_layer k) cs
stands_where k [] = refl
stands_where k (c ∷ cs) = stands_with k (layer_of c) (layer_numbers cs) ∙ ap (λ b. (layer_of c == k) || b) (stands_where k cs)

abbrev has_some : List Child → Bool
has_some [] = false
has_some (c ∷ cs) = true

some_if : (b : Bool) (c : Child) (cs : List Child) → has_some (if b then c ∷ cs else cs) ≡ b || has_some cs
some_if true c cs = refl
some_if false c cs = refl

any_kept : (p : Child → Bool) (cs : List Child) → list_any p cs ≡ has_some (filter p cs)
any_kept p [] = refl
any_kept p (c ∷ cs) = ap (λ b. p c || b) (any_kept p cs) ∙ sym (some_if (p c) c (filter p cs))

-- ---- ascending lists of the same numbers are the same

below_all : (k low : ℕ) (ms : List ℕ) → k ≤ low → Rises low ms → stands k ms ≡ false
below_all k low [] h r = refl
below_all k low (m ∷ ms) h r =
    let more : low < m = r.0 in
    rw (ne_eqb m k (λ e. omega arith)) (below_all k m ms (omega arith) r.1)

stands_first : (m : ℕ) (ms : List ℕ) → stands m (m ∷ ms) ≡ true
stands_first m ms = rw (eq-eqb m m refl) refl

first_same : (x y : ℕ) (xs ys : List ℕ) → Rises x xs → Rises y ys → ((k : ℕ) → stands k (x ∷ xs) ≡ stands k (y ∷ ys)) → x ≡ y
first_same x y xs ys a b h =
    elim (tri x y) [
      | inl same ↦ same
      | inr other ↦
          elim other [
            | inl less ↦ absurd (false≢true (sym (below_all x (x) (y ∷ ys) (omega arith) (less, b)) ∙ (sym (h x) ∙ stands_first x xs)))
            | inr more ↦ absurd (false≢true (sym (below_all y (y) (x ∷ xs) (omega arith) (more, a)) ∙ (h y ∙ stands_first y ys)))
          ]
    ]

rest_same : (x y k : ℕ) (xs ys : List ℕ) → x ≡ y → Rises x xs → Rises y ys → ((k : ℕ) → stands k (x ∷ xs) ≡ stands k (y ∷ ys)) → (k ≤ x) ⊎ (x < k) → stands k xs ≡ stands k ys
rest_same x y k xs ys is a b h (inl low) = below_all k x xs low a ∙ sym (below_all k y ys (omega arith) b)
rest_same x y k xs ys is a b h (inr high) =
    let p : (x == k) ≡ false = ne_eqb x k (λ e. omega arith) in
    let q : (y == k) ≡ false = ne_eqb y k (λ e. omega arith) in
    ap (λ t. t || stands k xs) (sym p) ∙ (h k ∙ ap (λ t. t || stands k ys) q)

low_or_high : (k x : ℕ) → (k ≤ x) ⊎ (x < k)
low_or_high k x = grind arith

cons_same : (x y : ℕ) (xs ys : List ℕ) → x ≡ y → xs ≡ ys → x ∷ xs ≡ y ∷ ys
cons_same x y xs ys e h = cc

same_numbers : (xs ys : List ℕ) → Ascends xs → Ascends ys → ((k : ℕ) → stands k xs ≡ stands k ys) → xs ≡ ys
same_numbers [] [] a b h = refl
same_numbers [] (y ∷ ys) a b h = absurd (false≢true (h y ∙ stands_first y ys))
same_numbers (x ∷ xs) [] a b h = absurd (false≢true (sym (h x) ∙ stands_first x xs))
same_numbers (x ∷ xs) (y ∷ ys) a b h =
    let is = first_same x y xs ys a b h in
    cons_same x y xs ys is (same_numbers xs ys (rises_ascends x xs a) (rises_ascends y ys b) (λ k. rest_same x y k xs ys is a b h (low_or_high k x)))
  where
    rises_ascends : (low : ℕ) (ms : List ℕ) → Rises low ms → Ascends ms
    rises_ascends low [] r = tt
    rises_ascends low (m ∷ ms) r = r.1

-- ---- the same children in each layer

abbrev pub SameLayers : List Child → List Child → Type 0
SameLayers xs ys = (k : ℕ) → filter (is_in_layer k) xs ≡ filter (is_in_layer k) ys

same_layer_numbers : (xs ys : List Child) → SameLayers xs ys → layer_numbers xs ≡ layer_numbers ys
same_layer_numbers xs ys h =
    same_numbers (layer_numbers xs) (layer_numbers ys) (ascends xs) (ascends ys)
    (λ k. stands_where k xs ∙ (any_kept (is_in_layer k) xs ∙ (ap has_some (h k) ∙ (sym (any_kept (is_in_layer k) ys) ∙ sym (stands_where k ys)))))

cut_same : (xs ys : List Child) → SameLayers xs ys → (ns : List ℕ) → map (λ n. filter (is_in_layer n) xs) ns ≡ map (λ n. filter (is_in_layer n) ys) ns
cut_same xs ys h [] = refl
cut_same xs ys h (n ∷ ns) =
    ap (λ l. l ∷ map (λ n. filter (is_in_layer n) xs) ns) (h n) ∙ ap (λ l. filter (is_in_layer n) ys ∷ l) (cut_same xs ys h ns)

same_layers : (xs ys : List Child) → SameLayers xs ys → layers xs ≡ layers ys
unfolding layers
same_layers xs ys h =
    ap (λ ns. map (λ n. filter (is_in_layer n) xs) ns) (same_layer_numbers xs ys h) ∙ cut_same xs ys h (layer_numbers ys)

-- ---- children in the order of their layers

abbrev Climbs : List Child → Type 0
Climbs [] = ⊤
Climbs (c ∷ []) = ⊤
Climbs (c ∷ (d ∷ ds)) = (layer_of c ≤ layer_of d) × Climbs (d ∷ ds)

-- the number of the first child comes first
record Begins (k : ℕ) (ns : List ℕ) : Type 0 where
  rest : List ℕ
  is : ns ≡ k ∷ rest
  rises : Rises k rest

begins : (d : Child) (ds : List Child) → Climbs (d ∷ ds) → Begins (layer_of d) (layer_numbers (d ∷ ds))
begins d [] h = record { rest = []; is = refl; rises = tt }
begins d (e ∷ es) h =
    let b = begins e es h.1 in
    let low : layer_of d ≤ layer_of e = h.0 in
    let at : layer_numbers (d ∷ (e ∷ es)) ≡ with_number (layer_of d) (layer_of e ∷ b.rest) = ap (λ ns. with_number (layer_of d) ns) b.is in
    elim (tri (layer_of d) (layer_of e)) [
      | inl same ↦ record { rest = b.rest; is = at ∙ (with-same (layer_of d) (layer_of e) b.rest same ∙ ap (λ k. k ∷ b.rest) (sym same)); rises = subst (λ k. Rises k b.rest) (sym same) b.rises }
      | inr other ↦
          elim other [
            | inl less ↦ record { rest = layer_of e ∷ b.rest; is = at ∙ with-less (layer_of d) (layer_of e) b.rest less; rises = (less, b.rises) }
            | inr more ↦ absurd (omega arith)
          ]
    ]

kept : (n : ℕ) (c : Child) (cs : List Child) → layer_of c ≡ n → filter (is_in_layer n) (c ∷ cs) ≡ c ∷ filter (is_in_layer n) cs
kept n c cs h = rw (eq-eqb (layer_of c) n h) refl

left_out : (n : ℕ) (c : Child) (cs : List Child) → (layer_of c ≡ n → ⊥) → filter (is_in_layer n) (c ∷ cs) ≡ filter (is_in_layer n) cs
left_out n c cs h = rw (ne_eqb (layer_of c) n h) refl

-- no child is of a layer before the first
none_before : (k : ℕ) (d : Child) (ds : List Child) → Climbs (d ∷ ds) → k < layer_of d → filter (is_in_layer k) (d ∷ ds) ≡ []
none_before k d [] h less = left_out k d [] (λ e. omega arith)
none_before k d (e ∷ es) h less =
    let low : layer_of d ≤ layer_of e = h.0 in
    left_out k d (e ∷ es) (λ e. omega arith) ∙ none_before k e es h.1 (omega arith)

-- a child is in no later layer
skips : (c : Child) (cs : List Child) (low : ℕ) (ns : List ℕ) → layer_of c ≤ low → Rises low ns → map (λ n. filter (is_in_layer n) (c ∷ cs)) ns ≡ map (λ n. filter (is_in_layer n) cs) ns
skips c cs low [] h r = refl
skips c cs low (n ∷ ns) h r =
    let more : low < n = r.0 in
    ap (λ l. l ∷ map (λ n. filter (is_in_layer n) (c ∷ cs)) ns) (left_out n c cs (λ e. omega arith))
    ∙ ap (λ l. filter (is_in_layer n) cs ∷ l) (skips c cs n ns (omega arith) r.1)

runs_climb : (cs : List Child) → Climbs cs → runs cs ≡ map (λ n. filter (is_in_layer n) cs) (layer_numbers cs)
runs_climb [] h = refl
runs_climb (c ∷ []) h = ap (λ l. l ∷ []) (sym (kept (layer_of c) c [] refl))
runs_climb (c ∷ (d ∷ ds)) h =
    let low : layer_of c ≤ layer_of d = h.0 in
    let b = begins d ds h.1 in
    let cut = λ (xs : List Child) (n : ℕ). filter (is_in_layer n) xs in
    let ih : runs (d ∷ ds) ≡ filter (is_in_layer (layer_of d)) (d ∷ ds) ∷ map (λ n. filter (is_in_layer n) (d ∷ ds)) b.rest = runs_climb (d ∷ ds) h.1 ∙ ap (λ ns. map (λ n. filter (is_in_layer n) (d ∷ ds)) ns) b.is in
    let first : filter (is_in_layer (layer_of d)) (d ∷ ds) ≡ d ∷ filter (is_in_layer (layer_of d)) ds = kept (layer_of d) d ds refl in
    let at : runs (c ∷ (d ∷ ds)) ≡ in_first c ((d ∷ filter (is_in_layer (layer_of d)) ds) ∷ map (λ n. filter (is_in_layer n) (d ∷ ds)) b.rest) =
    ap (λ l. in_first c l) (ih ∙ ap (λ l. l ∷ map (λ n. filter (is_in_layer n) (d ∷ ds)) b.rest) first) in
    elim (tri (layer_of c) (layer_of d)) [
      | inl same ↦
          at ∙ (join_if (layer_of c == layer_of d) c (d ∷ filter (is_in_layer (layer_of d)) ds) (map (λ n. filter (is_in_layer n) (d ∷ ds)) b.rest) (eq-eqb (layer_of c) (layer_of d) same) ∙ sym (joined c d ds b same))
      | inr other ↦
          elim other [
            | inl less ↦ at ∙ (front_if (layer_of c == layer_of d) c (d ∷ filter (is_in_layer (layer_of d)) ds) (map (λ n. filter (is_in_layer n) (d ∷ ds)) b.rest) (ne_eqb (layer_of c) (layer_of d) (λ e. omega arith)) ∙ sym (alone c d ds b h.1 less))
            | inr more ↦ absurd (omega arith)
          ]
    ]
  where
    joined : (c d : Child) (ds : List Child) (b : Begins (layer_of d) (layer_numbers (d ∷ ds))) → layer_of c ≡ layer_of d
        → map (λ n. filter (is_in_layer n) (c ∷ (d ∷ ds))) (layer_numbers (c ∷ (d ∷ ds))) ≡ (c ∷ (d ∷ filter (is_in_layer (layer_of d)) ds)) ∷ map (λ n. filter (is_in_layer n) (d ∷ ds)) b.rest
    joined c d ds b same =
        ap (λ ns. map (λ n. filter (is_in_layer n) (c ∷ (d ∷ ds))) ns) (ap (λ ns. with_number (layer_of c) ns) b.is ∙ with-same (layer_of c) (layer_of d) b.rest same)
        ∙ (ap (λ l. l ∷ map (λ n. filter (is_in_layer n) (c ∷ (d ∷ ds))) b.rest) (kept (layer_of d) c (d ∷ ds) same ∙ ap (λ l. c ∷ l) (kept (layer_of d) d ds refl))
        ∙ ap (λ l. (c ∷ (d ∷ filter (is_in_layer (layer_of d)) ds)) ∷ l) (skips c (d ∷ ds) (layer_of d) b.rest (omega arith) b.rises))

    alone : (c d : Child) (ds : List Child) (b : Begins (layer_of d) (layer_numbers (d ∷ ds))) → Climbs (d ∷ ds) → layer_of c < layer_of d
        → map (λ n. filter (is_in_layer n) (c ∷ (d ∷ ds))) (layer_numbers (c ∷ (d ∷ ds))) ≡ (c ∷ []) ∷ ((d ∷ filter (is_in_layer (layer_of d)) ds) ∷ map (λ n. filter (is_in_layer n) (d ∷ ds)) b.rest)
    alone c d ds b climbs less =
        ap (λ ns. map (λ n. filter (is_in_layer n) (c ∷ (d ∷ ds))) ns) (ap (λ ns. with_number (layer_of c) ns) b.is ∙ with-less (layer_of c) (layer_of d) b.rest less)
        ∙ (ap (λ l. l ∷ map (λ n. filter (is_in_layer n) (c ∷ (d ∷ ds))) (layer_of d ∷ b.rest)) (kept (layer_of c) c (d ∷ ds) refl ∙ ap (λ l. c ∷ l) (none_before (layer_of c) d ds climbs less))
        ∙ ap (λ l. (c ∷ []) ∷ l) (skips c (d ∷ ds) (layer_of c) (layer_of d ∷ b.rest) (omega arith) (less, b.rises) ∙ ap (λ l. l ∷ map (λ n. filter (is_in_layer n) (d ∷ ds)) b.rest) (kept (layer_of d) d ds refl)))

-- ---- what a stable sort gives

climbs_sorted : (cs : List Child) → IsSortedByKey layer_of nat_cmp cs → Climbs cs
climbs_sorted [] h = tt
climbs_sorted (c ∷ []) h = tt
climbs_sorted (c ∷ (d ∷ ds)) h =
    let first = h 0 c (omega arith) (omega arith) in (
      ltb-false (layer_of d) (layer_of c) (sym (nat_cmp-ltb (layer_of d) (layer_of c)) ∙ first),
      climbs_sorted (d ∷ ds) (λ k x low high. rw (add-one k) (rw (add-one (suc k)) at (h (suc k) x (omega arith) (omega arith)))),
    )

tie : (a b : ℕ) → (not (is_lt (nat_cmp a b)) && not (is_lt (nat_cmp b a))) ≡ (b == a)
tie a b =
    rw (nat_cmp-ltb a b, nat_cmp-ltb b a)
    (elim (tri a b) [
      | inl same ↦ rw (le-ltb a b (omega arith), le-ltb b a (omega arith), eq-eqb b a (sym same)) refl
      | inr other ↦
          elim other [
            | inl less ↦ rw (lt-ltb a b less, ne_eqb b a (λ e. omega arith)) refl
            | inr more ↦ rw (le-ltb a b (omega arith), lt-ltb b a more, ne_eqb b a (λ e. omega arith)) refl
          ]
    ])

filter_same : (p q : Child → Bool) → ((c : Child) → p c ≡ q c) → (cs : List Child) → filter p cs ≡ filter q cs
filter_same p q h [] = refl
filter_same p q h (c ∷ cs) = ap (λ b. if b then c ∷ filter p cs else filter p cs) (h c) ∙ ap (λ l. if q c then c ∷ l else l) (filter_same p q h cs)

abbrev moved_to : ℕ → Child → Child
moved_to k c = record c { style = record c.style { layer = k } }

same_by_stable : (c : Child) (xs ys : List Child) → IsStableByKey layer_of nat_cmp xs ys → SameLayers ys xs
same_by_stable c xs ys h k =
    let test = ties (λ (x y : Child). is_lt (nat_cmp (layer_of x) (layer_of y))) (moved_to k c) in
    filter_same (is_in_layer k) test (λ d. sym (tie k (layer_of d))) ys ∙ (h (moved_to k c) ∙ filter_same test (is_in_layer k) (λ d. tie k (layer_of d)) xs)

stable_same : (xs ys : List Child) → length ys ≡ length xs → IsStableByKey layer_of nat_cmp xs ys → SameLayers ys xs
stable_same [] [] long h k = refl
stable_same [] (y ∷ ys) long h k = absurd (omega arith)
stable_same (x ∷ xs) ys long h k = same_by_stable x (x ∷ xs) ys h k

-- the runs of children that are sorted by their layers are the layers of these children
pub runs_are_layers : (xs ys : List Child) → IsPermutation xs ys → IsSortedByKey layer_of nat_cmp ys → IsStableByKey layer_of nat_cmp xs ys → runs ys ≡ layers xs
unfolding layers
runs_are_layers xs ys same sorted stable =
    runs_climb ys (climbs_sorted ys sorted) ∙ same_layers ys xs (stable_same xs ys (length_permutation xs ys same) stable)
