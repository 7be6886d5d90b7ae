-- Laws of items one behind another.
use Rattle.std.proofs.Common.{◌≡◌, ℕ, zero, suc, ◌<◌, ◌≤◌, Bool, true, false, cond, List, [], ◌∷◌, ◌++◌, Result, Ok, Err, refl, ap, sym, ◌∙◌, subst, arith, append_assoc}
use Rattle.tx_read.specs.Reading.{Reader, Run, ends_at, behind_items, then_items, many_within, many, Shrinks, Items, StopsAt, IsFound}

-- a run behind no items is that run
behind_items-none : {A S F : Type 0} (run : Run A S F) → behind_items [] run ≡ run
behind_items-none run = refl

-- items before items before a run
pub behind_items-append : {A S F : Type 0} (xs ys : List A) (run : Run A S F) → behind_items xs (behind_items ys run) ≡ behind_items (xs ++ ys) run
behind_items-append xs ys run = ap (λ items. record { items = items; end = run.end }) (sym (append_assoc xs ys run.items))

-- two ways to go on behind an item are alike where they are alike behind smaller states
then_items-same : {A S F : Type 0} (size : S → ℕ) (begins : S → Bool) (item : Reader S F A) → Shrinks size begins item → (s : S) (one other : S → Run A S F)
    → ((next : S) → size next < size s → one next ≡ other next) → (found : Result (A × S) F) → item s ≡ found → then_items found one ≡ then_items found other
then_items-same size begins item shrinks s one other alike (Err fault) is = refl
then_items-same size begins item shrinks s one other alike (Ok found) is = ap (behind_items (found.0 ∷ [])) (alike found.1 (shrinks.smaller s found.1 found.0 is))

-- a greater bound on the items changes nothing once it is at least the size
pub many_within-enough : {A S F : Type 0} (size : S → ℕ) (begins : S → Bool) (item : Reader S F A) → Shrinks size begins item
    → (most more : ℕ) (s : S) → size s ≤ most → size s ≤ more → many_within most begins item s ≡ many_within more begins item s
many_within-enough size begins item shrinks zero zero s small also = refl
many_within-enough size begins item shrinks zero (suc more) s small also =
    let none : begins s ≡ false = shrinks.ends s (omega (arith, small)) in
    sym (ap (λ b. cond b (then_items (item s) (many_within more begins item)) (ends_at (Ok s))) none)
many_within-enough size begins item shrinks (suc most) zero s small also =
    let none : begins s ≡ false = shrinks.ends s (omega (arith, also)) in
    ap (λ b. cond b (then_items (item s) (many_within most begins item)) (ends_at (Ok s))) none
many_within-enough size begins item shrinks (suc most) (suc more) s small also =
    ap (λ run. cond (begins s) run (ends_at (Ok s))) (then_items-same size begins item shrinks s (many_within most begins item) (many_within more begins item)
    (λ next less. many_within-enough size begins item shrinks most more next (omega (arith, less, small)) (omega (arith, less, also))) (item s) refl)

-- one item, and then the others
pub many-step : {A S F : Type 0} (size : S → ℕ) (begins : S → Bool) (item : Reader S F A) → Shrinks size begins item → (s : S)
    → many size begins item s ≡ cond (begins s) (then_items (item s) (many size begins item)) (ends_at (Ok s))
unfolding many
many-step {A = A} {S = S} {F = F} size begins item shrinks s = of (size s) refl
  where
    of : (n : ℕ) → size s ≡ n → many_within n begins item s ≡ cond (begins s) (then_items (item s) (λ next. many_within (size next) begins item next)) (ends_at (Ok s))
    of zero sized = sym (ap (λ b. cond b (then_items (item s) (λ next. many_within (size next) begins item next)) (ends_at (Ok s))) (shrinks.ends s sized))
    of (suc most) sized = ap (λ run. cond (begins s) run (ends_at (Ok s)))
        (then_items-same size begins item shrinks s (many_within most begins item) (λ next. many_within (size next) begins item next)
        (λ next less. many_within-enough size begins item shrinks most (size next) next (omega (arith, less, sized)) (omega arith)) (item s) refl)

-- the step of a loop: an item was read behind those before it
pub many-item : {A S F : Type 0} (size : S → ℕ) (begins : S → Bool) (item : Reader S F A) → Shrinks size begins item → (front : List A) (s next : S) (a : A)
    → begins s ≡ true → item s ≡ Ok (a, next) → behind_items front (many size begins item s) ≡ behind_items (front ++ (a ∷ [])) (many size begins item next)
many-item size begins item shrinks front s next a begun is =
    ap (behind_items front) (many-step size begins item shrinks s
    ∙ ap (λ b. cond b (then_items (item s) (many size begins item)) (ends_at (Ok s))) begun
    ∙ ap (λ found. then_items found (many size begins item)) is)
    ∙ behind_items-append front (a ∷ []) (many size begins item next)

-- the end of a loop: no further item begins
pub many-end : {A S F : Type 0} (size : S → ℕ) (begins : S → Bool) (item : Reader S F A) → Shrinks size begins item → (s : S)
    → begins s ≡ false → many size begins item s ≡ ends_at (Ok s)
many-end size begins item shrinks s none =
    many-step size begins item shrinks s ∙ ap (λ b. cond b (then_items (item s) (many size begins item)) (ends_at (Ok s))) none

-- the end of a loop: an item is at fault
pub many-fault : {A S F : Type 0} (size : S → ℕ) (begins : S → Bool) (item : Reader S F A) → Shrinks size begins item → (s : S) (fault : F)
    → begins s ≡ true → item s ≡ Err fault → many size begins item s ≡ ends_at (Err fault)
many-fault size begins item shrinks s fault begun is =
    many-step size begins item shrinks s
    ∙ ap (λ b. cond b (then_items (item s) (many size begins item)) (ends_at (Ok s))) begun
    ∙ ap (λ found. then_items found (many size begins item)) is

-- What is read is in the grammar, by the number of items at most: where each item that is read is one of the relation,
-- the items are.
found_behind : {A S F : Type 0} (IsItem : S → A → S → Type 0) (begins : S → Bool) (item : Reader S F A) (s next : S) (a : A) (run : Run A S F)
    → IsItem s a next → IsFound IsItem begins item next run → IsFound IsItem begins item s (behind_items (a ∷ []) run)
found_behind IsItem begins item s next a run is found = record { last = found.last; items = (next, (is, found.items)); stops = found.stops }

found_none : {A S F : Type 0} (IsItem : S → A → S → Type 0) (begins : S → Bool) (item : Reader S F A) (s : S) → begins s ≡ false → IsFound IsItem begins item s (ends_at (Ok s))
found_none IsItem begins item s none = record { last = s; items = refl; stops = (refl, none) }

found_then : {A S F : Type 0} (IsItem : S → A → S → Type 0) (size : S → ℕ) (begins : S → Bool) (item : Reader S F A) → Shrinks size begins item
    → ((s next : S) (a : A) → begins s ≡ true → item s ≡ Ok (a, next) → IsItem s a next) → (s : S) (next : S → Run A S F)
    → ((after : S) → size after < size s → IsFound IsItem begins item after (next after))
    → (found : Result (A × S) F) → begins s ≡ true → item s ≡ found → IsFound IsItem begins item s (then_items found next)
found_then IsItem size begins item shrinks sound s next rest (Err fault) begun is = record { last = s; items = refl; stops = (begun, is) }
found_then IsItem size begins item shrinks sound s next rest (Ok found) begun is =
    found_behind IsItem begins item s found.1 found.0 (next found.1) (sound s found.1 found.0 begun is) (rest found.1 (shrinks.smaller s found.1 found.0 is))

found_cases : {A S F : Type 0} (IsItem : S → A → S → Type 0) (begins : S → Bool) (item : Reader S F A) (s : S) (run : Run A S F) (b : Bool) → begins s ≡ b
    → (begins s ≡ true → IsFound IsItem begins item s run) → IsFound IsItem begins item s (cond b run (ends_at (Ok s)))
found_cases IsItem begins item s run true is found = found is
found_cases IsItem begins item s run false is found = found_none IsItem begins item s is

found_within : {A S F : Type 0} (IsItem : S → A → S → Type 0) (size : S → ℕ) (begins : S → Bool) (item : Reader S F A) → Shrinks size begins item
    → ((s next : S) (a : A) → begins s ≡ true → item s ≡ Ok (a, next) → IsItem s a next) → (most : ℕ) (s : S) → size s ≤ most
    → IsFound IsItem begins item s (many_within most begins item s)
found_within IsItem size begins item shrinks sound zero s small = found_none IsItem begins item s (shrinks.ends s (omega (arith, small)))
found_within IsItem size begins item shrinks sound (suc most) s small =
    found_cases IsItem begins item s (then_items (item s) (many_within most begins item)) (begins s) refl (λ begun.
    found_then IsItem size begins item shrinks sound s (many_within most begins item)
    (λ after less. found_within IsItem size begins item shrinks sound most after (omega (arith, less, small))) (item s) begun refl)

-- What is read is in the grammar.
pub many-found : {A S F : Type 0} (IsItem : S → A → S → Type 0) (size : S → ℕ) (begins : S → Bool) (item : Reader S F A) → Shrinks size begins item
    → ((s next : S) (a : A) → begins s ≡ true → item s ≡ Ok (a, next) → IsItem s a next) → (s : S) → IsFound IsItem begins item s (many size begins item s)
unfolding many
many-found IsItem size begins item shrinks sound s = found_within IsItem size begins item shrinks sound (size s) s (omega arith)

-- What is in the grammar is read: the items that are read one behind another, up to where they end.
pub many-again : {A S F : Type 0} (size : S → ℕ) (begins : S → Bool) (item : Reader S F A) → Shrinks size begins item
    → (s last : S) (items : List A) (end : Result S F) → Items (λ s a next. (begins s ≡ true) × (item s ≡ Ok (a, next))) s items last → StopsAt begins item last end
    → many size begins item s ≡ record { items = items; end = end }
many-again size begins item shrinks s last [] (Ok final) is stops = subst (λ t. many size begins item t ≡ ends_at (Ok final)) (sym is) (many-end size begins item shrinks last stops.1 ∙ ap (λ t. ends_at (Ok t)) (sym stops.0))
many-again size begins item shrinks s last [] (Err fault) is stops = subst (λ t. many size begins item t ≡ ends_at (Err fault)) (sym is) (many-fault size begins item shrinks last fault stops.0 stops.1)
many-again size begins item shrinks s last (a ∷ items) end is stops =
    many-item size begins item shrinks [] s is.0 a is.1.0.0 is.1.0.1
    ∙ ap (behind_items (a ∷ [])) (many-again size begins item shrinks is.0 last items end is.1.1 stops)
