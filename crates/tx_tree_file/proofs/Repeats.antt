-- Names of which none stands twice, from the last one on.
use Rattle.std.proofs.Common.{◌≡◌, ℕ, zero, suc, ◌-◌, ◌<◌, ◌≤◌, Bool, true, false, not, ◌&&◌, ◌||◌, cond, List, [], ◌∷◌, length, drop, get_or, refl, ap₂, sym, ◌∙◌, arith, bytes_eq, drop-cons}
use Rattle.std.proofs.lemmas.Slice.Eq.{bytes_eq-Decides}
use Rattle.tx_tree.specs.Classes.{has_name}
use Rattle.tx_tree.specs.Spelled.{no_repeats}

bytes_eq-sym : (xs ys : List ℕ) → bytes_eq xs ys ≡ bytes_eq ys xs
bytes_eq-sym xs ys = by (bytes_eq xs ys) (bytes_eq ys xs) refl refl
  where
    by : (a b : Bool) → bytes_eq xs ys ≡ a → bytes_eq ys xs ≡ b → bytes_eq xs ys ≡ bytes_eq ys xs
    by true true e f = e ∙ sym f
    by false false e f = e ∙ sym f
    by true false e f = e ∙ sym ((bytes_eq-Decides ys xs).1 (sym ((bytes_eq-Decides xs ys).0 e)))
    by false true e f = (bytes_eq-Decides xs ys).1 (sym ((bytes_eq-Decides ys xs).0 f)) ∙ sym f

-- names that stand twice behind some stand twice among all
repeats_behind : (n : ℕ) (names : List (List ℕ)) → no_repeats (drop n names) ≡ false → no_repeats names ≡ false
repeats_behind zero names h = h
repeats_behind (suc n) [] h = h
repeats_behind (suc n) (name ∷ names) h = rw (repeats_behind n names h) (and_false (not (has_name name names)))
  where
    and_false : (b : Bool) → (b && false) ≡ false
    and_false true = refl
    and_false false = refl

split_front : (left : ℕ) (names : List (List ℕ)) (name : List ℕ) → 0 < left → left ≤ length names → name ≡ get_or names (left - 1) name → drop (left - 1) names ≡ name ∷ drop left names
split_front left names name p h e =
    let next : suc (left - 1) ≡ left = omega (arith, p) in
    drop-cons names (left - 1) name (omega (arith, p, h)) ∙ ap₂ (λ (front : List ℕ) (k : ℕ). front ∷ drop k names) (sym e) next

-- the name stands further behind too
pub stands_twice : (left : ℕ) (names : List (List ℕ)) (name : List ℕ) → 0 < left → left ≤ length names → name ≡ get_or names (left - 1) name
    → has_name name (drop left names) ≡ true → false ≡ no_repeats names
stands_twice left names name p h e t = sym (repeats_behind (left - 1) names (rw (split_front left names name p h e, t) refl))

-- it doesn't, so one name more stands alone
pub stands_once : (left : ℕ) (names : List (List ℕ)) (name : List ℕ) → 0 < left → left ≤ length names → name ≡ get_or names (left - 1) name
    → has_name name (drop left names) ≡ false → no_repeats (drop left names) ≡ true → no_repeats (drop (left - 1) names) ≡ true
stands_once left names name p h e t apart = rw (split_front left names name p h e, t, apart) refl

-- and is known
pub known_more : (left : ℕ) (names : List (List ℕ)) (name other : List ℕ) (b c : Bool) → 0 < left → left ≤ length names → name ≡ get_or names (left - 1) name
    → b ≡ cond (bytes_eq name other) true c → c ≡ has_name other (drop left names)
    → b ≡ has_name other (drop (left - 1) names)
known_more left names name other b c p h e f g =
    rw (split_front left names name p h e, f, g, bytes_eq-sym other name) (by (bytes_eq name other) (has_name other (drop left names)))
  where
    by : (x y : Bool) → cond x true y ≡ (x || y)
    by true y = refl
    by false y = refl

pub not_true : (b : Bool) → not b ≡ false → b ≡ true
not_true true h = refl
not_true false h = cc

pub not_false : (b : Bool) → not b ≡ true → b ≡ false
not_false true h = cc
not_false false h = refl
