-- Where a layer ends.
use Rattle.std.proofs.Common.{◌≡◌, ℕ, ◌<◌, ◌≤◌, ◌==◌, ◌∙◌, refl, sym, ap, Bool, true, false, List, [], ◌∷◌, ◌++◌, length, take, drop, get_or, if◌then◌else◌, zero, suc, arith, subst}
use Rattle.std.specs.Prelude.{All, ⊤}
use Rattle.std.proofs.lemmas.List.Elements.{All-head, All-tail}
use Rattle.std.proofs.lemmas.Bool.{false≢true, ne_eqb, eq-eqb}
use Rattle.std.proofs.lemmas.List.{take-append-drop}
use Rattle.std.proofs.Math.ListN.{drop_of_length-le}
use Rattle.tx_layout.proofs.Lists.{drop_next}
use Rattle.tx_layout.specs.declared.children.Child.{Child}
use Rattle.tx_layout.specs.Children.{runs, in_first, layer_of}

-- runs of which the first begins with a child
record BeginsWith (d : Child) (ls : List (List Child)) : Type 0 where
  ds : List Child
  rest : List (List Child)
  is : ls ≡ (d ∷ ds) ∷ rest

begins_if : (b : Bool) (d : Child) (es : List Child) (e : Child) (ls : List (List Child)) → BeginsWith d (if b then (d ∷ (e ∷ es)) ∷ ls else (d ∷ []) ∷ ((e ∷ es) ∷ ls))
begins_if true d es e ls = record { ds = e ∷ es; rest = ls; is = refl }
begins_if false d es e ls = record { ds = []; rest = (e ∷ es) ∷ ls; is = refl }

begins_front : (d : Child) (ls : List (List Child)) → BeginsWith d (in_first d ls)
begins_front d [] = record { ds = []; rest = []; is = refl }
begins_front d ([] ∷ ls) = record { ds = []; rest = [] ∷ ls; is = refl }
begins_front d ((e ∷ es) ∷ ls) = begins_if (layer_of d == layer_of e) d es e ls

-- a child in front of a layer that begins so
pub front_if : (b : Bool) (c : Child) (l : List Child) (ls : List (List Child)) → b ≡ false → (if b then (c ∷ l) ∷ ls else (c ∷ []) ∷ (l ∷ ls)) ≡ (c ∷ []) ∷ (l ∷ ls)
front_if false c l ls is = refl
front_if true c l ls is = absurd (false≢true (sym is))

pub join_if : (b : Bool) (c : Child) (l : List Child) (ls : List (List Child)) → b ≡ true → (if b then (c ∷ l) ∷ ls else (c ∷ []) ∷ (l ∷ ls)) ≡ (c ∷ l) ∷ ls
join_if true c l ls is = refl
join_if false c l ls is = absurd (false≢true is)

apart : (c d : Child) (ls : List (List Child)) → (layer_of c == layer_of d) ≡ false → BeginsWith d ls → in_first c ls ≡ (c ∷ []) ∷ ls
apart c d ls other b =
    ap (λ l. in_first c l) b.is ∙ (front_if (layer_of c == layer_of d) c (d ∷ b.ds) b.rest other ∙ ap (λ l. (c ∷ []) ∷ l) (sym b.is))

-- what follows is of another layer
abbrev pub Follows : ℕ → List Child → Type 0
Follows k [] = ⊤
Follows k (d ∷ ds) = (k == layer_of d) ≡ false

pub one_layer : (k : ℕ) (c : Child) (front rest : List Child) → layer_of c ≡ k → All (λ x. layer_of x ≡ k) front → Follows k rest → runs (c ∷ (front ++ rest)) ≡ (c ∷ front) ∷ runs rest
one_layer k c [] [] is all follows = refl
one_layer k c [] (d ∷ ds) is all follows = apart c d (runs (d ∷ ds)) (ap (λ n. n == layer_of d) is ∙ follows) (begins_front d (runs ds))
one_layer k c (f ∷ fs) rest is all follows =
    ap (λ l. in_first c l) (one_layer k f fs rest (All-head (λ x. layer_of x ≡ k) f fs all) (All-tail (λ x. layer_of x ≡ k) f fs all) follows)
    ∙ join_if (layer_of c == layer_of f) c (f ∷ fs) (runs rest) (eq-eqb (layer_of c) (layer_of f) (is ∙ sym (All-head (λ x. layer_of x ≡ k) f fs all)))

-- the first i children are of one layer
layer_cut : (k : ℕ) (cs : List Child) (i : ℕ) → 0 < i → i ≤ length cs → All (λ x. layer_of x ≡ k) (take i cs) → Follows k (drop i cs) → runs cs ≡ take i cs ∷ runs (drop i cs)
layer_cut k cs zero some within all follows = absurd (omega arith)
layer_cut k [] (suc j) some within all follows = absurd (omega arith)
layer_cut k (c ∷ cs) (suc j) some within all follows =
    ap (λ l. runs (c ∷ l)) (sym (take-append-drop j cs))
    ∙ one_layer k c (take j cs) (drop j cs) (All-head (λ x. layer_of x ≡ k) c (take j cs) all) (All-tail (λ x. layer_of x ≡ k) c (take j cs) all) follows

-- the next child is of another layer
pub cut_before : (k : ℕ) (cs : List Child) (i : ℕ) (d : Child) → 0 < i → i < length cs → (layer_of (get_or cs i d) ≡ k → ⊥) → All (λ x. layer_of x ≡ k) (take i cs) → runs cs ≡ take i cs ∷ runs (drop i cs)
cut_before k cs i d some within other all =
    layer_cut k cs i some (omega arith) all (rw (drop_next cs i d within) (ne_eqb k (layer_of (get_or cs i d)) (λ e. other (sym e))))

-- no child is left
pub cut_at_end : (k : ℕ) (cs : List Child) (i : ℕ) → 0 < i → i ≡ length cs → All (λ x. layer_of x ≡ k) (take i cs) → runs cs ≡ take (length cs) cs ∷ runs (drop (length cs) cs)
cut_at_end k cs i some is all =
    subst (λ n. runs cs ≡ take n cs ∷ runs (drop n cs)) is (layer_cut k cs i some (omega arith) all (rw (drop_of_length-le cs {i = i} (omega arith)) tt))
