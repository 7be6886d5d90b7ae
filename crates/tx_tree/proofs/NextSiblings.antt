-- The next sibling of each node, in a list of children.
use Rattle.std.proofs.Common.{◌≡◌, ◌≢◌, ℕ, suc, ◌-◌, ◌==◌, false, cond, List, [], ◌∷◌, ◌++◌, refl, sym, ap, ◌∙◌, arith, length, ◌⊎◌, inl, inr}
use Rattle.std.proofs.lemmas.Bool.{cases_eq, eq-eqb, ne_eqb}
use Rattle.tx_tree.proofs.Counting.{none-head, none-tail}
use Rattle.tx_tree.specs.Links.{times, first_or_zero, behind_in, last_or_zero}

-- the number behind the last one is the one that comes behind it
pub behind_in-at : (n : ℕ) (left right : List ℕ) → times n left ≡ 0 → behind_in n (left ++ (n ∷ right)) ≡ first_or_zero right
behind_in-at n [] right h = rw (eq-eqb n n refl) refl
behind_in-at n (k ∷ left) right h =
    let test : (k == n) ≡ false = none-head _ _ h in
    rw test (behind_in-at n left right (none-tail _ _ h))

-- the first number of a list that has one
first-more : (xs : List ℕ) (last n : ℕ) → first_or_zero ((xs ++ (last ∷ [])) ++ (n ∷ [])) ≡ first_or_zero (xs ++ (last ∷ []))
first-more [] last n = refl
first-more (x ∷ xs) last n = refl

-- the number behind another one than the last stays
pub behind_in-more : (j n last : ℕ) (xs : List ℕ) → j ≢ last → behind_in j ((xs ++ (last ∷ [])) ++ (n ∷ [])) ≡ behind_in j (xs ++ (last ∷ []))
behind_in-more j n last [] ne =
    let test : (last == j) ≡ false = ne_eqb last j (λ e. ne (sym e)) in
    rw test (both n) where
      both : (m : ℕ) → cond {A = ℕ} (m == j) 0 0 ≡ 0
      both m = elim (cases_eq m j) [ inl e ↦ rw (eq-eqb m j e) refl | inr ne2 ↦ rw (ne_eqb m j ne2) refl ]
behind_in-more j n last (x ∷ xs) ne = elim (cases_eq x j) [
  | inl e ↦ rw (eq-eqb x j e) (first-more xs last n)
  | inr ne2 ↦ rw (ne_eqb x j ne2) (behind_in-more j n last xs ne)
]

by_last : (k : ℕ) (ks : List ℕ) → (xs : List ℕ) × (k ∷ ks ≡ xs ++ (last_or_zero (k ∷ ks) ∷ []))
by_last k [] = ([], refl)
by_last k (m ∷ ks) =
    let (xs, e) = by_last m ks in
    let same : last_or_zero (k ∷ m ∷ ks) ≡ last_or_zero (m ∷ ks) = last-more k m ks in
    (k ∷ xs, ap (λ (z : List ℕ). k ∷ z) e ∙ ap (λ (z : ℕ). k ∷ (xs ++ (z ∷ []))) (sym same)) where
      last-more : (k m : ℕ) (ks : List ℕ) → last_or_zero (k ∷ m ∷ ks) ≡ last_or_zero (m ∷ ks)
      last-more k m ks = rw (step (length ks)) refl where
        step : (z : ℕ) → suc (suc z) - 1 ≡ suc (suc z - 1)
        step z = omega arith

-- a list is empty, or the numbers before its last and that one
pub empty_or_last : (ks : List ℕ) → (ks ≡ []) ⊎ ((xs : List ℕ) × (ks ≡ xs ++ (last_or_zero ks ∷ [])))
empty_or_last [] = inl refl
empty_or_last (k ∷ ks) = inr (by_last k ks)
