-- How many times a number stands in a list.
use Rattle.std.proofs.Common.{◌≡◌, ◌≢◌, ℕ, suc, ◌+◌, ◌<◌, List, [], ◌∷◌, ◌++◌, length, take, drop, refl, sym, ap, ◌∙◌, arith, inl, inr}
use Rattle.std.proofs.lemmas.Bool.{eq-eqb, ne_eqb, cases_eq}
use Rattle.tx_tree.proofs.Counting.{none-head, none-tail}
use Rattle.std.specs.Prelude.{remove, insert}
use Rattle.tx_tree.specs.ChildLists.{times, ahead_of, past_of, ahead_in, last_or_zero, without_child, with_before}

pub times-append : (n : ℕ) (xs ys : List ℕ) → times n (xs ++ ys) ≡ times n xs + times n ys
times-append n [] ys = omega arith
times-append n (k ∷ xs) ys = omega (arith, times-append n xs ys)

-- the number at the head stands there
pub times-head : (k : ℕ) (ks : List ℕ) → 0 < times k (k ∷ ks)
times-head k ks = rw (eq-eqb k k refl) (omega arith)

-- a number of the tail stands in the list
pub times-tail : (n k : ℕ) (ks : List ℕ) → 0 < times n ks → 0 < times n (k ∷ ks)
times-tail n k ks h = omega (arith, h)

-- another number than the head
pub times-other : (n k : ℕ) (ks : List ℕ) → k ≢ n → times n (k ∷ ks) ≡ times n ks
times-other n k ks h = rw (ne_eqb k n h) (omega arith)

-- a list in which a number stands, cut there for the first time
pub record Cut (n : ℕ) (ks left right : List ℕ) : Type 0 where
  pub whole : ks ≡ left ++ (n ∷ right)
  pub none : times n left ≡ 0

-- a number that stands in a list cuts it
pub cut : (n : ℕ) (ks : List ℕ) → 0 < times n ks → (left : List ℕ) × (right : List ℕ) × Cut n ks left right
cut n [] h = absurd (omega (arith, h))
cut n (k ∷ ks) h = elim (cases_eq k n) [
  | inl e ↦ ([], ks, record { whole = ap (λ (z : ℕ). z ∷ ks) e; none = refl })
  | inr ne ↦
      let (left, right, c) = cut n ks (rw (sym (times-other n k ks ne)) h) in
      (k ∷ left, right, record { whole = ap (λ (z : List ℕ). k ∷ z) c.whole; none = times-other n k left ne ∙ c.none })
]

-- the parts of a list round the first place of a number
pub ahead_of-cut : (n : ℕ) (left right : List ℕ) → times n left ≡ 0 → ahead_of n (left ++ (n ∷ right)) ≡ left
ahead_of-cut n [] right h = rw (eq-eqb n n refl) refl
ahead_of-cut n (k ∷ left) right h = rw (none-head _ _ h) (ap (λ (z : List ℕ). k ∷ z) (ahead_of-cut n left right (none-tail _ _ h)))

-- the numbers ahead of one that stands in a list once, and last
pub ahead_of-last : (n : ℕ) (front : List ℕ) → times n (front ++ n ∷ []) ≡ 1 → ahead_of n (front ++ n ∷ []) ≡ front
ahead_of-last n front once =
    let sum = times-append n front (n ∷ []) in
    let some = times-head n [] in
    ahead_of-cut n front [] (omega (arith, once, sum, some))

pub past_of-cut : (n : ℕ) (left right : List ℕ) → times n left ≡ 0 → past_of n (left ++ (n ∷ right)) ≡ right
past_of-cut n [] right h = rw (eq-eqb n n refl) refl
past_of-cut n (k ∷ left) right h = rw (none-head _ _ h) (past_of-cut n left right (none-tail _ _ h))

pub take-ahead : (n : ℕ) (ks : List ℕ) → take (length (ahead_of n ks)) ks ≡ ahead_of n ks
take-ahead n [] = refl
take-ahead n (k ∷ ks) = elim (cases_eq k n) [
  | inl e ↦ rw (eq-eqb k n e) refl
  | inr ne ↦ rw (ne_eqb k n ne) (ap (λ (z : List ℕ). k ∷ z) (take-ahead n ks))
]

pub drop-ahead : (n : ℕ) (ks : List ℕ) → 0 < times n ks → drop (suc (length (ahead_of n ks))) ks ≡ past_of n ks
drop-ahead n [] h = absurd (omega (arith, h))
drop-ahead n (k ∷ ks) h = elim (cases_eq k n) [
  | inl e ↦ rw (eq-eqb k n e) refl
  | inr ne ↦ rw (ne_eqb k n ne) (drop-ahead n ks (rw (sym (times-other n k ks ne)) h))
]

-- the first place of a number, by the list from some place on
pub place-here : (n i : ℕ) (ks : List ℕ) (k : ℕ) (rest : List ℕ) → drop i ks ≡ k ∷ rest → k ≡ n
    → length (ahead_of n ks) ≡ i + length (ahead_of n (drop i ks)) → i ≡ length (ahead_of n ks)
place-here n i ks k rest e same h =
    let none : length (ahead_of n (drop i ks)) ≡ 0 = ap (λ (z : List ℕ). length (ahead_of n z)) e ∙ rw (eq-eqb k n same) refl in
    omega (arith, h, none)

pub place-more : (n i : ℕ) (ks : List ℕ) (k : ℕ) → drop i ks ≡ k ∷ drop (i + 1) ks → k ≢ n
    → length (ahead_of n ks) ≡ i + length (ahead_of n (drop i ks)) → length (ahead_of n ks) ≡ (i + 1) + length (ahead_of n (drop (i + 1) ks))
place-more n i ks k e ne h =
    let one : length (ahead_of n (drop i ks)) ≡ suc (length (ahead_of n (drop (i + 1) ks))) =
    ap (λ (z : List ℕ). length (ahead_of n z)) e ∙ rw (ne_eqb k n ne) refl in
    omega (arith, h, one)

pub times-more : (n i : ℕ) (ks : List ℕ) (k : ℕ) → drop i ks ≡ k ∷ drop (i + 1) ks → k ≢ n → 0 < times n (drop i ks) → 0 < times n (drop (i + 1) ks)
times-more n i ks k e ne h =
    let same : times n (drop i ks) ≡ times n (drop (i + 1) ks) = ap (times n) e ∙ times-other n k (drop (i + 1) ks) ne in
    omega (arith, h, same)

-- a list without the number at that place
pub removed-child : (n : ℕ) (ks : List ℕ) (place : ℕ) → place ≡ length (ahead_of n ks) → 0 < times n ks → remove ks place ≡ without_child n ks
removed-child n ks place e h =
    ap (remove ks) e ∙ (ap (λ (z : List ℕ). z ++ drop (suc (length (ahead_of n ks))) ks) (take-ahead n ks) ∙ ap (λ (z : List ℕ). ahead_of n ks ++ z) (drop-ahead n ks h))

-- a list from the first place of a number on
pub drop-before : (n : ℕ) (ks : List ℕ) → 0 < times n ks → drop (length (ahead_of n ks)) ks ≡ n ∷ past_of n ks
drop-before n [] h = absurd (omega (arith, h))
drop-before n (k ∷ ks) h = elim (cases_eq k n) [
  | inl e ↦ rw (eq-eqb k n e) (ap (λ (z : ℕ). z ∷ ks) e)
  | inr ne ↦ rw (ne_eqb k n ne) (drop-before n ks (rw (sym (times-other n k ks ne)) h))
]

-- a list with a number put in at that place
pub inserted-child : (n other : ℕ) (ks : List ℕ) (place : ℕ) → place ≡ length (ahead_of other ks) → 0 < times other ks → insert ks place n ≡ with_before n other ks
inserted-child n other ks place e h =
    ap (λ (z : ℕ). insert ks z n) e
    ∙ (ap (λ (z : List ℕ). z ++ (n ∷ drop (length (ahead_of other ks)) ks)) (take-ahead other ks)
    ∙ ap (λ (z : List ℕ). ahead_of other ks ++ (n ∷ z)) (drop-before other ks h))

-- the steps of a move within a list
pub without-step : (n : ℕ) (ks xs ys zs : List ℕ) (place : ℕ) → xs ≡ ks → ys ≡ ks → place ≡ length (ahead_of n ys) → 0 < times n ks
    → zs ≡ remove xs place → zs ≡ without_child n ks
without-step n ks xs ys zs place ex ey ep h ez =
    ez ∙ (ap (λ (z : List ℕ). remove z place) ex ∙ removed-child n ks place (ep ∙ ap (λ (z : List ℕ). length (ahead_of n z)) ey) h)

pub before-step : (n other : ℕ) (ks zs ys ws : List ℕ) (place : ℕ) → zs ≡ ks → ys ≡ zs → place ≡ length (ahead_of other ys) → 0 < times other ks
    → ws ≡ insert zs place n → ws ≡ with_before n other ks
before-step n other ks zs ys ws place ez ey ep h ew =
    ew ∙ (ap (λ (z : List ℕ). insert z place n) ez ∙ inserted-child n other ks place (ep ∙ ap (λ (z : List ℕ). length (ahead_of other z)) (ey ∙ ez)) h)

pub ahead-step : (n : ℕ) (ks ys us : List ℕ) (place ahead : ℕ) → ys ≡ ks → us ≡ ks → place ≡ length (ahead_of n ys) → ahead ≡ last_or_zero (take place us) → ahead ≡ ahead_in n ks
ahead-step n ks ys us place ahead ey eu ep ea =
    ea ∙ (ap (λ (z : List ℕ). last_or_zero (take place z)) eu
    ∙ (ap (λ (z : ℕ). last_or_zero (take z ks)) (ep ∙ ap (λ (z : List ℕ). length (ahead_of n z)) ey) ∙ ap last_or_zero (take-ahead n ks)))
