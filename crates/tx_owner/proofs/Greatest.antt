-- The first that passes a test in a list that is sorted, the greatest first, is the greatest that does.
use Rattle.std.proofs.Common.{◌≡◌, ℕ, ◌<◌, ◌∙◌, sym, ap, refl, subst, Bool, true, false, not, ◌&&◌, cond, List, [], ◌∷◌, length, get_or, ⊎_elim, arith}
use Rattle.std.specs.Prelude.{Option, Some, None, IsPermutation, IsSortedBy, All}
use Rattle.std.specs.Cmp.{IsStrictWeakOrder}
use Rattle.std.specs.List.{Any, filter, find, list_any}
use Rattle.std.specs.List.Sorted.{IsStableBy, ties}
use Rattle.std.proofs.lemmas.Bool.{cases_Bool, false≢true}
use Rattle.std.proofs.lemmas.List.Elements.{All-from_recursion, recursion_from_All}
use Rattle.std.proofs.lemmas.List.Folds.{Any-from_list_any, list_any_none}
use Rattle.std.proofs.lemmas.List.Kept.{IsSortedBy-filter}
use Rattle.std.proofs.lemmas.List.Sorted.{All-permutation, list_any-IsPermutation, sorted_far}
use Rattle.tx_owner.proofs.Filters.{head, any-both, any-none, filter-both, filter-none, filter-within, find-head, find-same}

-- lt says that one stands before another
module _ {A : Type 0} (lt : A → A → Bool) (order : IsStrictWeakOrder lt) where
  -- none of some stands before this one
  abbrev pub leads : List A → A → Bool
  leads all a = not (list_any (λ b. lt b a) all)

  sorted_head : (xs : List A) → IsSortedBy lt xs → head xs ≡ find (leads xs) xs
  sorted_head [] sorted = refl
  sorted_head (x ∷ xs) sorted =
      let none : list_any (λ b. lt b x) (x ∷ xs) ≡ false = list_any_none (λ b. lt b x) (x ∷ xs) (λ k d within. sorted_far lt order (x ∷ xs) sorted 0 k d (omega arith) within) in
      rw (ap not none) refl

  pub first_leads : (q : A → Bool) (ys : List A) → IsSortedBy lt ys → find q ys ≡ find (leads (filter q ys)) (filter q ys)
  first_leads q ys sorted = find-head q ys ∙ sorted_head (filter q ys) (IsSortedBy-filter lt order q ys sorted)

  -- ---- which of those that lead comes first is the same in a list that was sorted stably

  module _ (q : A → Bool) (xs ys : List A) (moved : IsPermutation xs ys) (stable : IsStableBy lt xs ys) where
    abbrev beaten : A → Bool
    beaten a = list_any (λ b. q b && lt b a) xs

    abbrev best : A → Bool
    best a = q a && not (beaten a)

    not_true : (b : Bool) → not b ≡ true → b ≡ false
    not_true false is = refl
    not_true true is = sym is

    both_first : (a b : Bool) → (a && b) ≡ true → a ≡ true
    both_first true b is = refl
    both_first false b is = is

    both_second : (a b : Bool) → (a && b) ≡ true → b ≡ true
    both_second true b is = is
    both_second false b is = absurd (false≢true is)

    only_first : (a b : Bool) → a ≡ true → (a && b) ≡ false → b ≡ false
    only_first true b is none = none
    only_first false b is none = absurd (false≢true is)

    both_not : (a b : Bool) → a ≡ false → b ≡ false → (not a && not b) ≡ true
    both_not a b first second = rw (first, second) refl

    -- none of the list that counts stands before one of the best
    unbeaten : (a : A) → best a ≡ true → All (λ b. (q b && lt b a) ≡ false) xs
    unbeaten a is = All-from_recursion (λ b. (q b && lt b a) ≡ false) xs (any-none (λ b. q b && lt b a) xs (not_true (beaten a) (both_second (q a) (not (beaten a)) is)))

    tied : (k : ℕ) (g : A) → k < length xs → get_or xs k g ≡ g → best g ≡ true → All (λ a. best a ≡ true → ties lt g a ≡ true) xs
    tied k g within at is j d inside is_best =
        let a : A = get_or xs j d in
        let g_first : (q g && lt g a) ≡ false = subst (λ e. (q e && lt e a) ≡ false) at (unbeaten a is_best k g within) in
        let a_first : (q a && lt a g) ≡ false = unbeaten g is j d inside in
        both_not (lt g a) (lt a g) (only_first (q g) (lt g a) (both_first (q g) (not (beaten g)) is) g_first) (only_first (q a) (lt a g) (both_first (q a) (not (beaten a)) is_best) a_first)

    same_where : Any (λ a. best a ≡ true) xs → filter best ys ≡ filter best xs
    same_where (k, g, within, at, is) =
        let tests : A → Type 0 = λ a. best a ≡ true → ties lt g a ≡ true in
        let all : All tests xs = tied k g within at is in
        sym (filter-within best (ties lt g) ys (recursion_from_All tests ys (All-permutation tests xs ys moved all)))
        ∙ (ap (filter best) (stable g)
        ∙ filter-within best (ties lt g) xs (recursion_from_All tests xs all))

    same_best : filter best ys ≡ filter best xs
    same_best = ⊎_elim
        (λ some. same_where (Any-from_list_any best xs some))
        (λ none. filter-none best ys (sym (list_any-IsPermutation best xs ys moved) ∙ none) ∙ sym (filter-none best xs none))
        (cases_Bool (list_any best xs))

    leads-beaten : (a : A) → leads (filter q xs) a ≡ not (beaten a)
    leads-beaten a = ap not (any-both (λ b. lt b a) q xs)

    leads-moved : (a : A) → leads (filter q ys) a ≡ not (beaten a)
    leads-moved a = ap not (any-both (λ b. lt b a) q ys ∙ sym (list_any-IsPermutation (λ b. q b && lt b a) xs ys moved))

    pub same_leader : find (leads (filter q ys)) (filter q ys) ≡ find (leads (filter q xs)) (filter q xs)
    same_leader =
        find-same (leads (filter q ys)) (λ a. not (beaten a)) (filter q ys) leads-moved
        ∙ (find-head (λ a. not (beaten a)) (filter q ys)
        ∙ (ap head (filter-both (λ a. not (beaten a)) q ys ∙ (same_best ∙ sym (filter-both (λ a. not (beaten a)) q xs)))
        ∙ (sym (find-head (λ a. not (beaten a)) (filter q xs))
        ∙ find-same (λ a. not (beaten a)) (leads (filter q xs)) (filter q xs) (λ a. sym (leads-beaten a)))))
