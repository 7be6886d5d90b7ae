-- Cells that are met from the last one to the first.
use Rattle.std.proofs.Common.{◌≡◌, ℕ, suc, ◌+◌, ◌<◌, ◌∙◌, sym, ap, refl, Bool, true, false, cond, List, [], ◌∷◌, length, drop, get_or, drop-cons, arith}
use Rattle.std.specs.Prelude.{Option, Some, None, option_map, if◌then◌else◌}
use Rattle.std.specs.List.{position_from}
use Rattle.std.specs.Option.{option_or}
use Rattle.tx_owner.specs.Owner.{first_cell, first_in}

drop_next : {A : Type 0} (xs : List A) (i at : ℕ) (x : A) → at ≡ i + 1 → i < length xs → x ≡ get_or xs i x → drop i xs ≡ x ∷ drop at xs
drop_next {A} xs i at x step within here =
    let next : suc i ≡ at = omega (arith, step) in
    drop-cons xs i x within ∙ ap (λ (y : A). y ∷ drop (suc i) xs) (sym here) ∙ ap (λ k. x ∷ drop k xs) next

one_more : (b : Bool) (i y : ℕ) (first : Option ℕ) (else_there : Option (ℕ × ℕ))
    → (if b then Some (i, y) else option_or (option_map (λ x. (x, y)) first) else_there) ≡ option_or (option_map (λ x. (x, y)) (cond b (Some i) first)) else_there
one_more true i y first else_there = refl
one_more false i y first else_there = refl

-- with one cell more in front
pub cell_next : (test : Option ℕ → Bool) (y : ℕ) (line : List (Option ℕ)) (i at : ℕ) (cell : Option ℕ) (before now first : Option (ℕ × ℕ)) → at ≡ i + 1 → i < length line → cell ≡ get_or line i cell
    → now ≡ (if test cell then Some (i, y) else before)
    → before ≡ option_or (option_map (λ x. (x, y)) (position_from test at (drop at line))) first
    → now ≡ option_or (option_map (λ x. (x, y)) (position_from test i (drop i line))) first
cell_next test y line i at cell before now first step within here is so_far =
    is ∙ (ap (λ o. if test cell then Some (i, y) else o) so_far
    ∙ (one_more (test cell) i y (position_from test at (drop at line)) first
    ∙ ap (λ l. option_or (option_map (λ x. (x, y)) l) first)
    (ap (λ k. cond (test cell) (Some i) (position_from test k (drop at line))) step ∙ ap (position_from test i) (sym (drop_next line i at cell step within here)))))

-- with one line more in front
pub line_next : (test : Option ℕ → Bool) (lines : List (List (Option ℕ))) (i at : ℕ) (line : List (Option ℕ)) (before now : Option (ℕ × ℕ)) → at ≡ i + 1 → i < length lines → line ≡ get_or lines i line
    → now ≡ option_or (first_in test i line) before → before ≡ first_cell test at (drop at lines) → now ≡ first_cell test i (drop i lines)
line_next test lines i at line before now step within here is so_far =
    is ∙ (ap (option_or (first_in test i line)) (so_far ∙ ap (λ k. first_cell test k (drop at lines)) step) ∙ ap (first_cell test i) (sym (drop_next lines i at line step within here)))
