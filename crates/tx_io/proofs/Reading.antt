-- Bytes that are moved to the first of some places.
use Rattle.std.proofs.Common.{◌≡◌, ℕ, ◌+◌, ◌≤◌, List, ◌++◌, length, take, drop, ap, sym, ◌∙◌, arith, take-append-drop}
use Rattle.std.proofs.Math.Seq.{take-append_seam}
use Rattle.std.proofs.lemmas.List.{drop-drop, length-take-le}

-- what stands in the first places and what is left are all that was left before
pub moved-front : (bytes front places : List ℕ) (given n : ℕ) → n ≤ length (drop given bytes) → front ≡ take n (drop given bytes)
    → drop given bytes ≡ take n (front ++ drop n places) ++ drop (given + n) bytes
moved-front bytes front places given n fits is =
    let count : length front ≡ n = ap length is ∙ length-take-le n (drop given bytes) fits in
    let seam : take n (front ++ drop n places) ≡ front = ap (λ k. take k (front ++ drop n places)) (sym count) ∙ take-append_seam front (drop n places) in
    sym (take-append-drop n (drop given bytes))
    ∙ ap (λ xs. xs ++ drop n (drop given bytes)) (sym (seam ∙ is))
    ∙ ap (λ xs. take n (front ++ drop n places) ++ xs) (drop-drop n given bytes ∙ ap (λ k. drop k bytes) (omega (arith)))
