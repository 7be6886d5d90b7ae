-- Rows that are cut at one of them: those before it, it and those below it, and those after these.
use Rattle.std.proofs.Common.{◌≡◌, ℕ, ◌+◌, nat_lt, List, [], ◌∷◌, ◌++◌, Option, Some, refl, sym, ap, subst, ◌∙◌, arith, inl, inr}
use Rattle.std.specs.Prelude.{unwrap_or}
use Rattle.std.proofs.lemmas.Bool.{cases_Bool}
use Rattle.tx_tree.specs.Row.{has_number}
use Rattle.tx_tree.specs.Rows.{row_at, before_of, from_of, deeper, past, first_subtree, past_subtree, subtree_of, after_of, count_of}
use Rattle.tx_tree.specs.declared.row.Row.{Row}
use Rattle.tx_cascade.proofs.RowParts.{Climbs, AreAsDeep, past-climbs, deeper-deep, deeper-climbs, from-climbs}

pub record Cut (n : ℕ) (rows : List Row) (row : Row) : Type 0 where
  pub below : List Row
  pub subtree : subtree_of n rows ≡ row ∷ below
  pub whole : before_of n rows ++ (subtree_of n rows ++ after_of n rows) ≡ rows
  pub deep : AreAsDeep (row.depth + 1) below
  pub climbs : Climbs row.depth (row ∷ below)
  pub after : Climbs row.depth (after_of n rows)
  pub apart : count_of n (before_of n rows) ≡ 0

pub split-whole : (n : ℕ) (rows : List Row) → before_of n rows ++ from_of n rows ≡ rows
split-whole n [] = refl
split-whole n (row ∷ rows) = elim (cases_Bool (has_number n row)) [
  | inl own ↦ rw own refl
  | inr other ↦ rw other (ap (λ (rs : List Row). row ∷ rs) (split-whole n rows))
]

depth-whole : (depth : ℕ) (rows : List Row) → deeper depth rows ++ past depth rows ≡ rows
depth-whole depth [] = refl
depth-whole depth (row ∷ rows) = elim (cases_Bool (nat_lt depth row.depth)) [
  | inl deep ↦ rw deep (ap (λ (rs : List Row). row ∷ rs) (depth-whole depth rows))
  | inr end ↦ rw end refl
]

subtree-whole : (rows : List Row) → first_subtree rows ++ past_subtree rows ≡ rows
subtree-whole [] = refl
subtree-whole (row ∷ rows) = ap (λ (rs : List Row). row ∷ rs) (depth-whole row.depth rows)

pub before-apart : (n : ℕ) (rows : List Row) → count_of n (before_of n rows) ≡ 0
before-apart n [] = refl
before-apart n (row ∷ rows) = elim (cases_Bool (has_number n row)) [
  | inl own ↦ rw own refl
  | inr other ↦ let rest = before-apart n rows in rw (other, other) (omega (arith, rest))
]

from-at : (n : ℕ) (rows : List Row) (row : Row) → row_at n rows ≡ Some row → (tail : List Row) × (from_of n rows ≡ row ∷ tail)
from-at n [] row there = cc
from-at n (first ∷ rows) row there = elim (cases_Bool (has_number n first)) [
  | inl own ↦
      let was : Some first ≡ Some row = rw own at there in
      let is : first ≡ row = ap (λ (o : Option Row). unwrap_or o first) was in
      rw own (rows, ap (λ (r : Row). r ∷ rows) is)
  | inr other ↦ let was = rw other at there in rw other (from-at n rows row was)
]

pub cut : (most n : ℕ) (rows : List Row) (row : Row) → Climbs most rows → row_at n rows ≡ Some row → Cut n rows row
cut most n rows row climbs there =
    let from = from-at n rows row there in
    let tail : List Row = from.0 in
    let climbing : Climbs row.depth (row ∷ tail) = subst (λ (rs : List Row). Climbs row.depth rs) from.1 (from-climbs most n rows row climbs there) in
    record {
      below = deeper row.depth tail;
      subtree = ap first_subtree from.1;
      whole = ap (λ (rs : List Row). before_of n rows ++ rs) (subtree-whole (from_of n rows)) ∙ split-whole n rows;
      deep = deeper-deep row.depth tail;
      climbs = (climbing.0, deeper-climbs row.depth (row.depth + 1) tail climbing.1);
      after = subst (λ (rs : List Row). Climbs row.depth rs) (sym (ap past_subtree from.1)) (past-climbs row.depth (row.depth + 1) tail climbing.1);
      apart = before-apart n rows;
    }
