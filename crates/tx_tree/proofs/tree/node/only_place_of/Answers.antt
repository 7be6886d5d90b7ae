-- A child that stands once, and last, has all others ahead of it.
use Rattle.std.proofs.Common.{◌≡◌, ◌-◌, ◌≤◌, ℕ, List, [], ◌∷◌, ◌++◌, take, length, ap, sym, ◌∙◌, arith, inl, inr, length-append, length-take-le}
use Rattle.tx_tree.specs.ChildLists.{times, ahead_of, last_or_zero}
use Rattle.tx_tree.proofs.NextSiblings.{empty_or_last}
use Rattle.tx_tree.proofs.Numbers.{ahead_of-last}
use Rattle.tx_tree.proofs.tree.node.only_place_of.Goals as goal

ahead_of-end : (n : ℕ) (ks : List ℕ) → 1 ≤ length ks → last_or_zero ks ≡ n → times n ks ≡ 1 → length (take (length ks - 1) ks) ≡ length (ahead_of n ks)
ahead_of-end n ks some last once = elim (empty_or_last ks) [
  | inl empty ↦ let none = ap length empty in omega (arith, none, some)
  | inr found ↦
      let whole : ks ≡ found.0 ++ (n ∷ []) = found.1 ∙ ap (λ (k : ℕ). found.0 ++ (k ∷ [])) last in
      let ahead : ahead_of n ks ≡ found.0 = ap (ahead_of n) whole ∙ ahead_of-last n found.0 (sym (ap (times n) whole) ∙ once) in
      let size = ap length whole in
      let sum = length-append found.0 (n ∷ []) in
      let front = ap length ahead in
      let taken = length-take-le (length ks - 1) ks (omega arith) in
      omega (arith, size, sum, front, taken, some)
]

pub returns-clause-place : goal.returns-clause-place
returns-clause-place c = ahead_of-end c.args.child c.args.children.now c.in-len1-up.len_at_least c.if-last-child.true c.requires
