-- Which selectors match, as it is looked for, is which do.
use Rattle.std.proofs.Common.{◌≡◌, ℕ, ◌≤◌, Bool, true, false, List, refl, sym, inl, inr}
use Rattle.std.proofs.lemmas.Bool.{cases_Bool, false≢true}
use Rattle.tx_tree.specs.Rows.{count_of}
use Rattle.tx_tree.specs.declared.row.Row.{Row}
use Rattle.tx_select.specs.Match.{IsMatch}
use Rattle.tx_select.specs.declared.value.Compound.{Compound}
use Rattle.tx_select.specs.declared.value.Pseudo.{Pseudo as State}
use Rattle.tx_select.proofs.lemmas.Placed.{match-sound, match-whole}
use Rattle.tx_cascade.specs.Matchers.{AreMatchers, matchers_of}

module _ (rows : List Row) (once : (n : ℕ) → count_of n rows ≤ 1) (state : State) where
  -- what is a match exactly where one is, is what the matcher tells
  pub same-matcher : (n : ℕ) (compounds : List Compound) (b : Bool) → (b ≡ true → IsMatch state rows n compounds) → (IsMatch state rows n compounds → b ≡ true)
      → b ≡ matchers_of state rows n compounds
  same-matcher n compounds true sound whole = sym (match-whole rows once state compounds n (sound refl))
  same-matcher n compounds false sound whole = elim (cases_Bool (matchers_of state rows n compounds)) [
    | inl is ↦ absurd (false≢true (whole (match-sound rows once state compounds n is)))
    | inr not_so ↦ sym not_so
  ]

  pub matchers-agree : AreMatchers state rows (matchers_of state rows)
  matchers-agree = record {
    sound = λ n compounds. match-sound rows once state compounds n;
    whole = λ n compounds. match-whole rows once state compounds n;
  }
