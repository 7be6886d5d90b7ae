-- Which selectors match a row.
use Rattle.std.specs.Prelude.{◌≡◌, ℕ, Bool, true, List}
use Rattle.tx_tree.specs.declared.row.Row.{Row}
use Rattle.tx_select.specs.Climb.{is_match}
use Rattle.tx_select.specs.Match.{IsMatch}
use Rattle.tx_select.specs.declared.value.Compound.{Compound}
use Rattle.tx_select.specs.declared.value.Pseudo.{Pseudo as State}

-- tells of each selector, by its compounds, whether it matches a row
abbrev pub Matcher : Type 0
Matcher = List Compound → Bool

-- Of each row of a tree, by its number, these tell which selectors match it.
pub record AreMatchers (state : State) (rows : List Row) (matchers : ℕ → Matcher) : Type 0 where
  pub sound : (n : ℕ) (compounds : List Compound) → matchers n compounds ≡ true → IsMatch state rows n compounds
  pub whole : (n : ℕ) (compounds : List Compound) → IsMatch state rows n compounds → matchers n compounds ≡ true

-- those that look for a match from a row upwards
abbrev pub matchers_of : State → List Row → ℕ → Matcher
matchers_of state rows n compounds = is_match state rows compounds n
