-- Which of two declarations of a sheet counts at a row, in the words of rules and selectors.
use Rattle.std.specs.Prelude.{◌≡◌, ◌⊎◌, ℕ, ◌<◌, true, false, List, Some}
use Rattle.std.specs.List.{slice_get}
use Rattle.tx_tree.specs.declared.row.Row.{Row}
use Rattle.tx_select.specs.Match.{IsMatch}
use Rattle.tx_select.specs.SelectorValue.{SelectorValue}
use Rattle.tx_select.specs.declared.value.Pseudo.{Pseudo as State}
use Rattle.tx_parse.specs.Values.{DeclarationValue, RuleValue, SheetValue}
use Rattle.tx_cascade.specs.Laws.{IsIn, IsMoreSpecific, Beats}
use Rattle.tx_cascade.specs.Matchers.{Matcher, AreMatchers}
use Rattle.tx_cascade.specs.Reaching.{weight, reached, reaching}
use Rattle.tx_cascade.specs.declared.key.Origin.TheVariants.{Sheet}
use Rattle.tx_cascade.specs.declared.key.Weight.{Weight}
use Rattle.tx_cascade.specs.declared.reaching.Reached.{Reached}

-- A rule counts at a row as so specific: one of its selectors matches there and is so specific, and none that matches there is more
-- specific.
pub record CountsAs (state : State) (rows : List Row) (n : ℕ) (rule : RuleValue) (so : Weight) : Type 0 where
  pub selector : SelectorValue
  pub own : IsIn selector rule.selectors
  pub matches : IsMatch state rows n selector.compounds
  pub specific : weight selector ≡ so
  pub most : (other : SelectorValue) → IsIn other rule.selectors → IsMatch state rows n other.compounds → IsMoreSpecific (weight other) so → ⊥

-- The declaration of a sheet at a place of the rule with a number reaches a row. The rule counts there as so specific.
pub record Reaches (sheet : SheetValue) (state : State) (rows : List Row) (n number place : ℕ) (declaration : DeclarationValue) (so : Weight) : Type 0 where
  pub rule : RuleValue
  pub numbered : slice_get sheet.rules number ≡ Some rule
  pub placed : slice_get rule.declarations place ≡ Some declaration
  pub counts : CountsAs state rows n rule so

-- The declarations of the sheet among all that reach a row are these, each with its number, its place and how specific its rule is.
pub record SheetReaches (sheet : SheetValue) (state : State) (rows : List Row) (n : ℕ) (matcher : Matcher) (inline : List ℕ) : Type 0 where
  pub found : (number place : ℕ) (declaration : DeclarationValue) (so : Weight) → Reaches sheet state rows n number place declaration so
      → IsIn (reached Sheet so number (place, declaration)) (reaching matcher sheet inline)
  pub only : (one : Reached) → IsIn one (reaching matcher sheet inline) → one.key.origin ≡ Sheet
      → Reaches sheet state rows n one.key.rule one.key.place (record { property = one.property; value = one.value; important = one.key.important }) one.key.weight

abbrev pub SheetReachesRows : Type 0
SheetReachesRows = (sheet : SheetValue) (state : State) (rows : List Row) (n : ℕ) (matchers : ℕ → Matcher) (inline : List ℕ) → AreMatchers state rows matchers
    → SheetReaches sheet state rows n (matchers n) inline

-- one declaration stands later in the sheet than another: in a later rule, or later in the same one
abbrev pub IsLater : ℕ → ℕ → ℕ → ℕ → Type 0
IsLater number place other_number other_place = (other_number < number) ⊎ ((number ≡ other_number) × (other_place < place))

-- Of two declarations that reach a row, neither of them important, the one whose rule counts there as more specific beats the
-- other, and where both count as equally specific, the one that stands later. An important one beats one that isn't.
pub record SheetOrder (sheet : SheetValue) (state : State) (rows : List Row) (n : ℕ) : Type 0 where
  pub specific : (number place other_number other_place : ℕ) (one other : DeclarationValue) (so than : Weight)
      → Reaches sheet state rows n number place one so → Reaches sheet state rows n other_number other_place other than
      → one.important ≡ false → other.important ≡ false → IsMoreSpecific so than
      → Beats (reached Sheet so number (place, one)).key (reached Sheet than other_number (other_place, other)).key
  pub later : (number place other_number other_place : ℕ) (one other : DeclarationValue) (so than : Weight)
      → Reaches sheet state rows n number place one so → Reaches sheet state rows n other_number other_place other than
      → one.important ≡ false → other.important ≡ false → so ≡ than → IsLater number place other_number other_place
      → Beats (reached Sheet so number (place, one)).key (reached Sheet than other_number (other_place, other)).key
  pub important : (number place other_number other_place : ℕ) (one other : DeclarationValue) (so than : Weight)
      → Reaches sheet state rows n number place one so → Reaches sheet state rows n other_number other_place other than
      → one.important ≡ true → other.important ≡ false
      → Beats (reached Sheet so number (place, one)).key (reached Sheet than other_number (other_place, other)).key

abbrev pub SheetsAreOrdered : Type 0
SheetsAreOrdered = (sheet : SheetValue) (state : State) (rows : List Row) (n : ℕ) → SheetOrder sheet state rows n
