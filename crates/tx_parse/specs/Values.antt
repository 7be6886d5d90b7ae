-- What contracts see of declarations, rules and sheets.
use Rattle.std.specs.Prelude.{ℕ, Bool, List, map}
use Rattle.tx_select.specs.SelectorValue.{SelectorValue}
use Rattle.tx_value.specs.Declarations.{Pair}
use Rattle.tx_value.specs.declared.property.Property.{Property}
use Rattle.tx_value.specs.declared.value.Value.{Value}

pub record DeclarationValue : Type 0 where
  pub property : Property
  pub value : Value
  pub important : Bool

pub record RuleValue : Type 0 where
  pub selectors : List SelectorValue
  pub declarations : List DeclarationValue

-- the rules, how many variables were defined and how many declarations written, and the rules of the default sheet
pub record SheetValue : Type 0 where
  pub rules : List RuleValue
  pub variables : ℕ
  pub declarations : ℕ
  pub defaults : List RuleValue

abbrev pub declaration_of : Bool → Pair → DeclarationValue
declaration_of important pair = record { property = pair.0; value = pair.1; important = important }

-- the declarations of these properties and values
abbrev pub important_pairs : Bool → List Pair → List DeclarationValue
important_pairs important pairs = map (declaration_of important) pairs
