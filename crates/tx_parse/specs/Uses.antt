-- Which classes and pseudo-classes the selectors of a sheet have.
use Rattle.std.specs.Prelude.{ℕ, Bool, false, ◌||◌, List}
use Rattle.std.specs.List.{list_any}
use Rattle.std.specs.Str.{bytes_eq}
use Rattle.tx_select.specs.Pseudo.{pseudo_name}
use Rattle.tx_select.specs.declared.value.Part.{Part}
use Rattle.tx_select.specs.declared.value.Part.TheVariants.{Id, Class, Pseudo}
use Rattle.tx_select.specs.declared.value.Compound.{Compound}
use Rattle.tx_select.specs.SelectorValue.{SelectorValue}
use Rattle.tx_parse.specs.Values.{RuleValue, SheetValue}
use Rattle.tx_parse.specs.declared.uses.Sought.{Sought}
use Rattle.tx_parse.specs.declared.uses.Sought.TheVariants.{OfClass, OfPseudo}

-- whether a part is this class
abbrev pub is_class : List ℕ → Part → Bool
is_class name (Id id) = false
is_class name (Class class) = bytes_eq class name
is_class name (Pseudo pseudo) = false

-- whether it is the pseudo-class of this name
abbrev pub is_pseudo : List ℕ → Part → Bool
is_pseudo name (Id id) = false
is_pseudo name (Class class) = false
is_pseudo name (Pseudo pseudo) = bytes_eq (pseudo_name pseudo) name

-- whether it is what is looked for, of this name
abbrev pub is_sought : Sought → List ℕ → Part → Bool
is_sought OfClass name part = is_class name part
is_sought OfPseudo name part = is_pseudo name part

abbrev pub in_compound : (Part → Bool) → Compound → Bool
in_compound test compound = list_any test compound.parts

abbrev pub in_selector : (Part → Bool) → SelectorValue → Bool
in_selector test selector = list_any (in_compound test) selector.compounds

abbrev pub in_rule : (Part → Bool) → RuleValue → Bool
in_rule test rule = list_any (in_selector test) rule.selectors

-- whether a selector of the sheet, or of the default sheet, has such a part
abbrev pub in_sheet : (Part → Bool) → SheetValue → Bool
in_sheet test sheet = list_any (in_rule test) sheet.rules || list_any (in_rule test) sheet.defaults
