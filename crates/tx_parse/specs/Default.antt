-- What the text of the default sheet is read as, and a sheet with it.
use Rattle.std.specs.Prelude.{List, [], Result, Ok, Err}
use Rattle.tx_parse.specs.Values.{RuleValue, SheetValue}
use Rattle.tx_parse.specs.DefaultRules.{default_rules}
use Rattle.tx_parse.specs.Grammar.{Found}
use Rattle.tx_parse.specs.Texts.{Report}

-- the rules of a sheet that was read
abbrev pub rules_of : Result Found Report → List RuleValue
rules_of (Ok found) = found.rules
rules_of (Err report) = []

-- the sheet of what was found in it
abbrev pub sheet_value : Found → SheetValue
sheet_value found = record { rules = found.rules; variables = found.variables; declarations = found.written; defaults = default_rules }
