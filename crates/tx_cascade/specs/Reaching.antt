-- The declarations that reach a row.
use Rattle.std.specs.Prelude.{ℕ, ◌+◌, ◌^◌, nat_lt, List, [], ◌++◌, length, map, filter, flat_map, Option, Result, Ok, Err, if◌then◌else◌}
use Rattle.std.specs.List.{enumerate_from, sum_by}
use Rattle.std.specs.Option.{option_map_or}
use Rattle.tx_select.specs.SelectorValue.{SelectorValue}
use Rattle.tx_select.specs.Specificity.{ids, classes, types}
use Rattle.tx_parse.specs.Grammar.{Body}
use Rattle.tx_parse.specs.Texts.{Report, inline_of}
use Rattle.tx_parse.specs.Values.{DeclarationValue, RuleValue, SheetValue}
use Rattle.tx_cascade.specs.Key.{weight_parts, greatest}
use Rattle.tx_cascade.specs.Matchers.{Matcher}
use Rattle.tx_cascade.specs.declared.key.Origin.{Origin}
use Rattle.tx_cascade.specs.declared.key.Origin.TheVariants.{Default, Sheet, Inline}
use Rattle.tx_cascade.specs.declared.key.Weight.{Weight}
use Rattle.tx_cascade.specs.declared.reaching.Reached.{Reached}

-- ---- rules

-- how specific a selector is
abbrev pub weight : SelectorValue → Weight
weight selector = record { ids = ids selector.compounds; classes = classes selector.compounds; types = types selector.compounds }

-- How specific a rule is at a row: as its most specific selector among those that match there.
abbrev pub weight_at : Matcher → List SelectorValue → Option Weight
weight_at matcher selectors = greatest weight_parts (map weight (filter (λ selector. matcher selector.compounds) selectors))

-- a declaration with its key, of a rule that is so specific and has this number
abbrev pub reached : Origin → Weight → ℕ → ℕ × DeclarationValue → Reached
reached origin weight rule declared = record {
  property = declared.1.property;
  value = declared.1.value;
  key = record { important = declared.1.important; origin = origin; weight = weight; rule = rule; place = declared.0 };
}

-- all of them, numbered from 0
abbrev pub all_reached : Origin → Weight → ℕ → List DeclarationValue → List Reached
all_reached origin weight rule declarations = map (reached origin weight rule) (enumerate_from 0 declarations)

-- those of a rule with its number: all where one of its selectors matches, else none
abbrev pub of_rule : Matcher → Origin → ℕ × RuleValue → List Reached
of_rule matcher origin rule = option_map_or (λ weight. all_reached origin weight rule.0 rule.1.declarations) (weight_at matcher rule.1.selectors) []

-- those of all rules, numbered from 0
unfoldable pub of_rules : Matcher → Origin → List RuleValue → List Reached
of_rules matcher origin rules = flat_map (of_rule matcher origin) (enumerate_from 0 rules)

-- ---- inline texts

-- no selector stands before a row's own declarations
abbrev pub no_weight : Weight
no_weight = record { ids = 0; classes = 0; types = 0 }

-- a text outside the grammar counts as empty
abbrev pub declared_in : Result Body Report → List DeclarationValue
declared_in (Ok body) = body.declarations
declared_in (Err report) = []

-- The declarations of an inline text. One of 2^32 bytes or more is no text that can be read, and counts as empty too.
unfoldable pub inline_declarations : List ℕ → List DeclarationValue
inline_declarations text = if nat_lt (length text) (2 ^ 32) then declared_in (inline_of text) else []

-- ---- all

-- All declarations that reach a row with this inline text, where its matcher tells which selectors match it. A sheet that was read
-- brings the rules of the default sheet with it.
unfoldable pub reaching : Matcher → SheetValue → List ℕ → List Reached
reaching matcher sheet inline =
    of_rules matcher Default sheet.defaults
    ++ (of_rules matcher Sheet sheet.rules ++ all_reached Inline no_weight 0 (inline_declarations inline))

-- how many selectors rules have
abbrev pub selectors_of : List RuleValue → ℕ
selectors_of rules = sum_by (λ rule. length rule.selectors) rules

-- how many the sheet and the default sheet have together
abbrev pub selectors_in : SheetValue → ℕ
selectors_in sheet = selectors_of sheet.defaults + selectors_of sheet.rules
